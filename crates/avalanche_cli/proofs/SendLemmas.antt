-- The draws of bases: the entries that a trace has for them, and the packets that they send.
-- all: the traces of all bases, in which a draw looks its records up by its generation.
use Rattle.std.proofs.Common.{◌≡◌, ℕ, suc, Bool, true, false, ◌+◌, ◌*◌, ◌<◌, List, [], ◌∷◌, ◌++◌, length, map, take, get_or, refl, sym, ap, ap₂, ◌∙◌, arith}
use Rattle.std.specs.Prelude.{◌==◌, if◌then◌else◌}
use Rattle.std.specs.List.{flat_map}
use Rattle.std.proofs.lemmas.List.{length-append, length-map, map-append, take_all}
use Rattle.std.proofs.lemmas.List.Concat.{flat_map-append}
use Rattle.std.proofs.lemmas.List.Folds.{flat_map-map}
use Rattle.std.proofs.lemmas.List.FromFn.{length-range_with_len}
use Rattle.linear_spec.specs.declared.packet.Packet.{Packet}
use Rattle.linear_spec.specs.declared.record.Record.{Record}
use Rattle.linear_spec.specs.SequentialBasis.{packets_of}
use Rattle.linear_spec.specs.declared.record.Drawn.TheVariants.{Sent, Nothing}
use Rattle.basis_core.specs.declared.trace.BasisTrace.{BasisTrace}
use Rattle.basis_core.specs.Calls.{point_of_drawn}
use Rattle.recode.specs.Draws.{drawn_over, drawn_packet, left_by, numbers_of}
use Rattle.shared_basis.specs.declared.params.Closed.{Closed}
use Rattle.shared_reception.specs.declared.sends.SentDraw.{SentDraw}
use Rattle.shared_reception.specs.declared.sends.Sending.{Sending}
use Rattle.shared_reception.specs.Relayed.{sent_draw, sent_from, sent_of, sent_of_all}
use Rattle.generation.specs.Shape.{Dimensions, symbols_per_block}
use Rattle.avalanche_cli.specs.Files.{recorded_packets}
use Rattle.avalanche_cli.specs.Reception.{packets_in, trace_of, traces_of}
use Rattle.avalanche_cli.specs.Sends.{packet_of_send, packets_by, packets_sent_of, send_of, sends_of, sends_of_all}
use Rattle.avalanche_cli.specs.SendSteps.{entry_of, packets_of_draws}
use Rattle.avalanche_cli.specs.declared.trace.SendEntry.{SendEntry}
use Rattle.avalanche_cli.proofs.TraceLemmas.{recorded_of}

-- the records of bases
abbrev pub records_in : List Closed → List (List Record)
records_in bases = map (λ basis. basis.records.items) bases

-- ---- the entries

entries_each : (sending : Sending) (draw : ℕ → SentDraw) (send : ℕ → SendEntry) (numbers : List ℕ) → ((q : ℕ) → entry_of sending (draw q) ≡ send q) → map (entry_of sending) (map draw numbers) ≡ map send numbers
entries_each sending draw send [] same = refl
entries_each sending draw send (q ∷ numbers) same = ap₂ (λ (x : SendEntry) (l : List SendEntry). x ∷ l) (same q) (entries_each sending draw send numbers same)

entries_from : (k s : ℕ) (sending : Sending) (generation : ℕ) (bases : List Closed) → map (entry_of sending) (sent_from k s sending generation (records_in bases)) ≡ sends_of_all sending (traces_of generation bases)
entries_from k s sending generation [] = refl
entries_from k s sending generation (basis ∷ bases) =
    let records = basis.records.items in
    map-append (entry_of sending) (sent_of k s sending generation records) (sent_from k s sending (generation + 1) (records_in bases))
    ∙ ap₂ (λ (a b : List SendEntry). a ++ b)
    (entries_each sending (sent_draw k s sending generation records) (send_of sending generation (length records)) (numbers_of sending.coded generation) (λ q. refl))
    (entries_from k s sending (generation + 1) bases)

-- the draws as a trace has them are what the traces of the bases say is sent
pub entries_are : (k s : ℕ) (sending : Sending) (bases : List Closed) → map (entry_of sending) (sent_of_all k s sending bases) ≡ sends_of_all sending (traces_of 0 bases)
entries_are k s sending bases = entries_from k s sending 0 bases

-- ---- the packets

-- a draw over all records is one over the front that its answer tells
same_front : (test : Bool) (k s generation : ℕ) (key : List ℕ) (link q n : ℕ) (records : List Packet) (zeros : Packet) → length records ≡ n → packets_by (if test then Nothing else Sent n) (left_by (if test then Nothing else Sent n) (drawn_packet k s generation key link q records) zeros) ≡ packets_by (if test then Nothing else Sent n) (drawn_packet k s generation key link q (take (point_of_drawn (if test then Nothing else Sent n)) records))
same_front true k s generation key link q n records zeros counted = refl
same_front false k s generation key link q n records zeros counted = ap (λ (front : List Packet). drawn_packet k s generation key link q front ∷ []) (sym (take_all n records (omega arith)))

packets_each : {X : Type 0} (draw send : X → List Packet) (xs : List X) → ((x : X) → draw x ≡ send x) → flat_map draw xs ≡ flat_map send xs
packets_each draw send [] same = refl
packets_each draw send (x ∷ xs) same = ap₂ (λ (a b : List Packet). a ++ b) (same x) (packets_each draw send xs same)

packets_of_one : (d : Dimensions) (sending : Sending) (generation : ℕ) (all : List BasisTrace) (basis : Closed) → get_or (recorded_packets all) generation [] ≡ packets_of basis.records.items → packets_of_draws (sent_of d.k (symbols_per_block d) sending generation basis.records.items) ≡ packets_sent_of d sending.key all (sends_of sending (trace_of generation basis))
packets_of_one d sending generation all basis here =
    let k = d.k in
    let s = symbols_per_block d in
    let records = basis.records.items in
    let n = length records in
    let numbers = numbers_of sending.coded generation in
    let draw : ℕ → SentDraw = sent_draw k s sending generation records in
    let send : ℕ → SendEntry = send_of sending generation n in
    flat_map-map (λ (x : SentDraw). packets_by x.drawn x.packet) draw numbers
    ∙ packets_each (λ q. packets_by (draw q).drawn (draw q).packet) (λ q. packets_by (send q).drawn (packet_of_send d sending.key all (send q))) numbers (λ q.
    same_front (n == 0) k s generation sending.key sending.link q n (packets_of records) _ (length-map records (λ (r : Record). r.packet))
    ∙ ap (λ (l : List Packet). packets_by (drawn_over n) (drawn_packet k s generation sending.key sending.link q (take (point_of_drawn (drawn_over n)) l))) (sym here))
    ∙ sym (flat_map-map (λ (x : SendEntry). packets_by x.drawn (packet_of_send d sending.key all x)) send numbers)

-- the traces of these bases stand in a list from this generation on
abbrev StandFrom : List BasisTrace → ℕ → List Closed → Type 0
StandFrom all generation bases = (i at : ℕ) → i < length bases → at ≡ generation + i → get_or (recorded_packets all) at [] ≡ get_or (packets_in bases) i []

packets_from : (d : Dimensions) (sending : Sending) (generation : ℕ) (all : List BasisTrace) (bases : List Closed) → StandFrom all generation bases → packets_of_draws (sent_from d.k (symbols_per_block d) sending generation (records_in bases)) ≡ packets_sent_of d sending.key all (sends_of_all sending (traces_of generation bases))
packets_from d sending generation all [] stand = refl
packets_from d sending generation all (basis ∷ bases) stand =
    let k = d.k in
    let s = symbols_per_block d in
    let own = λ (x : SentDraw). packets_by x.drawn x.packet in
    let sent = λ (x : SendEntry). packets_by x.drawn (packet_of_send d sending.key all x) in
    flat_map-append own (sent_of k s sending generation basis.records.items) (sent_from k s sending (generation + 1) (records_in bases))
    ∙ ap₂ (λ (a b : List Packet). a ++ b)
    (packets_of_one d sending generation all basis (stand 0 generation (omega arith) (omega arith)))
    (packets_from d sending (generation + 1) all bases (λ i at low is. stand (suc i) at (omega arith) (omega arith)))
    ∙ sym (flat_map-append sent (sends_of sending (trace_of generation basis)) (sends_of_all sending (traces_of (generation + 1) bases)))

-- the packets that the draws send are those of what the traces of the bases say is sent
pub packets_are : (d : Dimensions) (sending : Sending) (bases : List Closed) → packets_of_draws (sent_of_all d.k (symbols_per_block d) sending bases) ≡ packets_sent_of d sending.key (traces_of 0 bases) (sends_of_all sending (traces_of 0 bases))
packets_are d sending bases = packets_from d sending 0 (traces_of 0 bases) bases (λ i at low is.
    ap (λ (l : List (List Packet)). get_or l at []) (recorded_of 0 bases) ∙ ap (λ (n : ℕ). get_or (packets_in bases) n []) (let same : at ≡ i = omega arith in same))

-- ---- their number

sent_count_from : (k s : ℕ) (sending : Sending) (generation : ℕ) (bases : List Closed) → length (sent_from k s sending generation (records_in bases)) ≡ length bases * sending.coded
sent_count_from k s sending generation [] = omega arith
sent_count_from k s sending generation (basis ∷ bases) =
    let numbers = numbers_of sending.coded generation in
    let draw = sent_draw k s sending generation basis.records.items in
    omega (arith, length-append (sent_of k s sending generation basis.records.items) (sent_from k s sending (generation + 1) (records_in bases)), length-map numbers draw, length-range_with_len (generation * sending.coded) sending.coded, sent_count_from k s sending (generation + 1) bases)

pub sent_count : (k s : ℕ) (sending : Sending) (bases : List Closed) → length (sent_of_all k s sending bases) ≡ length bases * sending.coded
sent_count k s sending bases = sent_count_from k s sending 0 bases
