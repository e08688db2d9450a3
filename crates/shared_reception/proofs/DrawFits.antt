-- The packets that a relay draws fit: the ones drawn over records that fit, and zeros.
use Rattle.std.proofs.Common.{ℕ, ◌+◌, ◌<◌, ◌==◌, ◌≡◌, true, false, List, [], ◌∷◌, if◌then◌else◌, length, map, replicate, get_or, subst, arith}
use Rattle.std.specs.Prelude.{Result, Ok, Err, IfOk}
use Rattle.std.specs.List.{All}
use Rattle.std.proofs.lemmas.List.{length-replicate}
use Rattle.std.proofs.lemmas.List.Elements.{All-append, All-head, All-map, All-nil, All-replicate, All-same, All-tail}
use Rattle.gf16.specs.Field.{IsSymbol}
use Rattle.linear_spec.specs.declared.equations.Equations.{Equations}
use Rattle.linear_spec.specs.declared.packet.Packet.{Packet}
use Rattle.linear_spec.specs.declared.record.Drawn.TheVariants.{Sent, Nothing}
use Rattle.linear_spec.specs.declared.record.Record.{Record}
use Rattle.linear_spec.specs.Packet.{Fits, zeros_of}
use Rattle.linear_spec.specs.SequentialBasis.{packets_of}
use Rattle.linear_spec.specs.Symbols.{IsVector}
use Rattle.recode.specs.Draws.{drawn_packet, left_by, numbers_of}
use Rattle.recode.specs.Laws.{DrawSpanLaws}
use Rattle.shared_basis.specs.declared.params.Closed.{Closed}
use Rattle.shared_reception.specs.declared.sends.Relayed.{Relayed}
use Rattle.shared_reception.specs.declared.sends.SentDraw.{SentDraw}
use Rattle.shared_reception.specs.declared.sends.Sending.{Sending}
use Rattle.shared_reception.specs.Relayed.{IsRelayedBy, sent_draw, sent_from, sent_of, sent_of_all}

zero_vector : (n : ℕ) → IsVector n (replicate n 0)
zero_vector n = record { count = length-replicate n 0; symbols = All-replicate IsSymbol n 0 (omega arith) }

zeros_fit : (k s generation : ℕ) → Fits k s (zeros_of k s generation)
zeros_fit k s generation = record { coeffs = zero_vector k; payload = zero_vector s }

draw_fits : DrawSpanLaws → (k s : ℕ) (sending : Sending) (generation : ℕ) (records : List Record) (q : ℕ) → All (Fits k s) (packets_of records)
    → Fits k s (sent_draw k s sending generation records q).packet
draw_fits laws k s sending generation records q fit =
    let drawn = drawn_packet k s generation sending.key sending.link q (packets_of records) in
    let zeros = zeros_of k s generation in
    elim (length records == 0) as (λ b. Fits k s (left_by (if b then Nothing else Sent (length records)) drawn zeros)) [
      | true ↦ zeros_fit k s generation
      | false ↦ laws.fits k s generation sending.link q sending.key (packets_of records) fit
    ]

-- a draw's packet fits
abbrev pub DrawFits : ℕ → ℕ → SentDraw → Type 0
DrawFits k s draw = Fits k s draw.packet

-- the records of a generation fit
abbrev RecordsFit : ℕ → ℕ → List Record → Type 0
RecordsFit k s records = All (Fits k s) (packets_of records)

sent_fit : DrawSpanLaws → (k s : ℕ) (sending : Sending) (generation : ℕ) (records : List Record) → RecordsFit k s records
    → All (DrawFits k s) (sent_of k s sending generation records)
sent_fit laws k s sending generation records fit =
    All-map (DrawFits k s) (sent_draw k s sending generation records) (numbers_of sending.coded generation)
    (λ i other low. draw_fits laws k s sending generation records (get_or (numbers_of sending.coded generation) i other) fit)

sent_from_fit : DrawSpanLaws → (k s : ℕ) (sending : Sending) (generation : ℕ) (lists : List (List Record)) → All (RecordsFit k s) lists
    → All (DrawFits k s) (sent_from k s sending generation lists)
sent_from_fit laws k s sending generation [] fit = All-nil (DrawFits k s)
sent_from_fit laws k s sending generation (records ∷ others) fit =
    All-append (DrawFits k s) (sent_of k s sending generation records) (sent_from k s sending (generation + 1) others)
    (sent_fit laws k s sending generation records (All-head (RecordsFit k s) records others fit))
    (sent_from_fit laws k s sending (generation + 1) others (All-tail (RecordsFit k s) records others fit))

-- the packets of all draws of a relay fit
pub all_fit : {E : Type 0} (result : Result Relayed E) → DrawSpanLaws → (equations : Equations) (receivers : ℕ) (packets : List Packet) (sending : Sending)
    → IfOk result (λ r. length r.bases.items ≡ equations.generations)
    → IfOk result (λ r. (generation : ℕ) (other : Closed) → generation < equations.generations
    → IsRelayedBy equations receivers generation packets sending (get_or r.bases.items generation other))
    → IfOk result (λ r. r.sent.items ≡ sent_of_all equations.k equations.s sending r.bases.items)
    → IfOk result (λ r. All (DrawFits equations.k equations.s) r.sent.items)
all_fit (Ok relayed) laws equations receivers packets sending count each sent =
    All-same (DrawFits equations.k equations.s) relayed.sent.items _ sent
    (sent_from_fit laws equations.k equations.s sending 0 (map (λ closed. closed.records.items) relayed.bases.items)
    (All-map (RecordsFit equations.k equations.s) (λ closed. closed.records.items) relayed.bases.items
    (λ i other low. (each i other (subst (λ (n : ℕ). i < n) count low)).fit)))
all_fit (Err error) laws equations receivers packets sending count each sent = tt
