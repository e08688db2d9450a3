-- Packets that are all true to some blocks: the only file of a legal trace is then the file of these blocks.
use Rattle.std.proofs.Common.{◌≡◌, ℕ, zero, suc, ◌+◌, ◌<◌, Bool, true, false, cond, List, [], ◌∷◌, ◌++◌, length, map, get_or, None, Some, refl, sym, ap, ◌∙◌, subst, arith, inl, inr}
use Rattle.std.specs.Prelude.{Option, ◌%◌, ◌==◌, ◌&&◌}
use Rattle.std.specs.List.{All, AllByRecursion, AllZip, filter, flat_map, range_with_len}
use Rattle.std.proofs.lemmas.List.{get_or-map, length-map}
use Rattle.std.proofs.lemmas.List.FromFn.{get_or-map-range_with_len, length-map-range_with_len}
use Rattle.std.proofs.lemmas.List.Elements.{All-from_recursion, All-map, recursion_from_All}
use Rattle.linear_spec.specs.declared.equations.Equations.{Equations}
use Rattle.linear_spec.specs.declared.packet.Packet.{Packet}
use Rattle.linear_spec.specs.declared.record.Record.{Record}
use Rattle.linear_spec.specs.declared.reply.Reply.{Reply}
use Rattle.linear_spec.specs.declared.reply.Reply.TheVariants.{FailedCheck, Innovative, NotInnovative, Conflicting}
use Rattle.linear_spec.specs.Packet.{IsTrueTo}
use Rattle.linear_spec.specs.Passing.{Passes}
use Rattle.linear_spec.specs.SequentialBasis.{packets_of}
use Rattle.basis_core.specs.declared.trace.BasisTrace.{BasisTrace}
use Rattle.basis_core.specs.Calls.{KeptCall, KeptOffer, KeptDraw, recorded_at_reply}
use Rattle.basis_core.specs.Merge.{Given}
use Rattle.basis_core.specs.Legal.{IsLegalHistory, IsRecordedIn}
use Rattle.basis_core.specs.Run.{AreInnovative, AreInnovativeFrom}
use Rattle.receive_pass.specs.declared.worker.TaggedPacket.{TaggedPacket}
use Rattle.receive_pass.specs.Workers.{AreOffersOf}
use Rattle.shared_reception.specs.declared.sends.Sending.{Sending}
use Rattle.shared_reception.specs.Dealing.{dealt_to, given_below, tagged_from}
use Rattle.generation.specs.Shape.{generations_of, symbols_per_block}
use Rattle.generation.specs.Blocks.{file_of}
use Rattle.packet_wire.specs.Stream.{Contents}
use Rattle.avalanche_cli.specs.Files.{AreSolvedBy, IsOnlyFileOf, SolveEach, recorded_packets, source_file}
use Rattle.avalanche_cli.specs.Packets.{AreTrueTo, equations_of}
use Rattle.avalanche_cli.specs.Trace.{IsLegalBasis, IsLegalFetch, caller_count}
use Rattle.avalanche_cli.specs.declared.trace.Trace.{Trace}
use Rattle.avalanche_cli.proofs.PassingLemmas.{is_passing, passes_of}
use Rattle.avalanche_cli.proofs.TraceLemmas.{given_here, is_caller, no_trace}

-- ---- the laws that are used

-- each record of a caller was recorded by one of its calls
abbrev pub RecordedLaw : Type 0
RecordedLaw = (equations : Equations) (given : Given) (records : List Record) (number : ℕ) (calls : List KeptCall) → IsLegalHistory equations given records → given number ≡ Some calls → All (λ record'. record'.caller ≡ number → IsRecordedIn calls record'.packet) records

-- records pass, and each is fresh at those before it
abbrev pub InnovativeLaw : Type 0
InnovativeLaw = (equations : Equations) (given : Given) (records : List Record) → IsLegalHistory equations given records → AreInnovative equations (packets_of records)

-- ---- what holds of the packets of a generation that pass holds of those recorded

same_packet : (offered packet : Packet) (reply : Reply) → recorded_at_reply offered reply ≡ Some packet → offered ≡ packet
same_packet offered packet (FailedCheck check at) is = absurd cc
same_packet offered packet (Innovative at) is = cc
same_packet offered packet (NotInnovative at) is = absurd cc
same_packet offered packet (Conflicting at) is = absurd cc

of_offered : (P : Packet → Type 0) (dealt : List TaggedPacket) (calls : List KeptCall) (packet : Packet) → AreOffersOf dealt calls → AllByRecursion (λ d. P d.packet) dealt → IsRecordedIn calls packet → P packet
of_offered P [] [] packet are all is = absurd is
of_offered P [] (call ∷ calls) packet are all is = absurd are
of_offered P (first ∷ dealt) [] packet are all is = absurd are
of_offered P (first ∷ dealt) (KeptDraw tag drawn ∷ calls) packet are all is = absurd are
of_offered P (first ∷ dealt) (KeptOffer tag offered reply ∷ calls) packet are all (inl is) = subst P (sym are.1 ∙ same_packet offered packet reply is) all.0
of_offered P (first ∷ dealt) (KeptOffer tag offered reply ∷ calls) packet are all (inr is) = of_offered P dealt calls packet are.2 all.1 is

pub kept_head : {X : Type 0} (P : X → Type 0) (c : Bool) (x : X) (xs : List X) → c ≡ true → AllByRecursion P (cond c (x ∷ xs) xs) → P x
kept_head P true x xs is all = all.0
kept_head P false x xs is all = absurd cc

pub kept_tail : {X : Type 0} (P : X → Type 0) (c : Bool) (x : X) (xs : List X) → AllByRecursion P (cond c (x ∷ xs) xs) → AllByRecursion P xs
kept_tail P true x xs all = all.1
kept_tail P false x xs all = all

pub kept_more : {X : Type 0} (P : X → Type 0) (c : Bool) (x : X) (xs : List X) → (c ≡ true → P x) → AllByRecursion P xs → AllByRecursion P (cond c (x ∷ xs) xs)
kept_more P true x xs here all = (here refl, all)
kept_more P false x xs here all = all

and_both : (a b : Bool) → a ≡ true → b ≡ true → a && b ≡ true
and_both true b a_is b_is = b_is
and_both false b a_is b_is = absurd cc

pub and_left : (a b : Bool) → a && b ≡ true → a ≡ true
and_left true b is = refl
and_left false b is = absurd cc

pub and_right : (a b : Bool) → a && b ≡ true → b ≡ true
and_right true b is = is
and_right false b is = absurd cc

-- ---- of packets that a receiver gets, those of a generation: they are kept by two tests

abbrev pub is_taken : ℕ → ℕ → TaggedPacket → Bool
is_taken receivers receiver tagged = tagged.tag % receivers == receiver

abbrev pub is_within : ℕ → TaggedPacket → Bool
is_within generation tagged = tagged.packet.generation == generation

pub twice_more : (P : TaggedPacket → Type 0) (test : TaggedPacket → Bool) (c : Bool) (x : TaggedPacket) (xs : List TaggedPacket) → (test x ≡ true → P x) → AllByRecursion P (filter test xs) → AllByRecursion P (filter test (cond c (x ∷ xs) xs))
twice_more P test true x xs here all = kept_more P (test x) x (filter test xs) here all
twice_more P test false x xs here all = all

of_dealt : (P : Packet → Type 0) (equations : Equations) (receivers receiver generation : ℕ) (packets : List Packet) (tag : ℕ) → AllByRecursion P (filter (is_passing equations generation) packets) → AllByRecursion (λ d. Passes equations d.packet → P d.packet) (filter (is_within generation) (filter (is_taken receivers receiver) (tagged_from packets tag)))
of_dealt P equations receivers receiver generation [] tag all = tt
of_dealt P equations receivers receiver generation (first ∷ packets) tag all =
    let dealt : TaggedPacket = record { tag = tag; packet = first } in
    let rest = filter (is_passing equations generation) packets in
    twice_more (λ (d : TaggedPacket). Passes equations d.packet → P d.packet) (is_within generation) (is_taken receivers receiver dealt) dealt (filter (is_taken receivers receiver) (tagged_from packets (tag + 1)))
    (λ is pass. kept_head P (is_passing equations generation first) first rest (and_both _ _ is (passes_of equations first pass)) all)
    (of_dealt P equations receivers receiver generation packets (tag + 1) (kept_tail P (is_passing equations generation first) first rest all))

all_pass : (equations : Equations) (records : List Record) (front : List Packet) → AreInnovativeFrom equations (packets_of records) front → AllByRecursion (λ (r : Record). Passes equations r.packet) records
all_pass equations [] front are = tt
all_pass equations (first ∷ records) front are = (are.0.0, all_pass equations records (front ++ first.packet ∷ []) are.1)

pub of_records : RecordedLaw → InnovativeLaw → (P : Packet → Type 0) (equations : Equations) (receivers : ℕ) (sending : Option Sending) (packets : List Packet) (generation : ℕ) (basis : BasisTrace) → IsLegalBasis equations receivers sending packets generation basis → All P (filter (is_passing equations generation) packets) → All P (packets_of basis.records.items)
of_records recorded innovative P equations receivers sending packets generation basis is all =
    let records = basis.records.items in
    let given = given_below (caller_count receivers sending) is.kept in
    let pass : All (λ (r : Record). Passes equations r.packet) records = All-from_recursion (λ (r : Record). Passes equations r.packet) records (all_pass equations records [] (innovative equations given records is.legal)) in
    All-map P (λ (r : Record). r.packet) records (λ place other low.
    let r = get_or records place other in
    let listed : r.caller < receivers = is.listed place other low in
    let calls = is.kept r.caller in
    of_offered (λ (p : Packet). Passes equations p → P p) (dealt_to receivers r.caller generation packets) calls r.packet (is.offers r.caller listed)
    (of_dealt P equations receivers r.caller generation packets 0 (recursion_from_All P (filter (is_passing equations generation) packets) all))
    (recorded equations given records r.caller calls is.legal (given_here (caller_count receivers sending) r.caller is.kept (is_caller receivers sending r.caller listed)) place other low refl)
    (pass place other low))

-- ---- the file

zip_from : {X Y : Type 0} (R : X → Y → Type 0) (xs : List X) (ys : List Y) → length xs ≡ length ys → ((i : ℕ) (x : X) (y : Y) → i < length xs → R (get_or xs i x) (get_or ys i y)) → AllZip R xs ys
zip_from R [] [] long each = tt
zip_from R [] (y ∷ ys) long each = absurd (omega arith)
zip_from R (x ∷ xs) [] long each = absurd (omega arith)
zip_from R (x ∷ xs) (y ∷ ys) long each = (each 0 x y (omega arith), zip_from R xs ys (omega arith) (λ i v w low. each (suc i) v w (omega arith)))

zip_at : {X Y : Type 0} (R : X → Y → Type 0) (xs : List X) (ys : List Y) (i : ℕ) (x : X) (y : Y) → AllZip R xs ys → i < length xs → R (get_or xs i x) (get_or ys i y)
zip_at R [] [] i x y all low = absurd (omega arith)
zip_at R [] (other ∷ ys) i x y all low = absurd all
zip_at R (first ∷ xs) [] i x y all low = absurd all
zip_at R (first ∷ xs) (other ∷ ys) zero x y all low = all.0
zip_at R (first ∷ xs) (other ∷ ys) (suc i) x y all low = zip_at R xs ys i x y all.1 (omega arith)

joined_blocks : (blocks : ℕ → List (List ℕ)) (numbers : List ℕ) → flat_map blocks numbers ≡ flat_map (λ (generation : List (List ℕ)). generation) (map blocks numbers)
joined_blocks blocks [] = refl
joined_blocks blocks (number ∷ numbers) = ap (λ (l : List (List ℕ)). blocks number ++ l) (joined_blocks blocks numbers)

pub true_file : RecordedLaw → InnovativeLaw → (receivers : ℕ) (contents : Contents) (trace : Trace) (blocks : ℕ → List (List ℕ)) (file : List ℕ) → IsLegalFetch receivers contents trace → IsOnlyFileOf contents.manifest.shape (recorded_packets trace.bases.items) file → AreTrueTo contents blocks → file ≡ source_file contents.manifest.shape blocks
true_file recorded innovative receivers contents trace blocks file legal is_file true_to =
    let shape = contents.manifest.shape in
    let k = shape.k in
    let s = symbols_per_block shape in
    let count = generations_of shape in
    let packets = recorded_packets trace.bases.items in
    let packets_at : BasisTrace → List Packet = λ t. packets_of t.records.items in
    let long : length packets ≡ count = length-map trace.bases.items packets_at ∙ legal.count in
    let blocks_long : length (map blocks (range_with_len 0 count)) ≡ count = length-map-range_with_len blocks 0 count in
    let solve : SolveEach k s packets (map blocks (range_with_len 0 count)) = zip_from (AreSolvedBy k s) packets (map blocks (range_with_len 0 count)) (long ∙ sym blocks_long) (λ generation ps bs low.
    let below : generation < count = subst (λ (n : ℕ). generation < n) long low in
    let full : length (get_or packets generation ps) ≡ k = (zip_at (AreSolvedBy k s) packets is_file.is.blocks generation ps bs is_file.is.solve low).full in
    let here : get_or packets generation ps ≡ packets_of (get_or trace.bases.items generation no_trace).records.items = get_or-map packets_at trace.bases.items generation no_trace ps (omega (arith, legal.count)) in
    let there : get_or (map blocks (range_with_len 0 count)) generation bs ≡ blocks generation = get_or-map-range_with_len blocks 0 count generation generation bs below (omega arith) in
    let source = true_to generation below in
    let all : All (IsTrueTo s (blocks generation)) (packets_of (get_or trace.bases.items generation no_trace).records.items) =
    of_records recorded innovative (IsTrueTo s (blocks generation)) (equations_of contents) receivers None contents.packets generation (get_or trace.bases.items generation no_trace) (legal.bases generation no_trace below) source.true_to in
    subst (λ (b : List (List ℕ)). AreSolvedBy k s (get_or packets generation ps) b) (sym there)
    (record {
      full = full;
      solves = record { count = source.count; vectors = source.vectors; true_to = subst (λ (l : List Packet). All (IsTrueTo s (blocks generation)) l) (sym here) all };
    })) in
    sym (is_file.only (source_file shape blocks) (record {
      blocks = map blocks (range_with_len 0 count);
      solve = solve;
      file_is = ap (file_of shape) (joined_blocks blocks (range_with_len 0 count));
    }))
