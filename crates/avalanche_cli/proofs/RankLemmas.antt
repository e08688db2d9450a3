-- The rank of the packets of a generation that pass is the number of its basis's records, whatever the schedule was.
use Rattle.std.proofs.Common.{◌≡◌, ℕ, ◌+◌, ◌<◌, ◌%◌, Bool, true, false, cond, List, [], ◌∷◌, ◌++◌, length, Some, refl, sym, subst}
use Rattle.std.specs.Prelude.{Option}
use Rattle.std.specs.List.{All, AllByRecursion, filter}
use Rattle.std.proofs.Math.Nat.{mod-lt}
use Rattle.std.proofs.lemmas.Bool.{eq-eqb}
use Rattle.std.proofs.lemmas.List.{append_assoc, map-append}
use Rattle.std.proofs.lemmas.List.Elements.{All-filter, All-from_recursion, All-map, All-weaker, recursion_from_All}
use Rattle.linear_spec.specs.declared.equations.Equations.{Equations}
use Rattle.linear_spec.specs.declared.packet.Packet.{Packet}
use Rattle.linear_spec.specs.declared.record.Record.{Record}
use Rattle.linear_spec.specs.Packet.{Fits, coefficients_of}
use Rattle.linear_spec.specs.Passing.{Passes}
use Rattle.linear_spec.specs.SequentialBasis.{packets_of}
use Rattle.linear_spec.specs.Span.{HasRank, InSpan}
use Rattle.linear_spec.specs.SpanLaws.{RankLaws, SpanLaws}
use Rattle.linear_spec.specs.Symbols.{IsVector}
use Rattle.basis_core.specs.declared.trace.BasisTrace.{BasisTrace}
use Rattle.basis_core.specs.Calls.{KeptCall, KeptOffer, KeptDraw}
use Rattle.basis_core.specs.Merge.{Given}
use Rattle.basis_core.specs.Legal.{IsLegalHistory, IsSpanned}
use Rattle.basis_core.specs.Run.{AreInnovative}
use Rattle.receive_pass.specs.declared.worker.TaggedPacket.{TaggedPacket}
use Rattle.receive_pass.specs.Workers.{AreOffersOf}
use Rattle.shared_reception.specs.declared.sends.Sending.{Sending}
use Rattle.shared_reception.specs.Dealing.{dealt_to, given_below, tagged_from}
use Rattle.avalanche_cli.specs.Packets.{passing_in}
use Rattle.avalanche_cli.specs.Trace.{IsLegalBasis, caller_count}
use Rattle.avalanche_cli.proofs.PassingLemmas.{is_passing, passing_of}
use Rattle.avalanche_cli.proofs.TraceLemmas.{given_here, is_caller}
use Rattle.avalanche_cli.proofs.TrueLemmas.{InnovativeLaw, RecordedLaw, and_left, and_right, is_taken, is_within, kept_head, kept_more, kept_tail, of_records}

-- ---- the laws that are used

-- an offered packet that passes has coefficients in the span of the records'
abbrev pub SpansLaw : Type 0
SpansLaw = (equations : Equations) (given : Given) (records : List Record) (number : ℕ) (calls : List KeptCall) → IsLegalHistory equations given records → given number ≡ Some calls → All (Fits equations.k equations.s) (packets_of records) → All (IsSpanned equations records) calls

-- the rank of the records is their number
abbrev pub RecordRankLaw : Type 0
RecordRankLaw = (equations : Equations) (records : List Record) → All (Fits equations.k equations.s) (packets_of records) → AreInnovative equations (packets_of records) → HasRank equations.k (coefficients_of (packets_of records)) (length records)

-- ---- packets lie in their own span

vectors_are : (k s : ℕ) (packets : List Packet) → All (Fits k s) packets → All (IsVector k) (coefficients_of packets)
vectors_are k s packets fit = All-map (IsVector k) (λ (p : Packet). p.coeffs) packets (All-weaker (Fits k s) (λ p. IsVector k p.coeffs) (λ p fits. fits.coeffs) packets fit)

members_after : SpanLaws → (k : ℕ) (front packets : List Packet) → All (IsVector k) (coefficients_of (front ++ packets)) → AllByRecursion (λ p. InSpan k (coefficients_of (front ++ packets)) p.coeffs) packets
members_after laws k front [] vectors = tt
members_after laws k front (p ∷ packets) vectors =
    let apart : coefficients_of (front ++ p ∷ packets) ≡ coefficients_of front ++ p.coeffs ∷ coefficients_of packets = map-append (λ (q : Packet). q.coeffs) front (p ∷ packets) in
    let joined : (front ++ p ∷ []) ++ packets ≡ front ++ p ∷ packets = append_assoc front (p ∷ []) packets in (
      subst (λ (l : List (List ℕ)). InSpan k l p.coeffs) (sym apart) (laws.member k (coefficients_of front) (coefficients_of packets) p.coeffs (subst (All (IsVector k)) apart vectors)),
      subst (λ (l : List Packet). AllByRecursion (λ q. InSpan k (coefficients_of l) q.coeffs) packets) joined
          (members_after laws k (front ++ p ∷ []) packets (subst (λ (l : List Packet). All (IsVector k) (coefficients_of l)) (sym joined) vectors)),
    )

-- ---- what holds of all packets that the receivers get holds of all packets of a generation

twice_head : (P : TaggedPacket → Type 0) (test : TaggedPacket → Bool) (c : Bool) (x : TaggedPacket) (xs : List TaggedPacket) → c ≡ true → test x ≡ true → AllByRecursion P (filter test (cond c (x ∷ xs) xs)) → P x
twice_head P test true x xs is here all = kept_head P (test x) x (filter test xs) here all
twice_head P test false x xs is here all = absurd cc

twice_tail : (P : TaggedPacket → Type 0) (test : TaggedPacket → Bool) (c : Bool) (x : TaggedPacket) (xs : List TaggedPacket) → AllByRecursion P (filter test (cond c (x ∷ xs) xs)) → AllByRecursion P (filter test xs)
twice_tail P test true x xs all = kept_tail P (test x) x (filter test xs) all
twice_tail P test false x xs all = all

module _ (Q : Packet → Type 0) (equations : Equations) (receivers generation : ℕ) (some : 0 < receivers) where
  abbrev Dealt : ℕ → List Packet → ℕ → Type 0
  Dealt receiver packets tag = AllByRecursion (λ d. Q d.packet) (filter (is_within generation) (filter (is_taken receivers receiver) (tagged_from packets tag)))

  all_dealt : (packets : List Packet) (tag : ℕ) → ((receiver : ℕ) → receiver < receivers → Dealt receiver packets tag) → AllByRecursion (λ p. Passes equations p × Q p) (filter (is_passing equations generation) packets)
  all_dealt [] tag all = tt
  all_dealt (first ∷ packets) tag all =
      let dealt : TaggedPacket = record { tag = tag; packet = first } in
      let P : TaggedPacket → Type 0 = λ d. Q d.packet in
      kept_more (λ p. Passes equations p × Q p) (is_passing equations generation first) first (filter (is_passing equations generation) packets)
      (λ is. (
        passing_of equations first (and_right _ _ is),
        twice_head P (is_within generation) (is_taken receivers (tag % receivers) dealt) dealt (filter (is_taken receivers (tag % receivers)) (tagged_from packets (tag + 1))) (eq-eqb (tag % receivers) (tag % receivers) refl) (and_left _ _ is) (all (tag % receivers) (mod-lt tag some)),
      ))
      (all_dealt packets (tag + 1) (λ receiver low. twice_tail P (is_within generation) (is_taken receivers receiver dealt) dealt (filter (is_taken receivers receiver) (tagged_from packets (tag + 1))) (all receiver low)))

abbrev SpannedBy : Equations → List Record → Packet → Type 0
SpannedBy equations records packet = Passes equations packet → Fits equations.k equations.s packet → InSpan equations.k (coefficients_of (packets_of records)) packet.coeffs

spanned_offers : (equations : Equations) (records : List Record) (dealt : List TaggedPacket) (calls : List KeptCall) → AreOffersOf dealt calls → AllByRecursion (IsSpanned equations records) calls → AllByRecursion (λ d. SpannedBy equations records d.packet) dealt
spanned_offers equations records [] calls are all = tt
spanned_offers equations records (first ∷ dealt) [] are all = absurd are
spanned_offers equations records (first ∷ dealt) (KeptDraw tag drawn ∷ calls) are all = absurd are
spanned_offers equations records (first ∷ dealt) (KeptOffer tag packet reply ∷ calls) are all =
    (subst (SpannedBy equations records) are.1 all.0, spanned_offers equations records dealt calls are.2 all.1)

-- ---- the rank

module _ (recorded : RecordedLaw) (innovative : InnovativeLaw) (spans : SpansLaw) (rank : RecordRankLaw) (span_laws : SpanLaws) (ranks : RankLaws) where
  pub legal_rank : (equations : Equations) (receivers : ℕ) (sending : Option Sending) (generation : ℕ) (packets : List Packet) (basis : BasisTrace) → 0 < receivers → All (Fits equations.k equations.s) packets → All (Fits equations.k equations.s) (packets_of basis.records.items) → IsLegalBasis equations receivers sending packets generation basis → HasRank equations.k (coefficients_of (passing_in equations generation packets)) (length basis.records.items)
  legal_rank equations receivers sending generation packets basis some fit records_fit is =
      let k = equations.k in
      let s = equations.s in
      let records = basis.records.items in
      let given = given_below (caller_count receivers sending) is.kept in
      let passing = passing_in equations generation packets in
      let own = coefficients_of passing in
      let its = coefficients_of (packets_of records) in
      let passing_fit : All (Fits k s) passing = All-filter (is_passing equations generation) (Fits k s) packets fit in
      let own_vectors : All (IsVector k) own = vectors_are k s passing passing_fit in
      let its_vectors : All (IsVector k) its = vectors_are k s (packets_of records) records_fit in
      let inside : All (λ (p : Packet). InSpan k own p.coeffs) (packets_of records) =
      of_records recorded innovative (λ p. InSpan k own p.coeffs) equations receivers sending packets generation basis is (All-from_recursion (λ (p : Packet). InSpan k own p.coeffs) passing (members_after span_laws k [] passing own_vectors)) in
      let spanned : AllByRecursion (λ (p : Packet). Passes equations p × SpannedBy equations records p) passing =
      all_dealt (SpannedBy equations records) equations receivers generation some packets 0 (λ receiver low.
      spanned_offers equations records (dealt_to receivers receiver generation packets) (is.kept receiver) (is.offers receiver low)
      (recursion_from_All (IsSpanned equations records) (is.kept receiver) (spans equations given records receiver (is.kept receiver) is.legal (given_here (caller_count receivers sending) receiver is.kept (is_caller receivers sending receiver low)) records_fit))) in
      let covered : All (λ (p : Packet). InSpan k its p.coeffs) passing = λ place other low.
      let both = All-from_recursion (λ (p : Packet). Passes equations p × SpannedBy equations records p) passing spanned place other low in
      both.1 both.0 (passing_fit place other low) in
      let own_in_its : All (InSpan k its) own = All-map (InSpan k its) (λ (p : Packet). p.coeffs) passing covered in
      let its_in_own : All (InSpan k own) its = All-map (InSpan k own) (λ (p : Packet). p.coeffs) (packets_of records) inside in
      ranks.one_span k (length records) its own its_vectors own_vectors
      (λ vector. (span_laws.closed k its own vector its_vectors own_vectors its_in_own, span_laws.closed k own its vector own_vectors its_vectors own_in_its))
      (rank equations records records_fit (innovative equations given records is.legal))
