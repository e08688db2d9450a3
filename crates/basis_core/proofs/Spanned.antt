-- The coefficients of an offered packet that passes are in the span of the records', whatever the reply was.
use Rattle.std.proofs.Common.{◌≡◌, ◌⊎◌, inl, inr, ℕ, ◌+◌, ◌<◌, List, [], ◌∷◌, ◌++◌, length, take, drop, get_or, refl, sym, ap, ◌∙◌, subst, ⊎_elim, arith}
use Rattle.std.specs.List.{All}
use Rattle.std.proofs.lemmas.List.{append-nil, append_assoc, map-append, take-append-drop, take_more, get_or-map, length-map}
use Rattle.std.proofs.lemmas.List.Elements.{All-map, All-push, All-take}
use Rattle.linear_spec.specs.declared.equations.Equations.{Equations}
use Rattle.linear_spec.specs.declared.packet.Packet.{Packet}
use Rattle.linear_spec.specs.declared.record.Record.{Record}
use Rattle.linear_spec.specs.declared.reply.Reply.TheVariants.{FailedCheck, Innovative, NotInnovative, Conflicting}
use Rattle.linear_spec.specs.Symbols.{IsVector}
use Rattle.linear_spec.specs.Packet.{Fits, coefficients_of}
use Rattle.linear_spec.specs.Span.{InSpan, HasRank, HasRankAfter}
use Rattle.linear_spec.specs.Cases.{IsFresh, IsWithin}
use Rattle.linear_spec.specs.RowLaws.{CaseLaws, RowLaws}
use Rattle.linear_spec.specs.SpanLaws.{RankLaws, SpanLaws}
use Rattle.linear_spec.specs.SequentialBasis.{packets_of}
use Rattle.basis_core.specs.Calls.{KeptCall, KeptOffer, KeptDraw}
use Rattle.basis_core.specs.Run.{AreInnovative}
use Rattle.basis_core.specs.Legal.{IsAnsweredOver, HasItsRecord, IsSpanned}
use Rattle.basis_core.proofs.Law.{innovative_at}

-- the coefficients of packets that fit
are_vectors : (k s : ℕ) (packets : List Packet) → All (Fits k s) packets → All (IsVector k) (coefficients_of packets)
are_vectors k s packets fit = All-map (IsVector k) (λ packet. packet.coeffs) packets (λ i d below. (fit i d below).coeffs)

-- a rank tells of its last vector whether it is in the span of the earlier ones
decided : (n : ℕ) (before vectors : List (List ℕ)) (last : List ℕ) (r : ℕ) → HasRankAfter n before (vectors ++ last ∷ []) r
    → InSpan n (before ++ vectors) last ⊎ (¬ InSpan n (before ++ vectors) last)
decided n before [] last r (inl within) = inl (subst (λ vs. InSpan n vs last) (sym (append-nil before)) within.0)
decided n before [] last r (inr fresh) = inr (λ span. fresh.0 (subst (λ vs. InSpan n vs last) (append-nil before) span))
decided n before (v ∷ vs) last r (inl within) =
    subst (λ us. InSpan n us last ⊎ (¬ InSpan n us last)) (append_assoc before (v ∷ []) vs)
    (decided n (before ++ v ∷ []) vs last r within.1)
decided n before (v ∷ vs) last r (inr fresh) =
    subst (λ us. InSpan n us last ⊎ (¬ InSpan n us last)) (append_assoc before (v ∷ []) vs)
    (decided n (before ++ v ∷ []) vs last fresh.1 fresh.3)

module _ (spans : SpanLaws) (cases : CaseLaws) (ranks : RankLaws) (equations : Equations) (records : List Record)
    (fit : All (Fits equations.k equations.s) (packets_of records)) where
  abbrev k : ℕ
  k = equations.k

  abbrev packets : List Packet
  packets = packets_of records

  -- what is in the span of a front is in the span of all
  from_front : (n : ℕ) (vector : List ℕ) → InSpan k (coefficients_of (take n packets)) vector → InSpan k (coefficients_of packets) vector
  from_front n vector span =
      let coeffs : Packet → List ℕ = λ packet. packet.coeffs in
      let whole : coefficients_of (take n packets) ++ coefficients_of (drop n packets) ≡ coefficients_of packets =
      sym (map-append coeffs (take n packets) (drop n packets)) ∙ ap coefficients_of (take-append-drop n packets) in
      subst (λ vs. InSpan k vs vector) whole
      (spans.grows k (coefficients_of (take n packets)) (coefficients_of (drop n packets)) vector
      (subst (All (IsVector k)) (sym whole) (are_vectors k equations.s packets fit)) span)

  -- a packet that is not fresh at a front follows from it
  not_fresh : (front : List Packet) (packet : Packet) → All (Fits k equations.s) front → Fits k equations.s packet
      → (¬ IsFresh k front packet) → InSpan k (coefficients_of front) packet.coeffs
  not_fresh front packet fit_front fits known =
      let vectors = coefficients_of front in
      let rank = ranks.some k (vectors ++ packet.coeffs ∷ [])
      (All-push (IsVector k) vectors packet.coeffs (are_vectors k equations.s front fit_front) fits.coeffs) in
      ⊎_elim (λ span. span) (λ fresh. absurd (known fresh)) (decided k [] vectors packet.coeffs rank.0 rank.1)

  -- a record's coefficients are among those that span
  recorded : (at caller : ℕ) (packet : Packet) → at < length records → ((d : Record) → (get_or records at d).packet ≡ packet)
      → InSpan k (coefficients_of packets) packet.coeffs
  recorded at caller packet within is =
      let any : Record = record { caller = caller; call = 0; packet = packet } in
      let long = length-map records (λ (r : Record). r.packet) in
      let there : get_or packets at packet ≡ packet = get_or-map (λ (r : Record). r.packet) records at any packet within ∙ is any in
      let more : take (at + 1) packets ≡ take at packets ++ packet ∷ [] =
      take_more packets at packet (omega arith) ∙ ap (λ p. take at packets ++ p ∷ []) there in
      let coefficients : coefficients_of (take (at + 1) packets) ≡ coefficients_of (take at packets) ++ packet.coeffs ∷ [] =
      ap coefficients_of more ∙ map-append (λ (p : Packet). p.coeffs) (take at packets) (packet ∷ []) in
      let vectors = are_vectors k equations.s (take (at + 1) packets) (All-take (Fits k equations.s) (at + 1) packets fit) in
      from_front (at + 1) packet.coeffs
      (subst (λ vs. InSpan k vs packet.coeffs) (sym coefficients)
      (spans.member k (coefficients_of (take at packets)) [] packet.coeffs (subst (All (IsVector k)) coefficients vectors)))

  pub spanned : (number : ℕ) (call : KeptCall) → HasItsRecord records number call → IsAnsweredOver equations records call
      → IsSpanned equations records call
  spanned number (KeptOffer tag packet (FailedCheck check at)) own over = λ passes fits.
      absurd (over.answered.0.fails (passes check over.answered.0.below))
  spanned number (KeptOffer tag packet (Innovative at)) own over = λ passes fits.
      let it = own packet refl in
      recorded at number packet it.within it.packet_is
  spanned number (KeptOffer tag packet (NotInnovative at)) own over = λ passes fits.
      from_front at packet.coeffs
      (cases.within_follows k equations.s (take at packets) packet (All-take (Fits k equations.s) at packets fit) fits over.answered.1.0)
  spanned number (KeptOffer tag packet (Conflicting at)) own over = λ passes fits.
      from_front at packet.coeffs (not_fresh (take at packets) packet (All-take (Fits k equations.s) at packets fit) fits over.answered.1.0.0)
  spanned number (KeptDraw tag drawn) own over = tt

  pub all_spanned : (number : ℕ) (calls : List KeptCall) → All (HasItsRecord records number) calls
      → All (IsAnsweredOver equations records) calls → All (IsSpanned equations records) calls
  all_spanned number calls own over = λ i d below. spanned number (get_or calls i d) (own i d below) (over i d below)

-- packets that are each fresh at those before it have their number as the rank
pub rank_is_count : (equations : Equations) (records : List Record) → All (Fits equations.k equations.s) (packets_of records)
    → AreInnovative equations (packets_of records)
    → RowLaws → HasRank equations.k (coefficients_of (packets_of records)) (length records)
rank_is_count equations records fit innovative laws =
    let packets = packets_of records in
    let rows = laws.some equations.k equations.s packets fit
    (λ at packet below. innovative_at equations packets [] innovative at packet below) in
    subst (HasRank equations.k (coefficients_of packets)) (length-map records (λ (r : Record). r.packet))
    (laws.packets_rank equations.k equations.s packets rows.0 fit rows.1)
