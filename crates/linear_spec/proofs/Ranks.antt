-- The rank of a list of vectors: there is exactly one, it is at most the number of vectors and at most the number of their
-- symbols, and rows that stand for packets have as large a rank as can be.
use Rattle.std.proofs.Common.{◌≡◌, ℕ, zero, suc, ◌<◌, ◌≤◌, List, [], ◌∷◌, ◌++◌, length, take, get_or, replicate, refl, sym, ap, ◌∙◌, subst, inl, inr, arith}
use Rattle.std.specs.List.{All}
use Rattle.std.proofs.lemmas.List.{append-nil, append_assoc, length-map, get_or-map, take-map}
use Rattle.std.proofs.lemmas.List.Elements.{All-nil, All-head, All-tail, All-push, All-take}
use Rattle.gf16.specs.Field.{IsField}
use Rattle.linear_spec.specs.declared.packet.Packet.{Packet}
use Rattle.linear_spec.specs.Symbols.{IsVector}
use Rattle.linear_spec.specs.Span.{InSpan, HasRankAfter, HasRank}
use Rattle.linear_spec.specs.Packet.{coefficients_of}
use Rattle.linear_spec.specs.Rows.{StandForAll, pivot_of}
use Rattle.linear_spec.proofs.VectorSums.{get_or-zero}
use Rattle.linear_spec.proofs.Echelon.{IsClear, IsEchelon, echelon_zero}
use Rattle.linear_spec.proofs.RowPlaces.{echelon_coefficients}
use Rattle.linear_spec.proofs.SpanDecides.{span_decides}

rank_unique_after : (n : ℕ) (before vs : List (List ℕ)) (r q : ℕ) → HasRankAfter n before vs r → HasRankAfter n before vs q → r ≡ q
rank_unique_after n before [] r q one other = one ∙ sym other
rank_unique_after n before (v ∷ vs) r q (inl within) (inl too) = rank_unique_after n (before ++ v ∷ []) vs r q within.1 too.1
rank_unique_after n before (v ∷ vs) r q (inl within) (inr fresh) = absurd (fresh.0 within.0)
rank_unique_after n before (v ∷ vs) r q (inr fresh) (inl within) = absurd (fresh.0 within.0)
rank_unique_after n before (v ∷ vs) r q (inr fresh) (inr too) =
    fresh.2 ∙ ap suc (rank_unique_after n (before ++ v ∷ []) vs fresh.1 too.1 fresh.3 too.3) ∙ sym too.2

pub rank_unique : (n : ℕ) (vs : List (List ℕ)) (r q : ℕ) → HasRank n vs r → HasRank n vs q → r ≡ q
rank_unique n vs r q one other = rank_unique_after n [] vs r q one other

rank_some_after : (field : IsField) (n : ℕ) (before vs : List (List ℕ)) → All (IsVector n) before → All (IsVector n) vs → (r : ℕ) × HasRankAfter n before vs r
rank_some_after field n before [] by_before are = (0, refl)
rank_some_after field n before (v ∷ vs) by_before are =
    let by_v = All-head (IsVector n) v vs are in
    let others = All-tail (IsVector n) v vs are in
    join (span_decides field n before v by_before by_v)
    (rank_some_after field n (before ++ v ∷ []) vs (All-push (IsVector n) before v by_before by_v) others)
  where
    join : Dec (InSpan n before v) → (r : ℕ) × HasRankAfter n (before ++ v ∷ []) vs r → (r : ℕ) × HasRankAfter n before (v ∷ vs) r
    join (yes within) rest = (rest.0, inl (within, rest.1))
    join (no fresh) rest = (suc rest.0, inr (fresh, rest.0, refl, rest.1))

pub rank_some : (field : IsField) (n : ℕ) (vs : List (List ℕ)) → All (IsVector n) vs → (r : ℕ) × HasRank n vs r
rank_some field n vs are = rank_some_after field n [] vs (All-nil (IsVector n)) are

pub rank_at_most_length_after : (n : ℕ) (before vs : List (List ℕ)) (r : ℕ) → HasRankAfter n before vs r → r ≤ length vs
rank_at_most_length_after n before [] r rank = omega arith
rank_at_most_length_after n before (v ∷ vs) r (inl within) = let rest = rank_at_most_length_after n (before ++ v ∷ []) vs r within.1 in omega arith
rank_at_most_length_after n before (v ∷ vs) r (inr fresh) =
    let q = fresh.1 in
    let e = fresh.2 in
    let rest = rank_at_most_length_after n (before ++ v ∷ []) vs q fresh.3 in
    omega arith

pub rank_at_most_length : (n : ℕ) (vs : List (List ℕ)) (r : ℕ) → HasRank n vs r → r ≤ length vs
rank_at_most_length n vs r rank = rank_at_most_length_after n [] vs r rank

-- one vector more: the rank stays where the vector lies in the span, and else it grows by one
rank_more_after : (n : ℕ) (before vs : List (List ℕ)) (v : List ℕ) (r : ℕ) → HasRankAfter n before vs r
    → (InSpan n (before ++ vs) v → HasRankAfter n before (vs ++ v ∷ []) r)
    × ((¬ InSpan n (before ++ vs) v) → HasRankAfter n before (vs ++ v ∷ []) (suc r))
rank_more_after n before [] v r rank = (
  λ span. inl (subst (λ us. InSpan n us v) (append-nil before) span, rank),
  λ fresh. inr (λ span. fresh (subst (λ us. InSpan n us v) (sym (append-nil before)) span), r, refl, rank),
)
rank_more_after n before (w ∷ vs) v r (inl within) =
    let rest = rank_more_after n (before ++ w ∷ []) vs v r within.1 in
    let same = append_assoc before (w ∷ []) vs in (
      λ span. inl (within.0, rest.0 (subst (λ us. InSpan n us v) (sym same) span)),
      λ new. inl (within.0, rest.1 (λ span. new (subst (λ us. InSpan n us v) same span))),
    )
rank_more_after n before (w ∷ vs) v r (inr fresh) =
    let q = fresh.1 in
    let rest = rank_more_after n (before ++ w ∷ []) vs v q fresh.3 in
    let same = append_assoc before (w ∷ []) vs in (
      λ span. inr (fresh.0, q, fresh.2, rest.0 (subst (λ us. InSpan n us v) (sym same) span)),
      λ new. inr (fresh.0, suc q, ap suc fresh.2, rest.1 (λ span. new (subst (λ us. InSpan n us v) same span))),
    )

pub rank_more : (n r : ℕ) (vs : List (List ℕ)) (v : List ℕ) → HasRank n vs r
    → (InSpan n vs v → HasRank n (vs ++ v ∷ []) r) × ((¬ InSpan n vs v) → HasRank n (vs ++ v ∷ []) (suc r))
rank_more n r vs v rank = rank_more_after n [] vs v r rank

-- vectors none of which lies in the span of those before it
pub rank_of_fresh : (n : ℕ) (front back : List (List ℕ)) → ((i : ℕ) (d : List ℕ) → i < length back → ¬ InSpan n (front ++ take i back) (get_or back i d))
    → HasRankAfter n front back (length back)
rank_of_fresh n front [] fresh = refl
rank_of_fresh n front (v ∷ vs) fresh = inr (
  λ span. fresh 0 v (omega arith) (subst (λ us. InSpan n us v) (sym (append-nil front)) span),
  length vs,
  refl,
  rank_of_fresh n (front ++ v ∷ []) vs (λ i d h span.
      fresh (suc i) d (omega arith) (subst (λ us. InSpan n us (get_or vs i d)) (append_assoc front (v ∷ []) (take i vs)) span)),
)

echelon-take : (n : ℕ) (view : Packet → List ℕ) (i : ℕ) (rows : List Packet) → IsEchelon n view rows → IsEchelon n view (take i rows)
echelon-take n view zero rows echelon = tt
echelon-take n view (suc i) [] echelon = tt
echelon-take n view (suc i) (row ∷ rows) echelon = (
  record {
    is_vector = echelon.0.is_vector;
    one = echelon.0.one;
    clear = All-take (λ other. IsClear (view other) row) i rows echelon.0.clear;
  },
  echelon-take n view i rows echelon.1,
)

module _ (field : IsField) (k s : ℕ) (packets rows : List Packet) (stand : StandForAll k s packets rows) where
  pub row_fresh : (i : ℕ) (d : Packet) → i < length rows → ¬ InSpan k (coefficients_of (take i rows)) (get_or rows i d).coeffs
  row_fresh i d below span =
      let count = stand.count in
      let row = get_or rows i d in
      let stands = stand.each i d d (omega arith) in
      let zeros : row.coeffs ≡ replicate k 0 =
      echelon_zero field k (λ packet. packet.coeffs) (take i rows) row.coeffs
      (echelon-take k (λ packet. packet.coeffs) i rows (echelon_coefficients k s packets rows stand)) span stands.cleared in
      let e : ◌≡◌ {A = ℕ} 0 1 = sym (ap (λ v. get_or v (pivot_of row) 0) zeros ∙ get_or-zero k (pivot_of row)) ∙ stands.one_at_pivot in
      absurd (omega arith)

  pub rows_rank : HasRank k (coefficients_of rows) (length rows)
  rows_rank =
      subst (HasRank k (coefficients_of rows)) (length-map rows (λ packet. packet.coeffs))
      (rank_of_fresh k [] (coefficients_of rows) (λ i d h span.
      let blank : Packet = record { generation = 0; coeffs = d; payload = [] } in
      let below : i < length rows = omega (arith, length-map rows (λ packet. packet.coeffs)) in
      row_fresh i blank below
      (subst (InSpan k (coefficients_of (take i rows))) (get_or-map (λ packet. packet.coeffs) rows i blank d below)
      (subst (λ us. InSpan k us (get_or (coefficients_of rows) i d)) (take-map (λ packet. packet.coeffs) i rows) span))))
