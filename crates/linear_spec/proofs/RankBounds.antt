-- A rank is at most the number of symbols of a vector, since so many rows at most have different pivots.
use Rattle.std.proofs.Common.{◌≡◌, ◌≢◌, eqb, ℕ, zero, suc, ◌+◌, ◌<◌, ◌≤◌, List, [], ◌∷◌, ◌++◌, length, map, take, drop, get_or, replicate, refl, sym, ap, ◌∙◌, subst, inl, inr, lit<, arith}
use Rattle.std.specs.List.{All}
use Rattle.std.proofs.lemmas.Bool.{eqb-true, ne_eqb}
use Rattle.std.proofs.lemmas.Bool.Decides.{Decides-eqb}
use Rattle.std.proofs.lemmas.List.{length-map, length_push, get_or-map, map_push}
use Rattle.std.proofs.lemmas.List.Elements.{All-nil, All-head, All-tail, All-push}
use Rattle.std.proofs.lemmas.List.Folds.{Any-from_list_any}
use Rattle.std.proofs.lemmas.Map.Made.{IsDistinct-from_AllPairs}
use Rattle.std.proofs.lemmas.Map.Steps.{length-le_from_distinct_below}
use Rattle.gf16.specs.Field.{IsField}
use Rattle.gf16.specs.Sums.{scaled}
use Rattle.linear_spec.specs.declared.packet.Packet.{Packet}
use Rattle.linear_spec.specs.Symbols.{IsVector}
use Rattle.linear_spec.specs.Span.{InSpan, HaveOneSpan, HasRankAfter, HasRank}
use Rattle.linear_spec.specs.Packet.{Fits, vector_of, coefficients_of}
use Rattle.linear_spec.specs.Cases.{IsFresh}
use Rattle.linear_spec.specs.Rows.{StandForAll, IsRowOf, pivot_of, first_nonzero, remainder_of}
use Rattle.linear_spec.proofs.SpanLaws.{IsVector-nil, IsVector-take, span-zero, span-grows, span-closed}
use Rattle.linear_spec.proofs.SpanChanges.{span-members}
use Rattle.linear_spec.proofs.VectorSums.{symbol_at, plus_self}
use Rattle.linear_spec.proofs.RowSpans.{same_span_push, IsVector-coefficients}
use Rattle.linear_spec.proofs.RowPlaces.{cleared_at, row_at, pivots_below, stand_none}
use Rattle.linear_spec.proofs.Decision.{by_remainder, in_span_from_remainder, row_joins}

-- a vector that is not zero has a symbol that is not 0
first_nonzero-some : (n : ℕ) (v : List ℕ) → length v ≡ n → v ≢ replicate n 0 → get_or v (first_nonzero v) 0 ≢ 0
first_nonzero-some zero [] count some none = some refl
first_nonzero-some (suc n) [] count some none = absurd (omega arith)
first_nonzero-some zero (x ∷ v) count some none = absurd (omega arith)
first_nonzero-some (suc n) (suc x ∷ v) count some none =
    let at : get_or (suc x ∷ v) (first_nonzero (suc x ∷ v)) 0 ≡ suc x = rw (ne_eqb (suc x) 0 (λ e. absurd (omega arith))) refl in
    absurd (omega arith)
first_nonzero-some (suc n) (zero ∷ v) count some none =
    let place = first_nonzero v in
    let next : 1 + place ≡ suc place = omega arith in
    first_nonzero-some n v (omega arith) (λ e. some (ap (λ u. 0 ∷ u) e)) (sym (ap (λ p. get_or (0 ∷ v) p 0) next) ∙ none)

module _ (field : IsField) (k s : ℕ) (packets rows : List Packet) (packet : Packet) (fit : All (Fits k s) packets) (fits : Fits k s packet) (stand : StandForAll k s packets rows) where
  -- a fresh packet gives a row
  pub fresh_gives_row : IsFresh k packets packet → (row : Packet) × IsRowOf k rows packet row
  fresh_gives_row fresh =
      let result = remainder_of rows (vector_of packet) in
      let coeffs = take k result in
      let by_coeffs = IsVector-take k s result (by_remainder field k s packets rows packet fit fits stand) in
      let some = first_nonzero-some k coeffs by_coeffs.count (λ none. fresh (in_span_from_remainder field k s packets rows packet fit fits stand none)) in
      let inverse = field.inverse (get_or coeffs (first_nonzero coeffs) 0) (symbol_at k coeffs (first_nonzero coeffs) by_coeffs) some in (
        record { generation = 0; coeffs = scaled inverse.0 coeffs; payload = scaled inverse.0 (drop k result) },
        record { inverse = inverse.0; inverse_is_symbol = inverse.1; is_inverse = inverse.2; coeffs = refl; payload = refl },
      )

module _ (k s : ℕ) (packets rows : List Packet) (stand : StandForAll k s packets rows) where
  pub pivots_differ : (i j : ℕ) (d : Packet) → i < j → j < length rows → pivot_of (get_or rows i d) ≢ pivot_of (get_or rows j d)
  pivots_differ i j d h l same =
      let row = get_or rows j d in
      let e : ◌≡◌ {A = ℕ} 0 1 =
      sym (cleared_at k s packets rows stand i j d h l) ∙ ap (λ p. get_or row.coeffs p 0) same
      ∙ (row_at k s packets rows stand j d l).one_at_pivot in
      absurd (omega arith)

  pub rows_at_most : length rows ≤ k
  rows_at_most =
      let blank : Packet = record { generation = 0; coeffs = []; payload = [] } in
      let pivots = map pivot_of rows in
      let count = length-map rows pivot_of in
      let at : (i e : ℕ) → i < length pivots → get_or pivots i e ≡ pivot_of (get_or rows i blank) =
      λ i e h. get_or-map pivot_of rows i blank e (omega arith) in
      let most : length pivots ≤ k =
      length-le_from_distinct_below pivots k
      (IsDistinct-from_AllPairs Decides-eqb pivots (λ i j e h l same.
      let before : i < length pivots = omega arith in
      pivots_differ i j blank h (omega arith) (sym (at i e before) ∙ same ∙ at j e l)))
      (λ q found.
      let any = Any-from_list_any (eqb q) pivots found in
      let place = any.0 in
      let inside = any.2 in
      let same = eqb-true q any.1 any.4 in
      let value = at place any.1 inside in
      let is = any.3 in
      let below = pivots_below k s packets rows stand place blank (omega arith) in
      subst (λ p. p < k) (sym (same ∙ sym is ∙ value)) below) in
      omega arith

rank_with_rows : (field : IsField) (n : ℕ) (before vs : List (List ℕ)) (r : ℕ) (packets rows : List Packet) → All (Fits n 0) packets → StandForAll n 0 packets rows
    → All (IsVector n) before → All (IsVector n) vs → HaveOneSpan n before (coefficients_of packets) → HasRankAfter n before vs r → length packets + r ≤ n
rank_with_rows field n before [] r packets rows fit stand by_before are same rank =
    let count = stand.count in
    let most = rows_at_most n 0 packets rows stand in
    omega arith
rank_with_rows field n before (v ∷ vs) r packets rows fit stand by_before are same (inl within) =
    let by_v = All-head (IsVector n) v vs are in
    let longer = All-push (IsVector n) before v by_before by_v in
    rank_with_rows field n (before ++ v ∷ []) vs r packets rows fit stand longer (All-tail (IsVector n) v vs are)
    (λ u. (
      λ span. (same u).0 (span-closed field n (before ++ v ∷ []) before u longer by_before
          (All-push (InSpan n before) before v (span-members field n before by_before) within.0) span),
      λ span. span-grows field n before (v ∷ []) u longer ((same u).1 span),
    ))
    within.1
rank_with_rows field n before (v ∷ vs) r packets rows fit stand by_before are same (inr fresh) =
    let by_v = All-head (IsVector n) v vs are in
    let packet : Packet = record { generation = 0; coeffs = v; payload = [] } in
    let fits : Fits n 0 packet = record { coeffs = by_v; payload = IsVector-nil } in
    let row = fresh_gives_row field n 0 packets rows packet fit fits stand (λ span. fresh.0 ((same v).1 span)) in
    let by_packets = IsVector-coefficients n 0 packets fit in
    let pushed : HaveOneSpan n (before ++ v ∷ []) (coefficients_of packets ++ v ∷ []) =
    same_span_push field n before (coefficients_of packets) v v 1 by_before by_packets by_v by_v (lit< tt) (λ e. absurd (omega arith))
    (subst (InSpan n before) (sym (plus_self field n v by_v)) (span-zero field n before by_before)) same in
    let rest = rank_with_rows field n (before ++ v ∷ []) vs fresh.1 (packets ++ packet ∷ []) (rows ++ row.0 ∷ [])
    (All-push (Fits n 0) packets packet fit fits)
    (row_joins field n 0 packets rows packet row.0 fit fits stand row.1)
    (All-push (IsVector n) before v by_before by_v) (All-tail (IsVector n) v vs are)
    (subst (HaveOneSpan n (before ++ v ∷ [])) (sym (map_push (λ packet. packet.coeffs) packets packet)) pushed)
    fresh.3 in
    let e = fresh.2 in
    omega (arith, length_push packets packet)

pub rank_at_most : (field : IsField) (n : ℕ) (vs : List (List ℕ)) (r : ℕ) → All (IsVector n) vs → HasRank n vs r → r ≤ n
rank_at_most field n vs r are rank =
    let most = rank_with_rows field n [] vs r [] [] (All-nil (Fits n 0)) (stand_none n 0) (All-nil (IsVector n)) are (λ v. (λ h. h, λ h. h)) rank in
    omega arith
