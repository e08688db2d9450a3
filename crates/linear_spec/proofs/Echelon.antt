-- Rows in echelon form, head first: no vector of their span but zero is 0 at all pivots, and a vector reduced by them
-- is 0 there.
use Rattle.std.proofs.Common.{◌≡◌, ℕ, List, [], ◌∷◌, map, get_or, replicate, refl, sym, ap, ◌∙◌, subst}
use Rattle.std.specs.List.{All}
use Rattle.std.proofs.lemmas.List.Elements.{All-nil, All-cons, All-head, All-tail, All-map}
use Rattle.gf16.specs.Field.{IsField, sum_of, product_of}
use Rattle.gf16.specs.Sums.{plus_scaled}
use Rattle.linear_spec.specs.declared.packet.Packet.{Packet}
use Rattle.linear_spec.specs.Symbols.{IsVector}
use Rattle.linear_spec.specs.Span.{InSpan}
use Rattle.linear_spec.specs.Packet.{vector_of}
use Rattle.linear_spec.specs.Rows.{pivot_of, remainder_of}
use Rattle.linear_spec.proofs.SpanLaws.{IsVector-plus_scaled, plus_scaled-zero, IsVector-span, span-empty, span-zero, span-head, span-head_from}
use Rattle.linear_spec.proofs.VectorSums.{get_or-zero, symbol_at, plus_around, plus_self, at_plus_scaled}

-- where all vectors are 0 at a place, so is each of their span
pub span-clear : (field : IsField) (n place : ℕ) (vs : List (List ℕ)) (v : List ℕ) → All (IsVector n) vs → All (λ w. get_or w place 0 ≡ 0) vs → InSpan n vs v → get_or v place 0 ≡ 0
span-clear field n place [] v are clear span = ap (λ v. get_or v place 0) (span-empty n v span) ∙ get_or-zero n place
span-clear field n place (w ∷ vs) v are clear span =
    let by_w = All-head (IsVector n) w vs are in
    let others = All-tail (IsVector n) w vs are in
    let split = span-head field n w vs v by_w span in
    let c = split.0 in
    let by_rest = IsVector-span field n vs split.1 others split.3 in
    ap (λ v. get_or v place 0) split.4
    ∙ at_plus_scaled field n c split.1 w place by_rest by_w
    ∙ ap (λ x. sum_of x (product_of c (get_or w place 0)))
    (span-clear field n place vs split.1 others (All-tail (λ w. get_or w place 0 ≡ 0) w vs clear) split.3)
    ∙ ap (λ x. sum_of 0 (product_of c x)) (All-head (λ w. get_or w place 0 ≡ 0) w vs clear)
    ∙ ap (sum_of 0) (field.product_zero c)

-- a vector is 0 at the pivot of a row
abbrev pub IsClear : List ℕ → Packet → Type 0
IsClear v row = get_or v (pivot_of row) 0 ≡ 0

-- how a row stands before later ones, each seen as a vector of n symbols
pub record IsEchelonRow (n : ℕ) (view : Packet → List ℕ) (row : Packet) (later : List Packet) : Type 0 where
  pub is_vector : IsVector n (view row)
  pub one : get_or (view row) (pivot_of row) 0 ≡ 1
  pub clear : All (λ other. IsClear (view other) row) later

abbrev pub IsEchelon : ℕ → (Packet → List ℕ) → List Packet → Type 0
IsEchelon n view [] = Unit {0}
IsEchelon n view (row ∷ rows) = IsEchelonRow n view row rows × IsEchelon n view rows

module _ (field : IsField) (n : ℕ) (view : Packet → List ℕ) where
  pub IsVector-rows : (rows : List Packet) → IsEchelon n view rows → All (IsVector n) (map view rows)
  IsVector-rows [] echelon = All-nil (IsVector n)
  IsVector-rows (row ∷ rows) echelon = All-cons (IsVector n) (view row) (map view rows) echelon.0.is_vector (IsVector-rows rows echelon.1)

  pub echelon_zero : (rows : List Packet) (v : List ℕ) → IsEchelon n view rows → InSpan n (map view rows) v → All (IsClear v) rows → v ≡ replicate n 0
  echelon_zero [] v echelon span clear = span-empty n v span
  echelon_zero (row ∷ rows) v echelon span clear =
      let first = echelon.0 in
      let vectors = map view rows in
      let are = IsVector-rows rows echelon.1 in
      let split = span-head field n (view row) vectors v first.is_vector span in
      let c = split.0 in
      let rest = split.1 in
      let pivot = pivot_of row in
      let at_pivot : get_or rest pivot 0 ≡ 0 =
      span-clear field n pivot vectors rest are (All-map (λ w. get_or w pivot 0 ≡ 0) view rows first.clear) split.3 in
      let none : c ≡ 0 =
      sym (ap (λ v. get_or v pivot 0) split.4
      ∙ at_plus_scaled field n c rest (view row) pivot (IsVector-span field n vectors rest are split.3) first.is_vector
      ∙ ap (λ x. sum_of x (product_of c (get_or (view row) pivot 0))) at_pivot
      ∙ ap (λ x. sum_of 0 (product_of c x)) first.one
      ∙ ap (sum_of 0) (field.product_one c)
      ∙ field.zero_sum c)
      ∙ All-head (IsClear v) row rows clear in
      let same : v ≡ rest =
      split.4 ∙ ap (λ d. plus_scaled rest d (view row)) none ∙ plus_scaled-zero field rest (view row) in
      echelon_zero rows v echelon.1 (subst (InSpan n vectors) (sym same) split.3) (All-tail (IsClear v) row rows clear)

module _ (field : IsField) (n : ℕ) where
  -- one step of a reduction
  abbrev step : Packet → List ℕ → List ℕ
  step row v = plus_scaled v (get_or v (pivot_of row) 0) (vector_of row)

  IsVector-step : (row : Packet) (v : List ℕ) → IsVector n v → IsVector n (step row v)
  IsVector-step row v by_v =
      IsVector-plus_scaled field n (get_or v (pivot_of row) 0) v (vector_of row) by_v (symbol_at n v (pivot_of row) by_v)

  pub IsVector-remainder : (rows : List Packet) (v : List ℕ) → IsVector n v → IsVector n (remainder_of rows v)
  IsVector-remainder [] v by_v = by_v
  IsVector-remainder (row ∷ rows) v by_v = IsVector-remainder rows (step row v) (IsVector-step row v by_v)

  -- a place at which the rows are 0 keeps its symbol
  keeps_place : (rows : List Packet) (v : List ℕ) (place : ℕ) → IsEchelon n vector_of rows → All (λ row. get_or (vector_of row) place 0 ≡ 0) rows → IsVector n v
      → get_or (remainder_of rows v) place 0 ≡ get_or v place 0
  keeps_place [] v place echelon clear by_v = refl
  keeps_place (row ∷ rows) v place echelon clear by_v =
      let c = get_or v (pivot_of row) 0 in
      let kept : get_or (step row v) place 0 ≡ get_or v place 0 =
      at_plus_scaled field n c v (vector_of row) place by_v echelon.0.is_vector
      ∙ ap (λ x. sum_of (get_or v place 0) (product_of c x)) (All-head (λ row. get_or (vector_of row) place 0 ≡ 0) row rows clear)
      ∙ ap (sum_of (get_or v place 0)) (field.product_zero c) ∙ field.sum_zero (get_or v place 0) in
      keeps_place rows (step row v) place echelon.1 (All-tail (λ row. get_or (vector_of row) place 0 ≡ 0) row rows clear) (IsVector-step row v by_v)
      ∙ kept

  pub remainder-clear : (rows : List Packet) (v : List ℕ) → IsEchelon n vector_of rows → IsVector n v → All (IsClear (remainder_of rows v)) rows
  remainder-clear [] v echelon by_v = All-nil (IsClear v)
  remainder-clear (row ∷ rows) v echelon by_v =
      let first = echelon.0 in
      let pivot = pivot_of row in
      let c = get_or v pivot 0 in
      let gone : get_or (step row v) pivot 0 ≡ 0 =
      at_plus_scaled field n c v (vector_of row) pivot by_v first.is_vector
      ∙ ap (λ x. sum_of c (product_of c x)) first.one ∙ ap (sum_of c) (field.product_one c) ∙ field.sum_self c in
      All-cons (IsClear (remainder_of rows (step row v))) row rows
      (keeps_place rows (step row v) pivot echelon.1 first.clear (IsVector-step row v by_v) ∙ gone)
      (remainder-clear rows (step row v) echelon.1 (IsVector-step row v by_v))

  -- a vector plus its remainder lies in the span of the rows
  pub remainder-in_span : (rows : List Packet) (v : List ℕ) → IsEchelon n vector_of rows → IsVector n v → InSpan n (map vector_of rows) (plus_scaled v 1 (remainder_of rows v))
  remainder-in_span [] v echelon by_v =
      subst (InSpan n []) (sym (plus_self field n v by_v)) (span-zero field n [] (All-nil (IsVector n)))
  remainder-in_span (row ∷ rows) v echelon by_v =
      let c = get_or v (pivot_of row) 0 in
      let remainder = remainder_of rows (step row v) in
      let by_c = symbol_at n v (pivot_of row) by_v in
      let later = step row v in
      let by_later = IsVector-step row v by_v in
      subst (InSpan n (vector_of row ∷ map vector_of rows))
      (plus_around field c v remainder (vector_of row))
      (span-head_from field n c (vector_of row) (map vector_of rows) (plus_scaled later 1 remainder) echelon.0.is_vector by_c
      (remainder-in_span rows later echelon.1 by_later))
