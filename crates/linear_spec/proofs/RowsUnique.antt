-- Rows that stand for the same packets are the same vectors: a row and another for one packet differ by a multiple, and
-- both are 1 at their pivot.
use Rattle.std.proofs.Common.{◌≡◌, ◌≢◌, ◌⊎◌, ℕ, Bool, not, ◌==◌, ◌||◌, cond, zero, suc, ◌+◌, ◌<◌, List, [], ◌∷◌, length, map, take, get_or, replicate, refl, sym, ap, ap₂, ◌∙◌, subst, ⊎_elim, arith}
use Rattle.std.specs.List.{All, filter, list_any, range_with_len}
use Rattle.std.proofs.lemmas.List.{ext_get_or, get_or-map, get_or-take, length-map, length-take, take-map}
use Rattle.std.proofs.lemmas.List.Elements.{All-take}
use Rattle.gf16.specs.Field.{IsSymbol, IsField, sum_of, product_of}
use Rattle.gf16.specs.Sums.{plus_scaled, scaled}
use Rattle.linear_spec.specs.declared.packet.Packet.{Packet}
use Rattle.linear_spec.specs.Symbols.{IsVector}
use Rattle.linear_spec.specs.Span.{InSpan}
use Rattle.linear_spec.specs.Packet.{Fits, vector_of, vectors_of}
use Rattle.linear_spec.specs.Rows.{StandsFor, StandForAll, first_nonzero, missing_columns_of, pivot_of}
use Rattle.linear_spec.proofs.SpanLaws.{plus_scaled-commutes, plus_scaled-plus_scaled, plus_scaled-twice, scaled-one, span-plus_scaled, zeros-plus_scaled}
use Rattle.linear_spec.proofs.VectorLaws.{get_or-scaled}
use Rattle.linear_spec.proofs.VectorSums.{at_plus_scaled}
use Rattle.linear_spec.proofs.Echelon.{IsClear, echelon_zero}
use Rattle.linear_spec.proofs.RowSpans.{IsVector-vector, IsVector-vectors, rows_same_span, take-vector}
use Rattle.linear_spec.proofs.RowPlaces.{at_coefficient, echelon_vectors, pivots_below}
use Rattle.linear_spec.proofs.RowLaws.{stand_front}
use Rattle.linear_spec.proofs.Decision.{first_nonzero-scaled}

-- a row and a multiple of another are one row where both are 1 at their pivot
module _ (field : IsField) (k s c : ℕ) (row other : Packet) (fits : Fits k s row) (other_fits : Fits k s other) (symbol : IsSymbol c)
    (one : get_or row.coeffs (pivot_of row) 0 ≡ 1) (other_one : get_or other.coeffs (pivot_of other) 0 ≡ 1)
    (multiple : vector_of other ≡ scaled c (vector_of row)) where
  coefficients_too : other.coeffs ≡ scaled c row.coeffs
  coefficients_too =
      sym (take-vector k s other other_fits) ∙ ap (take k) multiple ∙ take-map (product_of c) k (vector_of row)
      ∙ ap (scaled c) (take-vector k s row fits)

  at_place : (place : ℕ) → get_or other.coeffs place 0 ≡ product_of c (get_or row.coeffs place 0)
  at_place place = ap (λ v. get_or v place 0) coefficients_too ∙ get_or-scaled field c place row.coeffs

  some : c ≢ 0
  some none =
      let e : ◌≡◌ {A = ℕ} 0 1 =
      sym (field.zero_product (get_or row.coeffs (pivot_of other) 0)) ∙ ap (λ d. product_of d (get_or row.coeffs (pivot_of other) 0)) (sym none)
      ∙ sym (at_place (pivot_of other)) ∙ other_one in
      absurd (omega arith)

  one_pivot : pivot_of other ≡ pivot_of row
  one_pivot = ap first_nonzero coefficients_too ∙ first_nonzero-scaled field c row.coeffs symbol some fits.coeffs.symbols

  is_one : c ≡ 1
  is_one =
      sym (field.product_one c) ∙ ap (product_of c) (sym one) ∙ sym (at_place (pivot_of row))
      ∙ ap (λ p. get_or other.coeffs p 0) (sym one_pivot) ∙ other_one

  same_row : vector_of other ≡ vector_of row
  same_row = multiple ∙ ap (λ d. scaled d (vector_of row)) is_one ∙ scaled-one field (vector_of row) (IsVector-vector k s row fits).symbols

-- two rows for one packet after the same packets: they differ by a multiple, as the other rows have the same pivots
module _ (field : IsField) (k s : ℕ) (packets rows others : List Packet) (packet row other : Packet) (fit : All (Fits k s) packets) (fits : Fits k s packet)
    (stand : StandForAll k s packets rows) (stands : StandsFor k s packets rows packet row) (too : StandsFor k s packets others packet other)
    (pivots : (i : ℕ) (d : Packet) → i < length rows → (i < length others) × (pivot_of (get_or others i d) ≡ pivot_of (get_or rows i d))) where
  abbrev factor : ℕ
  factor = product_of too.multiple (field.inverse stands.multiple stands.multiple_is_symbol stands.multiple_is_not_zero).0

  by_factor : IsSymbol factor
  by_factor =
      field.product_closed too.multiple (field.inverse stands.multiple stands.multiple_is_symbol stands.multiple_is_not_zero).0 too.multiple_is_symbol

  factor_times : product_of factor stands.multiple ≡ too.multiple
  factor_times =
      let inverse = field.inverse stands.multiple stands.multiple_is_symbol stands.multiple_is_not_zero in
      field.product_associates too.multiple inverse.0 stands.multiple too.multiple_is_symbol
      ∙ ap (product_of too.multiple) (field.product_commutes inverse.0 stands.multiple inverse.1 stands.multiple_is_symbol ∙ inverse.2)
      ∙ field.product_one too.multiple

  abbrev difference : List ℕ
  difference = plus_scaled (vector_of other) factor (vector_of row)

  difference_in_span : InSpan (k + s) (vectors_of packets) difference
  difference_in_span =
      let r = vector_of row in
      let o = vector_of other in
      let p = vector_of packet in
      let by_r = IsVector-vector k s row stands.fits in
      let by_p = IsVector-vector k s packet fits in
      subst (InSpan (k + s) (vectors_of packets))
      (plus_scaled-plus_scaled field factor stands.multiple (plus_scaled o too.multiple p) r p by_factor (by_r.count ∙ sym by_p.count)
      ∙ ap (λ m. plus_scaled (plus_scaled (plus_scaled o too.multiple p) factor r) m p) factor_times
      ∙ plus_scaled-commutes field factor too.multiple (plus_scaled o too.multiple p) r p
      ∙ ap (λ u. plus_scaled u factor r) (plus_scaled-twice field too.multiple o p))
      (span-plus_scaled field (k + s) factor (vectors_of packets) (plus_scaled o too.multiple p) (plus_scaled r stands.multiple p)
      (IsVector-vectors k s packets fit) by_factor too.in_span stands.in_span)

  difference_clear : All (IsClear difference) rows
  difference_clear i d below =
      let place = pivot_of (get_or rows i d) in
      let within = pivots_below k s packets rows stand i d below in
      let same = pivots i d below in
      let at_row : get_or (vector_of row) place 0 ≡ 0 =
      at_coefficient k s packets rows stand row place stands.fits within ∙ stands.cleared i d below in
      let at_other : get_or (vector_of other) place 0 ≡ 0 =
      at_coefficient k s packets rows stand other place too.fits within
      ∙ ap (λ p. get_or other.coeffs p 0) (sym same.1) ∙ too.cleared i d same.0 in
      at_plus_scaled field (k + s) factor (vector_of other) (vector_of row) place (IsVector-vector k s other too.fits) (IsVector-vector k s row stands.fits)
      ∙ ap (λ x. sum_of x (product_of factor (get_or (vector_of row) place 0))) at_other
      ∙ ap (λ x. sum_of 0 (product_of factor x)) at_row
      ∙ ap (sum_of 0) (field.product_zero factor) ∙ field.sum_zero 0

  is_multiple : vector_of other ≡ scaled factor (vector_of row)
  is_multiple =
      let r = vector_of row in
      let none : difference ≡ replicate (k + s) 0 =
      echelon_zero field (k + s) vector_of rows difference (echelon_vectors k s packets rows stand)
      ((rows_same_span k s field packets rows fit stand difference).0 difference_in_span) difference_clear in
      sym (plus_scaled-twice field factor (vector_of other) r) ∙ ap (λ u. plus_scaled u factor r) none
      ∙ zeros-plus_scaled field (k + s) factor r (IsVector-vector k s row stands.fits).count

  pub one_row : (vector_of other ≡ vector_of row) × (pivot_of other ≡ pivot_of row)
  one_row = (
    same_row field k s factor row other stands.fits too.fits by_factor stands.one_at_pivot too.one_at_pivot is_multiple,
    one_pivot field k s factor row other stands.fits too.fits by_factor stands.one_at_pivot too.one_at_pivot is_multiple,
  )

-- ---- all rows

module _ (field : IsField) (k s : ℕ) (packets rows others : List Packet) (fit : All (Fits k s) packets)
    (stand : StandForAll k s packets rows) (too : StandForAll k s packets others) where
  abbrev IsSameAt : ℕ → Type 0
  IsSameAt i = (d : Packet) → i < length packets
      → (vector_of (get_or others i d) ≡ vector_of (get_or rows i d)) × (pivot_of (get_or others i d) ≡ pivot_of (get_or rows i d))

  same_below : (n i : ℕ) → i < n → IsSameAt i
  same_below zero i below d inside = absurd (omega arith)
  same_below (suc n) i below d inside =
      let count = stand.count in
      let also = too.count in
      one_row field k s (take i packets) (take i rows) (take i others) (get_or packets i d) (get_or rows i d) (get_or others i d)
      (All-take (Fits k s) i packets fit) (fit i d inside) (stand_front k s i packets rows stand) (stand.each i d d inside) (too.each i d d inside)
      (λ j e h.
      let short = length-take i rows in
      let long = length-take i others in
      let before : j < i = omega arith in (
        omega arith,
        ap pivot_of (get_or-take i others j e before) ∙ (same_below n j (omega arith) e (omega arith)).1
            ∙ ap pivot_of (sym (get_or-take i rows j e before)),
      ))

  same_at : (i : ℕ) → IsSameAt i
  same_at i = same_below (suc i) i (omega arith)

  pub same_vectors : vectors_of others ≡ vectors_of rows
  same_vectors =
      let count = stand.count in
      let also = too.count in
      let blank : Packet = record { generation = 0; coeffs = []; payload = [] } in
      let long = length-map others vector_of in
      let short = length-map rows vector_of in
      ext_get_or [] (vectors_of others) (vectors_of rows) (omega arith) (λ i h.
      get_or-map vector_of others i blank [] (omega arith) ∙ (same_at i blank (omega arith)).0
      ∙ sym (get_or-map vector_of rows i blank [] (omega arith)))

  pub same_pivots : map pivot_of others ≡ map pivot_of rows
  same_pivots =
      let count = stand.count in
      let also = too.count in
      let blank : Packet = record { generation = 0; coeffs = []; payload = [] } in
      let long = length-map others pivot_of in
      let short = length-map rows pivot_of in
      ext_get_or 0 (map pivot_of others) (map pivot_of rows) (omega arith) (λ i h.
      get_or-map pivot_of others i blank 0 (omega arith) ∙ (same_at i blank (omega arith)).1
      ∙ sym (get_or-map pivot_of rows i blank 0 (omega arith)))

-- ---- missing columns

any_pivot : (rows : List Packet) (column : ℕ) → list_any (λ row. pivot_of row == column) rows ≡ list_any (λ p. p == column) (map pivot_of rows)
any_pivot [] column = refl
any_pivot (row ∷ rows) column = ap (λ b. (pivot_of row == column) || b) (any_pivot rows column)

filter_one : (p q : ℕ → Bool) → ((x : ℕ) → p x ≡ q x) → (xs : List ℕ) → filter p xs ≡ filter q xs
filter_one p q same [] = refl
filter_one p q same (x ∷ xs) = ap₂ (λ b rest. cond b (x ∷ rest) rest) (same x) (filter_one p q same xs)

pub same_columns : (field : IsField) (k s : ℕ) (packets rows others : List Packet) → All (Fits k s) packets → StandForAll k s packets rows
    → StandForAll k s packets others → missing_columns_of k others ≡ missing_columns_of k rows
same_columns field k s packets rows others fit stand too =
    filter_one (λ column. not (list_any (λ row. pivot_of row == column) others)) (λ column. not (list_any (λ row. pivot_of row == column) rows))
    (λ column.
    ap not (any_pivot others column ∙ ap (list_any (λ p. p == column)) (same_pivots field k s packets rows others fit stand too)
    ∙ sym (any_pivot rows column)))
    (range_with_len 0 k)
