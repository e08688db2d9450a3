-- What the remainder of a packet's vector by rows tells: whether the packet is fresh, whether it is within, and the row
-- that a fresh packet gives.
use Rattle.std.proofs.Common.{◌≡◌, ◌≢◌, ◌⊎◌, ◌↔◌, ℕ, zero, suc, ◌+◌, ◌-◌, ◌<◌, ◌≤◌, List, [], ◌∷◌, ◌++◌, length, take, drop, get_or, replicate, refl, sym, ap, ◌∙◌, subst, ⊎_elim, lit<, arith}
use Rattle.std.specs.List.{All}
use Rattle.std.proofs.lemmas.List.{get_or-take, get_or_past, map-append, take-append-drop, drop-replicate, replicate-append-replicate, length-drop}
use Rattle.std.proofs.lemmas.List.Elements.{All-head, All-tail, All-drop}
use Rattle.std.proofs.lemmas.Bool.{ne_eqb}
use Rattle.gf16.specs.Field.{IsSymbol, IsField, product_of}
use Rattle.gf16.specs.Sums.{plus_scaled, scaled}
use Rattle.linear_spec.specs.declared.packet.Packet.{Packet}
use Rattle.linear_spec.specs.Symbols.{AreSymbols, IsVector}
use Rattle.linear_spec.specs.Span.{InSpan}
use Rattle.linear_spec.specs.Packet.{Fits, vector_of, vectors_of, coefficients_of}
use Rattle.linear_spec.specs.Cases.{IsFresh, IsWithin}
use Rattle.linear_spec.specs.Rows.{StandsFor, StandForAll, IsRowOf, pivot_of, first_nonzero, remainder_of}
use Rattle.linear_spec.proofs.SpanLaws.{IsVector-take, IsVector-scaled, take-plus_scaled, plus_scaled-zeros, span-plus_scaled, span-scaled}
use Rattle.linear_spec.proofs.VectorLaws.{get_or-scaled}
use Rattle.linear_spec.proofs.VectorSums.{symbol_at, plus_twice, scaled-plus}
use Rattle.linear_spec.proofs.Echelon.{IsClear, IsVector-remainder, remainder-clear, remainder-in_span, echelon_zero}
use Rattle.linear_spec.proofs.RowSpans.{IsVector-vector, IsVector-vectors, IsVector-coefficients, take-vector, span-coefficients, rows_fit, rows_same_span, rows_same_coefficients}
use Rattle.linear_spec.proofs.RowPlaces.{echelon_coefficients, echelon_vectors, pivots_below, stand_push}

module _ (field : IsField) (k s : ℕ) (packets rows : List Packet) (packet : Packet) (fit : All (Fits k s) packets) (fits : Fits k s packet) (stand : StandForAll k s packets rows) where
  one : IsSymbol 1
  one = lit< tt

  abbrev vector : List ℕ
  vector = vector_of packet

  abbrev remainder : List ℕ
  remainder = remainder_of rows vector

  by_vector : IsVector (k + s) vector
  by_vector = IsVector-vector k s packet fits

  pub by_remainder : IsVector (k + s) remainder
  by_remainder = IsVector-remainder field (k + s) rows vector by_vector

  clear : All (IsClear remainder) rows
  clear = remainder-clear field (k + s) rows vector (echelon_vectors k s packets rows stand) by_vector

  -- the coefficients of the remainder are 0 at the pivots
  clear_coefficients : All (IsClear (take k remainder)) rows
  clear_coefficients i d h =
      get_or-take k remainder (pivot_of (get_or rows i d)) 0 (pivots_below k s packets rows stand i d h) ∙ clear i d h

  by_coefficients : IsVector k (take k remainder)
  by_coefficients = IsVector-take k s remainder by_remainder

  sum_in_span : InSpan (k + s) (vectors_of rows) (plus_scaled vector 1 remainder)
  sum_in_span = remainder-in_span field (k + s) rows vector (echelon_vectors k s packets rows stand) by_vector

  coefficients_sum : InSpan k (coefficients_of rows) (plus_scaled packet.coeffs 1 (take k remainder))
  coefficients_sum =
      subst (InSpan k (coefficients_of rows))
      (take-plus_scaled k 1 vector remainder ∙ ap (λ v. plus_scaled v 1 (take k remainder)) (take-vector k s packet fits))
      (span-coefficients k s field rows (plus_scaled vector 1 remainder) (rows_fit k s packets rows stand) sum_in_span)

  pub in_span_from_remainder : take k remainder ≡ replicate k 0 → InSpan k (coefficients_of packets) packet.coeffs
  in_span_from_remainder none =
      (rows_same_coefficients k s field packets rows fit stand packet.coeffs).1
      (subst (InSpan k (coefficients_of rows))
      (ap (plus_scaled packet.coeffs 1) none ∙ plus_scaled-zeros field 1 k packet.coeffs)
      coefficients_sum)

  pub remainder_from_in_span : InSpan k (coefficients_of packets) packet.coeffs → take k remainder ≡ replicate k 0
  remainder_from_in_span span =
      let by_rows = IsVector-coefficients k s rows (rows_fit k s packets rows stand) in
      let mine = (rows_same_coefficients k s field packets rows fit stand packet.coeffs).0 span in
      echelon_zero field k (λ row. row.coeffs) rows (take k remainder) (echelon_coefficients k s packets rows stand)
      (subst (InSpan k (coefficients_of rows)) (plus_twice field k packet.coeffs (take k remainder) fits.coeffs by_coefficients)
      (span-plus_scaled field k 1 (coefficients_of rows) packet.coeffs (plus_scaled packet.coeffs 1 (take k remainder)) by_rows one mine coefficients_sum))
      clear_coefficients

  pub within_from_remainder : remainder ≡ replicate (k + s) 0 → IsWithin k s packets packet
  within_from_remainder none =
      (rows_same_span k s field packets rows fit stand vector).1
      (subst (InSpan (k + s) (vectors_of rows))
      (ap (plus_scaled vector 1) none ∙ plus_scaled-zeros field 1 (k + s) vector)
      sum_in_span)

  pub remainder_from_within : IsWithin k s packets packet → remainder ≡ replicate (k + s) 0
  remainder_from_within span =
      let by_rows = IsVector-vectors k s rows (rows_fit k s packets rows stand) in
      let mine = (rows_same_span k s field packets rows fit stand vector).0 span in
      echelon_zero field (k + s) vector_of rows remainder (echelon_vectors k s packets rows stand)
      (subst (InSpan (k + s) (vectors_of rows)) (plus_twice field (k + s) vector remainder by_vector by_remainder)
      (span-plus_scaled field (k + s) 1 (vectors_of rows) vector (plus_scaled vector 1 remainder) by_rows one mine sum_in_span))
      clear

  pub fresh_exactly : IsFresh k packets packet ↔ (take k remainder ≢ replicate k 0)
  fresh_exactly = (λ fresh none. fresh (in_span_from_remainder none), λ some span. some (remainder_from_in_span span))

  pub within_exactly : take k remainder ≡ replicate k 0 → IsWithin k s packets packet ↔ (drop k remainder ≡ replicate s 0)
  within_exactly none = (
    λ within. ap (drop k) (remainder_from_within within) ∙ drop-replicate k (k + s) 0
        ∙ ap (λ n. replicate n 0) (let same : k + s - k ≡ s = omega arith in same),
    λ rest. within_from_remainder (sym (take-append-drop k remainder) ∙ ap (λ c. c ++ drop k remainder) none
        ∙ ap (λ p. replicate k 0 ++ p) rest ∙ replicate-append-replicate k s 0),
  )

-- a multiple that is not 0 keeps the place of the first symbol that is not 0
pub first_nonzero-scaled : (field : IsField) (c : ℕ) (v : List ℕ) → IsSymbol c → c ≢ 0 → AreSymbols v → first_nonzero (scaled c v) ≡ first_nonzero v
first_nonzero-scaled field c [] by_c some fit = refl
first_nonzero-scaled field c (zero ∷ v) by_c some fit =
    rw (field.product_zero c) (ap (λ n. 1 + n) (first_nonzero-scaled field c v by_c some (All-tail IsSymbol 0 v fit)))
first_nonzero-scaled field c (suc x ∷ v) by_c some fit =
    let product_some : product_of c (suc x) ≢ 0 =
    λ none. ⊎_elim some (λ e. absurd (omega arith)) (field.no_zero_divisors c (suc x) by_c (All-head IsSymbol (suc x) v fit) none) in
    rw (ne_eqb (product_of c (suc x)) 0 product_some, ne_eqb (suc x) 0 (λ none. absurd (omega arith))) refl

-- a symbol that is not 0 stands at the first such place, which is a place
first_nonzero-below : (v : List ℕ) → get_or v (first_nonzero v) 0 ≢ 0 → first_nonzero v < length v
first_nonzero-below v some =
    let cases : (first_nonzero v < length v) ⊎ (length v ≤ first_nonzero v) = grind arith in
    ⊎_elim (λ below. below) (λ past. absurd (some (get_or_past v (first_nonzero v) 0 past))) cases

module _ (field : IsField) (k s : ℕ) (packets rows : List Packet) (packet row : Packet) (fit : All (Fits k s) packets) (fits : Fits k s packet) (stand : StandForAll k s packets rows) (is_row : IsRowOf k rows packet row) where
  abbrev result : List ℕ
  result = remainder_of rows (vector_of packet)

  abbrev coeffs : List ℕ
  coeffs = take k result

  by_result : IsVector (k + s) result
  by_result = by_remainder field k s packets rows packet fit fits stand

  by_coeffs : IsVector k coeffs
  by_coeffs = IsVector-take k s result by_result

  -- the inverse is not 0
  inverse_some : is_row.inverse ≢ 0
  inverse_some none =
      let first = get_or coeffs (first_nonzero coeffs) 0 in
      let e : ◌≡◌ {A = ℕ} 0 1 = sym (ap (product_of first) none ∙ field.product_zero first) ∙ is_row.is_inverse in
      absurd (omega arith)

  -- nor is the first coefficient
  first_some : get_or coeffs (first_nonzero coeffs) 0 ≢ 0
  first_some none =
      let e : ◌≡◌ {A = ℕ} 0 1 = sym (ap (λ x. product_of x is_row.inverse) none ∙ field.zero_product is_row.inverse) ∙ is_row.is_inverse in
      absurd (omega arith)

  same_pivot : pivot_of row ≡ first_nonzero coeffs
  same_pivot = ap first_nonzero is_row.coeffs ∙ first_nonzero-scaled field is_row.inverse coeffs is_row.inverse_is_symbol inverse_some by_coeffs.symbols

  at_coeffs : (place : ℕ) → get_or row.coeffs place 0 ≡ product_of is_row.inverse (get_or coeffs place 0)
  at_coeffs place = ap (λ v. get_or v place 0) is_row.coeffs ∙ get_or-scaled field is_row.inverse place coeffs

  same_vector : vector_of row ≡ scaled is_row.inverse result
  same_vector =
      ap (λ c. c ++ row.payload) is_row.coeffs ∙ ap (λ p. scaled is_row.inverse coeffs ++ p) is_row.payload
      ∙ sym (map-append (product_of is_row.inverse) coeffs (drop k result)) ∙ ap (scaled is_row.inverse) (take-append-drop k result)

  row_fits : Fits k s row
  row_fits =
      let c = is_row.inverse in
      let by_c = is_row.inverse_is_symbol in
      let by_payload : IsVector s (drop k result) = record {
        count = (let count = by_result.count in omega (arith, length-drop k result));
        symbols = All-drop IsSymbol k result by_result.symbols;
      } in
      record {
        coeffs = subst (IsVector k) (sym is_row.coeffs) (IsVector-scaled field k c coeffs by_coeffs by_c);
        payload = subst (IsVector s) (sym is_row.payload) (IsVector-scaled field s c (drop k result) by_payload by_c);
      }

  pub row_stands : StandsFor k s packets rows packet row
  row_stands =
      let c = is_row.inverse in
      let by_c = is_row.inverse_is_symbol in
      let vector = vector_of packet in
      let by_vector = IsVector-vector k s packet fits in
      let by_rows = IsVector-vectors k s rows (rows_fit k s packets rows stand) in
      let echelon = echelon_vectors k s packets rows stand in
      let sum = remainder-in_span field (k + s) rows vector echelon by_vector in
      let first = get_or coeffs (first_nonzero coeffs) 0 in
      let below : first_nonzero coeffs < k = (let l = first_nonzero-below coeffs first_some in let count = by_coeffs.count in omega arith) in
      record {
        fits = row_fits;
        multiple = c;
        multiple_is_symbol = by_c;
        multiple_is_not_zero = inverse_some;
        in_span = (rows_same_span k s field packets rows fit stand (plus_scaled (vector_of row) c vector)).1
            (subst (InSpan (k + s) (vectors_of rows))
            (scaled-plus field (k + s) c result vector by_c by_result by_vector ∙ ap (λ v. plus_scaled v c vector) (sym same_vector))
            (span-scaled field (k + s) c (vectors_of rows) (plus_scaled vector 1 result) by_rows by_c sum));
        pivot_below = subst (λ p. p < k) (sym same_pivot) below;
        one_at_pivot = ap (λ p. get_or row.coeffs p 0) same_pivot ∙ at_coeffs (first_nonzero coeffs)
            ∙ field.product_commutes c first by_c (symbol_at k coeffs (first_nonzero coeffs) by_coeffs) ∙ is_row.is_inverse;
        cleared = λ i d h.
            let place = pivot_of (get_or rows i d) in
            at_coeffs place
            ∙ ap (product_of c) (clear_coefficients field k s packets rows packet fit fits stand i d h)
            ∙ field.product_zero c;
      }

  pub row_joins : StandForAll k s (packets ++ packet ∷ []) (rows ++ row ∷ [])
  row_joins = stand_push k s packets rows packet row stand row_stands
