-- What a packet's remainder by rows, as a reduced copy holds it, tells of the packet.
use Rattle.std.proofs.Common.{◌≡◌, ◌≢◌, ◌⊎◌, ⊎_elim, ℕ, ◌<◌, ◌≤◌, List, length, take, drop, get_or, replicate, sym, ap, ◌∙◌, subst, arith}
use Rattle.std.specs.List.{All}
use Rattle.std.proofs.Math.Seq.{take-append_seam, drop-append_seam}
use Rattle.std.proofs.lemmas.List.{get_or-replicate, get_or_past, length-replicate}
use Rattle.gf16.specs.Field.{IsField, IsSymbol, product_of}
use Rattle.gf16.specs.Sums.{scaled}
use Rattle.linear_spec.specs.declared.packet.Packet.{Packet}
use Rattle.linear_spec.specs.Cases.{IsFresh, IsWithin, IsConflicting}
use Rattle.linear_spec.specs.Packet.{Fits, vector_of}
use Rattle.linear_spec.specs.Rows.{StandsFor, StandForAll, IsRowOf, first_nonzero, pivot_of, remainder_of}
use Rattle.linear_spec.specs.Told.{AreRowsFor, StandBefore}
use Rattle.linear_spec.proofs.Decision.{fresh_exactly, within_exactly, row_stands}
use Rattle.linear_spec.proofs.RowLaws.{conflicting_exactly}

-- the row at a place stands for the packet there
at_row : (k s : ℕ) (packets rows : List Packet) (packet : Packet) → StandBefore k s packets rows packet → (i : ℕ) (d : Packet) → i < length rows
    → StandsFor k s (take i packets) (take i rows) (get_or packets i d) (get_or rows i d)
at_row k s packets rows packet before i d below =
    let here : i < length packets = let count = before.stand.count in omega arith in
    before.stand.each i d d here

-- rows for a packet have its lengths, and their pivots are columns
pub lengths_fit : (rows : List Packet) (packet copy : Packet) → AreRowsFor packet rows → copy ≡ packet
    → All (Fits (length copy.coeffs) (length copy.payload)) rows
lengths_fit rows packet copy are copied i d below =
    let fits = are.before.fits in
    let row = at_row are.k are.s are.packets rows packet are.before i d below in
    subst (λ p. Fits (length p.coeffs) (length p.payload) (get_or rows i d)) (sym copied)
    (subst (λ n. Fits n (length packet.payload) (get_or rows i d)) (sym fits.coeffs.count)
    (subst (λ n. Fits are.k n (get_or rows i d)) (sym fits.payload.count) row.fits))

pub pivots_fit : (rows : List Packet) (packet copy : Packet) → AreRowsFor packet rows → copy ≡ packet
    → All (λ row. pivot_of row < length copy.coeffs) rows
pivots_fit rows packet copy are copied i d below =
    let row = at_row are.k are.s are.packets rows packet are.before i d below in
    let count : length copy.coeffs ≡ are.k = ap (λ p. length p.coeffs) copied ∙ are.before.fits.coeffs.count in
    subst (λ n. pivot_of (get_or rows i d) < n) (sym count) row.pivot_below

get_or-zeros : (n place : ℕ) → ◌≡◌ {A = ℕ} (get_or (replicate n 0) place 0) 0
get_or-zeros n place =
    let cases : (place < n) ⊎ (n ≤ place) = grind arith in
    ⊎_elim (λ below. get_or-replicate n place 0 0 below)
    (λ past. get_or_past (replicate n 0) place 0 (subst (λ m. m ≤ place) (sym (length-replicate n 0)) past)) cases

-- a symbol with an inverse is not 0
inverse_tells : IsField → (n inverse : ℕ) (v : List ℕ) → product_of (get_or v (first_nonzero v) 0) inverse ≡ 1 → v ≢ replicate n 0
inverse_tells field n inverse v product zeros =
    let none : get_or v (first_nonzero v) 0 ≡ 0 = ap (λ u. get_or u (first_nonzero v) 0) zeros ∙ get_or-zeros n (first_nonzero v) in
    let e : ◌≡◌ {A = ℕ} 0 1 = sym (ap (λ x. product_of x inverse) none ∙ field.zero_product inverse) ∙ product in
    absurd (omega arith)

-- the copy that was reduced by the rows
pub record IsReduced (rows : List Packet) (packet reduced : Packet) : Type 0 where
  pub vector : vector_of reduced ≡ remainder_of rows (vector_of packet)
  pub coeffs : length reduced.coeffs ≡ length packet.coeffs
  pub payload : length reduced.payload ≡ length packet.payload

pub reduced_copy : (rows : List Packet) (packet copy reduced : Packet) → copy ≡ packet → vector_of reduced ≡ remainder_of rows (vector_of copy)
    → length reduced.coeffs ≡ length copy.coeffs → length reduced.payload ≡ length copy.payload → IsReduced rows packet reduced
reduced_copy rows packet copy reduced copied vector coeffs payload = record {
  vector = vector ∙ ap (λ p. remainder_of rows (vector_of p)) copied;
  coeffs = coeffs ∙ ap (λ p. length p.coeffs) copied;
  payload = payload ∙ ap (λ p. length p.payload) copied;
}

module _ (field : IsField) (rows : List Packet) (packet reduced : Packet) (is_reduced : IsReduced rows packet reduced) (k s : ℕ) (packets : List Packet) (before : StandBefore k s packets rows packet) where
  abbrev remainder : List ℕ
  remainder = remainder_of rows (vector_of packet)

  count : length reduced.coeffs ≡ k
  count = is_reduced.coeffs ∙ before.fits.coeffs.count

  front : take k remainder ≡ reduced.coeffs
  front = ap (take k) (sym is_reduced.vector) ∙ subst (λ n. take n (vector_of reduced) ≡ reduced.coeffs) count (take-append_seam reduced.coeffs reduced.payload)

  rest : drop k remainder ≡ reduced.payload
  rest = ap (drop k) (sym is_reduced.vector) ∙ subst (λ n. drop n (vector_of reduced) ≡ reduced.payload) count (drop-append_seam reduced.coeffs reduced.payload)

  pub tells_fresh : (inverse : ℕ) (row : Packet) → IsSymbol inverse → product_of (get_or reduced.coeffs (first_nonzero reduced.coeffs) 0) inverse ≡ 1
      → row.coeffs ≡ scaled inverse reduced.coeffs → row.payload ≡ scaled inverse reduced.payload
      → IsFresh k packets packet × StandsFor k s packets rows packet row
  tells_fresh inverse row symbol product coeffs payload =
      let one : product_of (get_or (take k remainder) (first_nonzero (take k remainder)) 0) inverse ≡ 1 =
      subst (λ v. product_of (get_or v (first_nonzero v) 0) inverse ≡ 1) (sym front) product in
      let is_row : IsRowOf k rows packet row = record {
        inverse = inverse;
        inverse_is_symbol = symbol;
        is_inverse = one;
        coeffs = coeffs ∙ ap (scaled inverse) (sym front);
        payload = payload ∙ ap (scaled inverse) (sym rest);
      } in (
        (fresh_exactly field k s packets rows packet before.fit before.fits before.stand).1 (inverse_tells field k inverse (take k remainder) one),
        row_stands field k s packets rows packet row before.fit before.fits before.stand is_row,
      )

  zeros : reduced.coeffs ≡ replicate (length reduced.coeffs) 0 → take k remainder ≡ replicate k 0
  zeros none = front ∙ none ∙ ap (λ n. replicate n 0) count

  no_payload : reduced.payload ≡ replicate (length reduced.payload) 0 → drop k remainder ≡ replicate s 0
  no_payload none = rest ∙ none ∙ ap (λ n. replicate n 0) (is_reduced.payload ∙ before.fits.payload.count)

  pub tells_within : reduced.coeffs ≡ replicate (length reduced.coeffs) 0 → reduced.payload ≡ replicate (length reduced.payload) 0
      → IsWithin k s packets packet
  tells_within none nothing =
      (within_exactly field k s packets rows packet before.fit before.fits before.stand (zeros none)).1 (no_payload nothing)

  pub tells_conflicting : reduced.coeffs ≡ replicate (length reduced.coeffs) 0 → reduced.payload ≢ replicate (length reduced.payload) 0
      → IsConflicting k s packets packet
  tells_conflicting none some =
      (conflicting_exactly field k s packets rows packet before.fit before.fits before.stand).1
      (zeros none, λ nothing. some (sym rest ∙ nothing ∙ ap (λ n. replicate n 0) (sym (is_reduced.payload ∙ before.fits.payload.count))))
