-- Rows that stand for packets are in echelon form, as whole vectors and as lists of coefficients; and one row more.
use Rattle.std.proofs.Common.{◌≡◌, ◌⊎◌, ℕ, suc, ◌+◌, ◌<◌, List, [], ◌∷◌, ◌++◌, length, take, get_or, refl, sym, ◌∙◌, subst, ⊎_elim, arith}
use Rattle.std.specs.List.{All}
use Rattle.std.proofs.lemmas.List.{get_or-take, get_or_append_left, get_or_push, length_push, take-append-le, take_at, length-take}
use Rattle.linear_spec.specs.declared.packet.Packet.{Packet}
use Rattle.linear_spec.specs.Symbols.{IsVector}
use Rattle.linear_spec.specs.Packet.{Fits, vector_of}
use Rattle.linear_spec.specs.Rows.{StandsFor, StandForAll, pivot_of}
use Rattle.linear_spec.proofs.Echelon.{IsClear, IsEchelon}
use Rattle.linear_spec.proofs.RowSpans.{IsVector-vector}

-- echelon form by places
record HasEchelonPlaces (n : ℕ) (view : Packet → List ℕ) (rows : List Packet) : Type 0 where
  is_vector : (i : ℕ) (d : Packet) → i < length rows → IsVector n (view (get_or rows i d))
  one : (i : ℕ) (d : Packet) → i < length rows → get_or (view (get_or rows i d)) (pivot_of (get_or rows i d)) 0 ≡ 1
  clear : (i j : ℕ) (d : Packet) → i < j → j < length rows → IsClear (view (get_or rows j d)) (get_or rows i d)

echelon_from_places : (n : ℕ) (view : Packet → List ℕ) (rows : List Packet) → HasEchelonPlaces n view rows → IsEchelon n view rows
echelon_from_places n view [] places = tt
echelon_from_places n view (row ∷ rows) places = (
  record {
    is_vector = places.is_vector 0 row (omega arith);
    one = places.one 0 row (omega arith);
    clear = λ j d h. places.clear 0 (suc j) d (omega arith) (omega arith);
  },
  echelon_from_places n view rows (record {
    is_vector = λ i d h. places.is_vector (suc i) d (omega arith);
    one = λ i d h. places.one (suc i) d (omega arith);
    clear = λ i j d h l. places.clear (suc i) (suc j) d (omega arith) (omega arith);
  }),
)

module _ (k s : ℕ) (packets rows : List Packet) (stand : StandForAll k s packets rows) where
  pub row_at : (i : ℕ) (d : Packet) → i < length rows → StandsFor k s (take i packets) (take i rows) (get_or packets i d) (get_or rows i d)
  row_at i d h = let count = stand.count in stand.each i d d (omega arith)

  pub cleared_at : (i j : ℕ) (d : Packet) → i < j → j < length rows → get_or (get_or rows j d).coeffs (pivot_of (get_or rows i d)) 0 ≡ 0
  cleared_at i j d h l =
      let inside : i < length (take j rows) = omega (arith, length-take j rows) in
      let same = get_or-take j rows i d h in
      subst (λ row. get_or (get_or rows j d).coeffs (pivot_of row) 0 ≡ 0) same ((row_at j d l).cleared i d inside)

  pub echelon_coefficients : IsEchelon k (λ packet. packet.coeffs) rows
  echelon_coefficients = echelon_from_places k (λ packet. packet.coeffs) rows (record {
    is_vector = λ i d h. (row_at i d h).fits.coeffs;
    one = λ i d h. (row_at i d h).one_at_pivot;
    clear = cleared_at;
  })

  pub pivots_below : All (λ row. pivot_of row < k) rows
  pivots_below i d h = (row_at i d h).pivot_below

  -- where a vector is 0 at the pivots, so are its first k symbols
  pub clear_below : (v : List ℕ) → All (λ row. get_or v (pivot_of row) 0 ≡ 0) rows → All (λ row. get_or (take k v) (pivot_of row) 0 ≡ 0) rows
  clear_below v clear i d h = get_or-take k v (pivot_of (get_or rows i d)) 0 (pivots_below i d h) ∙ clear i d h

  -- a vector's symbol at a place below k is a coefficient
  pub at_coefficient : (packet : Packet) (place : ℕ) → Fits k s packet → place < k → get_or (vector_of packet) place 0 ≡ get_or packet.coeffs place 0
  at_coefficient packet place fits h =
      let count = fits.coeffs.count in
      get_or_append_left packet.coeffs packet.payload 0 place (omega arith)

  pub echelon_vectors : IsEchelon (k + s) vector_of rows
  echelon_vectors = echelon_from_places (k + s) vector_of rows (record {
    is_vector = λ i d h. IsVector-vector k s (get_or rows i d) (row_at i d h).fits;
    one = λ i d h.
        let row = row_at i d h in
        at_coefficient (get_or rows i d) (pivot_of (get_or rows i d)) row.fits row.pivot_below ∙ row.one_at_pivot;
    clear = λ i j d h l.
        let before : i < length rows = omega arith in
        at_coefficient (get_or rows j d) (pivot_of (get_or rows i d)) (row_at j d l).fits (row_at i d before).pivot_below
        ∙ cleared_at i j d h l;
  })

pub stand_none : (k s : ℕ) → StandForAll k s [] []
stand_none k s = record { count = refl; each = λ i p q h. absurd (omega arith) }

pub stand_push : (k s : ℕ) (packets rows : List Packet) (packet row : Packet) → StandForAll k s packets rows → StandsFor k s packets rows packet row
    → StandForAll k s (packets ++ packet ∷ []) (rows ++ row ∷ [])
stand_push k s packets rows packet row stand last =
    let same = stand.count in
    let longer = length_push packets packet in
    let longer_rows = length_push rows row in
    record {
      count = omega arith;
      each = λ i p q h.
          let at : (i < length packets) ⊎ (i ≡ length packets) = grind arith in
          ⊎_elim (λ l. before i p q l) (λ e. here i p q e) at;
    }
  where
    before : (i : ℕ) (p q : Packet) → i < length packets → StandsFor k s (take i (packets ++ packet ∷ [])) (take i (rows ++ row ∷ [])) (get_or (packets ++ packet ∷ []) i p) (get_or (rows ++ row ∷ []) i q)
    before i p q l =
        let count = stand.count in
        let below : i < length rows = omega arith in
        rw (take-append-le i packets (packet ∷ []) (omega arith), take-append-le i rows (row ∷ []) (omega arith), get_or_append_left packets (packet ∷ []) p i l, get_or_append_left rows (row ∷ []) q i below)
        (stand.each i p q l)

    here : (i : ℕ) (p q : Packet) → i ≡ length packets → StandsFor k s (take i (packets ++ packet ∷ [])) (take i (rows ++ row ∷ [])) (get_or (packets ++ packet ∷ []) i p) (get_or (rows ++ row ∷ []) i q)
    here i p q e =
        let count = stand.count in
        rw (take_at packets (packet ∷ []) i (sym e), take_at rows (row ∷ []) i (count ∙ sym e), get_or_push packets packet p i (sym e), get_or_push rows row q i (count ∙ sym e))
        last
