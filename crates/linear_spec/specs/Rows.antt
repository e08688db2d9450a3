-- Rows in echelon form: a row stands for a packet after those before it.
-- k, s: the numbers of coefficients and of payload symbols of each packet. row: what has the form of a packet. column: the
-- place of a coefficient, below k. pivot: the column of a row's first coefficient that is not 0. remainder: what rows leave
-- of a vector. missing: a column below k at which no row has its pivot.
use Rattle.std.specs.Prelude.{◌≡◌, ◌≢◌, ℕ, ◌+◌, ◌<◌, List, [], ◌∷◌, ◌++◌, length, map, take, drop, not, ◌==◌, slice_index, slice_index_or}
use Rattle.std.specs.List.{All, position_or_len, filter, list_any, range_with_len}
use Rattle.gf16.specs.Field.{IsSymbol, product_of}
use Rattle.gf16.specs.Sums.{plus_scaled, scaled}
use Rattle.linear_spec.specs.declared.packet.Packet.{Packet}
use Rattle.linear_spec.specs.Symbols.{IsVector}
use Rattle.linear_spec.specs.UnitVector.{unit_of}
use Rattle.linear_spec.specs.Packet.{Fits, vector_of, vectors_of, coefficients_of}
use Rattle.linear_spec.specs.Span.{InSpan}

-- the place of the first symbol that is not 0, or the number of symbols where all are
abbrev pub first_nonzero : List ℕ → ℕ
first_nonzero symbols = position_or_len (λ symbol. not (symbol == 0)) symbols

-- the column of a row's first coefficient that is not 0, or the number of coefficients where all are
abbrev pub pivot_of : Packet → ℕ
pivot_of row = first_nonzero row.coeffs

-- a row stands for a packet after earlier packets and their rows: it differs from a multiple of the packet, not 0 times it,
-- by a vector of the earlier packets' span; it has a 1 at its pivot; and it has a 0 at each pivot of an earlier row
pub record StandsFor (k s : ℕ) (packets rows : List Packet) (packet row : Packet) : Type 0 where
  pub fits : Fits k s row
  pub multiple : ℕ
  pub multiple_is_symbol : IsSymbol multiple
  pub multiple_is_not_zero : multiple ≢ 0
  pub in_span : InSpan (k + s) (vectors_of packets) (plus_scaled (vector_of row) multiple (vector_of packet))
  pub pivot_below : pivot_of row < k
  pub one_at_pivot : slice_index row.coeffs (pivot_of row) ≡ 1
  pub cleared : All (λ earlier. slice_index row.coeffs (pivot_of earlier) ≡ 0) rows

-- the rows stand for the packets, each after those before it
pub record StandForAll (k s : ℕ) (packets rows : List Packet) : Type 0 where
  pub count : length rows ≡ length packets
  pub each : (i : ℕ) (packet row : Packet) → i < length packets
      → StandsFor k s (take i packets) (take i rows) (slice_index_or packets i packet) (slice_index_or rows i row)

-- the columns below k at which no row has its pivot, rising
abbrev pub missing_columns_of : ℕ → List Packet → List ℕ
missing_columns_of k rows = filter (λ column. not (list_any (λ row. pivot_of row == column) rows)) (range_with_len 0 k)

-- the rows' coefficients and the unit vectors of the missing columns together span every vector of k symbols
abbrev pub SpanAllWithMissing : ℕ → List Packet → Type 0
SpanAllWithMissing k rows = (vector : List ℕ) → IsVector k vector
    → InSpan k (coefficients_of rows ++ map (unit_of k) (missing_columns_of k rows)) vector

-- a vector reduced by rows, one after the other: from what is left so far, the row times the symbol that is left at the
-- row's pivot is subtracted, which is to add it
abbrev pub remainder_of : List Packet → List ℕ → List ℕ
remainder_of [] vector = vector
remainder_of (row ∷ rows) vector = remainder_of rows (plus_scaled vector (slice_index vector (pivot_of row)) (vector_of row))

-- the row that a packet of k coefficients gives after these rows: its remainder, times the inverse of the remainder's
-- first coefficient that is not 0
pub record IsRowOf (k : ℕ) (rows : List Packet) (packet row : Packet) : Type 0 where
  pub inverse : ℕ
  pub inverse_is_symbol : IsSymbol inverse
  pub is_inverse : let coeffs = take k (remainder_of rows (vector_of packet)) in product_of (slice_index coeffs (first_nonzero coeffs)) inverse ≡ 1
  pub coeffs : row.coeffs ≡ scaled inverse (take k (remainder_of rows (vector_of packet)))
  pub payload : row.payload ≡ scaled inverse (drop k (remainder_of rows (vector_of packet)))
