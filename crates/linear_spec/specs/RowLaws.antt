-- The laws of rows, of what they leave of a vector, and of the cases that this tells, for all lists of packets.
-- k, s: the numbers of coefficients and of payload symbols of each packet. n: a number of packets, or of symbols.
-- at, i, j: places in a list.
use Rattle.std.specs.Prelude.{◌≡◌, ◌≢◌, ◌↔◌, ◌+◌, ◌<◌, ◌≤◌, ℕ, List, [], ◌∷◌, ◌++◌, length, map, replicate, take, drop, slice_index, slice_index_or}
use Rattle.std.specs.List.{All}
use Rattle.gf16.specs.Sums.{plus_scaled}
use Rattle.linear_spec.specs.declared.packet.Packet.{Packet}
use Rattle.linear_spec.specs.Symbols.{IsVector}
use Rattle.linear_spec.specs.Packet.{Fits, vector_of, vectors_of, coefficients_of}
use Rattle.linear_spec.specs.Span.{InSpan, HaveOneSpan, HasRank}
use Rattle.linear_spec.specs.Cases.{IsFresh, IsWithin, IsConflicting, IsOneCase}
use Rattle.linear_spec.specs.Rows.{StandsFor, StandForAll, SpanAllWithMissing, IsRowOf, missing_columns_of, pivot_of, remainder_of}
use Rattle.linear_spec.specs.UnitVector.{unit_of}

-- rows that stand for packets, and the packets: one span, and their number as the rank of both
pub record RowLaws : Type 0 where
  -- no rows stand for no packets
  pub none : (k s : ℕ) → StandForAll k s [] []
  -- the first rows stand for the first packets
  pub front : (k s n : ℕ) (packets rows : List Packet) → StandForAll k s packets rows → StandForAll k s (take n packets) (take n rows)
  -- rows fit
  pub fit : (k s : ℕ) (packets rows : List Packet) → StandForAll k s packets rows → All (Fits k s) rows
  -- packets and rows have one span, as whole vectors
  pub span : (k s : ℕ) (packets rows : List Packet) → All (Fits k s) packets → StandForAll k s packets rows
      → HaveOneSpan (k + s) (vectors_of packets) (vectors_of rows)
  -- and as lists of coefficients
  pub coefficients : (k s : ℕ) (packets rows : List Packet) → All (Fits k s) packets → StandForAll k s packets rows
      → HaveOneSpan k (coefficients_of packets) (coefficients_of rows)
  -- each packet is fresh after those before it
  pub fresh : (k s at : ℕ) (packets rows : List Packet) (packet : Packet) → All (Fits k s) packets → StandForAll k s packets rows
      → at < length packets → IsFresh k (take at packets) (slice_index_or packets at packet)
  -- packets of which this holds have rows
  pub some : (k s : ℕ) (packets : List Packet) → All (Fits k s) packets
      → ((at : ℕ) (packet : Packet) → at < length packets → IsFresh k (take at packets) (slice_index_or packets at packet))
      → (rows : List Packet) × StandForAll k s packets rows
  -- the rank of the rows is their number
  pub rank : (k s : ℕ) (packets rows : List Packet) → StandForAll k s packets rows → HasRank k (coefficients_of rows) (length rows)
  -- and that of the packets theirs
  pub packets_rank : (k s : ℕ) (packets rows : List Packet) → All (Fits k s) packets → StandForAll k s packets rows
      → HasRank k (coefficients_of packets) (length packets)
  -- there are at most k
  pub at_most : (k s : ℕ) (packets rows : List Packet) → StandForAll k s packets rows → length rows ≤ k
  -- no two have one pivot
  pub pivots_differ : (k s : ℕ) (packets rows : List Packet) → StandForAll k s packets rows
      → (i j : ℕ) (row : Packet) → i < j → j < length rows → pivot_of (slice_index_or rows i row) ≢ pivot_of (slice_index_or rows j row)
  -- once the unit vectors of the missing columns join the rows' coefficients, these span all vectors of their length
  pub fill : (k s : ℕ) (packets rows : List Packet) → StandForAll k s packets rows → SpanAllWithMissing k rows

-- a vector reduced by rows: it is 0 at the pivots, and with the vector it makes a vector of the rows' span
pub record ReductionLaws : Type 0 where
  -- a last row is added to what the others leave
  pub last : (rows : List Packet) (row : Packet) (vector : List ℕ)
      → remainder_of (rows ++ row ∷ []) vector
      ≡ plus_scaled (remainder_of rows vector) (slice_index (remainder_of rows vector) (pivot_of row)) (vector_of row)
  -- what is left is a vector of as many symbols
  pub is_vector : (n : ℕ) (rows : List Packet) (vector : List ℕ) → IsVector n vector → IsVector n (remainder_of rows vector)
  -- it is 0 at the pivots
  pub clear : (k s : ℕ) (packets rows : List Packet) (vector : List ℕ) → StandForAll k s packets rows → IsVector (k + s) vector
      → All (λ row. slice_index (remainder_of rows vector) (pivot_of row) ≡ 0) rows
  -- with the vector it makes a vector of the span
  pub in_span : (k s : ℕ) (packets rows : List Packet) (vector : List ℕ) → StandForAll k s packets rows → IsVector (k + s) vector
      → InSpan (k + s) (vectors_of rows) (plus_scaled vector 1 (remainder_of rows vector))

-- what the remainder of a packet's vector by rows tells: whether the packet is fresh, within or conflicting, and the row
-- that a fresh packet gives
pub record DecisionLaws : Type 0 where
  -- fresh: some coefficient is left
  pub fresh : (k s : ℕ) (packets rows : List Packet) (packet : Packet) → All (Fits k s) packets → Fits k s packet → StandForAll k s packets rows
      → IsFresh k packets packet ↔ (take k (remainder_of rows (vector_of packet)) ≢ replicate k 0)
  -- not fresh: none is
  pub follows : (k s : ℕ) (packets rows : List Packet) (packet : Packet) → All (Fits k s) packets → Fits k s packet → StandForAll k s packets rows
      → InSpan k (coefficients_of packets) packet.coeffs ↔ (take k (remainder_of rows (vector_of packet)) ≡ replicate k 0)
  -- within: nor is a symbol of the payload
  pub within : (k s : ℕ) (packets rows : List Packet) (packet : Packet) → All (Fits k s) packets → Fits k s packet → StandForAll k s packets rows
      → take k (remainder_of rows (vector_of packet)) ≡ replicate k 0
      → IsWithin k s packets packet ↔ (drop k (remainder_of rows (vector_of packet)) ≡ replicate s 0)
  -- conflicting: no coefficient is left, but some symbol of the payload
  pub conflicting : (k s : ℕ) (packets rows : List Packet) (packet : Packet) → All (Fits k s) packets → Fits k s packet → StandForAll k s packets rows
      → IsConflicting k s packets packet
      ↔ ((take k (remainder_of rows (vector_of packet)) ≡ replicate k 0) × (drop k (remainder_of rows (vector_of packet)) ≢ replicate s 0))
  -- a fresh packet gives a row
  pub row : (k s : ℕ) (packets rows : List Packet) (packet : Packet) → All (Fits k s) packets → Fits k s packet → StandForAll k s packets rows
      → IsFresh k packets packet → (row : Packet) × IsRowOf k rows packet row
  -- which stands for it
  pub stands : (k s : ℕ) (packets rows : List Packet) (packet row : Packet) → All (Fits k s) packets → Fits k s packet → StandForAll k s packets rows
      → IsRowOf k rows packet row → StandsFor k s packets rows packet row
  -- and joins the others
  pub joins : (k s : ℕ) (packets rows : List Packet) (packet row : Packet) → StandForAll k s packets rows
      → StandsFor k s packets rows packet row → StandForAll k s (packets ++ packet ∷ []) (rows ++ row ∷ [])
  -- after k packets none is fresh
  pub full : (k s : ℕ) (packets rows : List Packet) (packet : Packet) → All (Fits k s) packets → Fits k s packet → StandForAll k s packets rows
      → length packets ≡ k → ¬ IsFresh k packets packet

-- at each front that fits, exactly one case of a packet holds; the coefficients of a packet within follow from the front's
pub record CaseLaws : Type 0 where
  -- exactly one case
  pub one_case : (k s : ℕ) (front : List Packet) (packet : Packet) → All (Fits k s) front → Fits k s packet → IsOneCase k s front packet
  -- a packet within is not fresh
  pub within_follows : (k s : ℕ) (front : List Packet) (packet : Packet) → All (Fits k s) front → Fits k s packet
      → IsWithin k s front packet → InSpan k (coefficients_of front) packet.coeffs
  -- after none the fresh ones are those with a coefficient that is not 0
  pub fresh_first : (k : ℕ) (packet : Packet) → IsFresh k [] packet ↔ (packet.coeffs ≢ replicate k 0)
  -- and within is the zero vector alone
  pub within_first : (k s : ℕ) (packet : Packet) → IsWithin k s [] packet ↔ (vector_of packet ≡ replicate (k + s) 0)

-- rows that stand for the same packets are the same but for their generations, which count nowhere
pub record MissingColumnLaws : Type 0 where
  -- the same vectors
  pub vectors : (k s : ℕ) (packets rows others : List Packet) → All (Fits k s) packets → StandForAll k s packets rows
      → StandForAll k s packets others → vectors_of others ≡ vectors_of rows
  -- with the same pivots
  pub pivots : (k s : ℕ) (packets rows others : List Packet) → All (Fits k s) packets → StandForAll k s packets rows
      → StandForAll k s packets others → map pivot_of others ≡ map pivot_of rows
  -- so the missing columns are a fact of the packets
  pub columns : (k s : ℕ) (packets rows others : List Packet) → All (Fits k s) packets → StandForAll k s packets rows
      → StandForAll k s packets others → missing_columns_of k others ≡ missing_columns_of k rows

-- how the missing columns fill what packets lack. units: packets whose coefficients are the unit vectors of the missing
-- columns, in their order
pub record FillingLaws : Type 0 where
  -- rows and missing columns are k together
  pub count : (k s : ℕ) (packets rows : List Packet) → StandForAll k s packets rows → length rows + length (missing_columns_of k rows) ≡ k
  -- each of the units is fresh after the packets and the units before it
  pub fresh : (k s at : ℕ) (packets rows units : List Packet) (packet : Packet) → All (Fits k s) packets → StandForAll k s packets rows
      → coefficients_of units ≡ map (unit_of k) (missing_columns_of k rows) → at < length units
      → IsFresh k (packets ++ take at units) (slice_index_or units at packet)
  -- with all of them the rank is k
  pub rank : (k s : ℕ) (packets rows units : List Packet) → All (Fits k s) packets → StandForAll k s packets rows
      → coefficients_of units ≡ map (unit_of k) (missing_columns_of k rows) → HasRank k (coefficients_of (packets ++ units)) k
  -- and every vector of k symbols lies in the span
  pub span : (k s : ℕ) (packets rows units : List Packet) (vector : List ℕ) → All (Fits k s) packets → StandForAll k s packets rows
      → coefficients_of units ≡ map (unit_of k) (missing_columns_of k rows) → IsVector k vector
      → InSpan k (coefficients_of (packets ++ units)) vector
