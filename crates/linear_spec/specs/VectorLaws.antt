-- The laws of single vectors: sums and multiples of them, the sum of the products of two, and the unit vectors.
-- n, k: the number of symbols of a vector. c: a symbol. i, column: a place in a vector, from 0.
use Rattle.std.specs.Prelude.{◌≡◌, ◌<◌, ℕ, List, [], length, map, replicate, slice_index, slice_index_or, slice_set}
use Rattle.std.specs.List.{All, range_with_len}
use Rattle.gf16.specs.Field.{IsSymbol, sum_of, product_of}
use Rattle.gf16.specs.Sums.{plus_scaled, scaled, dot_of}
use Rattle.linear_spec.specs.Symbols.{AreSymbols, IsVector}
use Rattle.linear_spec.specs.Combination.{combination_of}
use Rattle.linear_spec.specs.Span.{InSpan, HasRank}
use Rattle.linear_spec.specs.UnitVector.{unit_of}

-- the laws of sums and multiples
pub record VectorLaws : Type 0 where
  -- zeros are a vector
  pub zeros : (n : ℕ) → IsVector n (replicate n 0)
  -- so is one with a multiple of another added
  pub sum : (n c : ℕ) (vector other : List ℕ) → IsVector n vector → IsSymbol c → IsVector n (plus_scaled vector c other)
  -- and a multiple
  pub multiple : (n c : ℕ) (vector : List ℕ) → IsVector n vector → IsSymbol c → IsVector n (scaled c vector)
  -- the symbol at a place of a sum
  pub at : (c i : ℕ) (vector other : List ℕ) → i < length vector
      → slice_index (plus_scaled vector c other) i ≡ sum_of (slice_index vector i) (product_of c (slice_index other i))
  -- 0 times a vector adds nothing
  pub nothing : (vector other : List ℕ) → plus_scaled vector 0 other ≡ vector
  -- nor does a multiple of zeros
  pub plus_zeros : (n c : ℕ) (vector : List ℕ) → plus_scaled vector c (replicate n 0) ≡ vector
  -- zeros and a multiple are the multiple
  pub zeros_plus : (n c : ℕ) (vector : List ℕ) → length vector ≡ n → plus_scaled (replicate n 0) c vector ≡ scaled c vector
  -- once a vector is the vector
  pub once : (vector : List ℕ) → AreSymbols vector → scaled 1 vector ≡ vector
  -- what is added twice is gone
  pub twice : (c : ℕ) (vector other : List ℕ) → plus_scaled (plus_scaled vector c other) c other ≡ vector
  -- a vector and itself are zeros
  pub itself : (n : ℕ) (vector : List ℕ) → IsVector n vector → plus_scaled vector 1 vector ≡ replicate n 0

-- the sum of the products of two lists once a place of one is changed
pub record ChangedPlaceLaws : Type 0 where
  -- of the first
  pub first : (i a : ℕ) (symbols others : List ℕ) → i < length symbols
      → dot_of (slice_set symbols i a) others
      ≡ sum_of (dot_of symbols others) (product_of (sum_of a (slice_index symbols i)) (slice_index others i))
  -- of the second
  pub second : (i a : ℕ) (symbols others : List ℕ) → i < length others
      → dot_of symbols (slice_set others i a)
      ≡ sum_of (dot_of symbols others) (product_of (slice_index symbols i) (sum_of a (slice_index others i)))

-- the laws of the unit vectors of k columns
pub record UnitVectorLaws : Type 0 where
  -- they are vectors of k symbols
  pub is_vector : (k column : ℕ) → IsVector k (unit_of k column)
  -- the combination with one as its coefficients is the vector at its column
  pub pick : (n k column : ℕ) (vectors : List (List ℕ)) → length vectors ≡ k → All (IsVector n) vectors → column < k
      → combination_of n (unit_of k column) vectors ≡ slice_index_or vectors column []
  -- those of all columns span every vector of k symbols
  pub span : (k : ℕ) (vector : List ℕ) → IsVector k vector → InSpan k (map (unit_of k) (range_with_len 0 k)) vector
  -- and have rank k
  pub rank : (k : ℕ) → HasRank k (map (unit_of k) (range_with_len 0 k)) k
