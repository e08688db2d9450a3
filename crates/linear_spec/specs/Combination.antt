-- Linear combinations of vectors.
-- n: the number of symbols of each vector. vectors: a list of lists of n symbols. coefficients: a symbol for each vector.
-- place: that of a symbol in a vector, from 0. column: the symbols that the vectors have at one place.
use Rattle.std.specs.Prelude.{ℕ, List, map, slice_index}
use Rattle.std.specs.List.{range_with_len}
use Rattle.gf16.specs.Sums.{dot_of}

-- the symbols that the vectors have at a place
abbrev pub column_of : ℕ → List (List ℕ) → List ℕ
column_of place vectors = map (λ vector. slice_index vector place) vectors

-- the combination of vectors of n symbols: each place has the products of the coefficients and the place's column, added
-- up. With no vectors all places are 0
unfoldable pub combination_of : ℕ → List ℕ → List (List ℕ) → List ℕ
combination_of n coefficients vectors = map (λ place. dot_of coefficients (column_of place vectors)) (range_with_len 0 n)
