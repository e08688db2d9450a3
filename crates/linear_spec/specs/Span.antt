-- The span and the rank of a list of vectors of n symbols.
-- n: the number of symbols of each vector. span: all combinations of the vectors, with symbols as coefficients.
-- before: the vectors that stand before a list. r: a rank.
use Rattle.std.specs.Prelude.{◌≡◌, ◌⊎◌, ◌↔◌, ℕ, suc, List, [], ◌∷◌, ◌++◌, length}
use Rattle.linear_spec.specs.Symbols.{IsVector}
use Rattle.linear_spec.specs.Combination.{combination_of}

-- this one is a combination of the vectors, with one coefficient for each of them
pub record InSpan (n : ℕ) (vectors : List (List ℕ)) (vector : List ℕ) : Type 0 where
  pub coefficients : List ℕ
  pub are_symbols : IsVector (length vectors) coefficients
  pub combine : combination_of n coefficients vectors ≡ vector

-- the two lists of vectors span the same
abbrev pub HaveOneSpan : ℕ → List (List ℕ) → List (List ℕ) → Type 0
HaveOneSpan n vectors others = (vector : List ℕ) → InSpan n vectors vector ↔ InSpan n others vector

-- going through the list, with others before all of it: how many vectors are no combination of the earlier ones
abbrev pub HasRankAfter : ℕ → List (List ℕ) → List (List ℕ) → ℕ → Type 0
HasRankAfter n before [] r = r ≡ 0
HasRankAfter n before (vector ∷ vectors) r =
    (InSpan n before vector × HasRankAfter n (before ++ vector ∷ []) vectors r)
    ⊎ ((¬ InSpan n before vector) × (q : ℕ) × (r ≡ suc q) × HasRankAfter n (before ++ vector ∷ []) vectors q)

-- the rank: going through the list from its start, how many vectors are no combination of the earlier ones
abbrev pub HasRank : ℕ → List (List ℕ) → ℕ → Type 0
HasRank n vectors r = HasRankAfter n [] vectors r
