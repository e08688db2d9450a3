-- Plain sums over lists of symbols, place by place: what a faster kernel is measured against.
-- Defines a list times a symbol, a list plus a symbol times a list, and the sum of the products of two lists.
use Rattle.std.specs.Prelude.{ℕ, List, [], ◌∷◌, map, zip}
use Rattle.gf16.specs.Field.{sum_of, product_of, total_of}

-- each symbol times c
abbrev pub scaled : ℕ → List ℕ → List ℕ
scaled c xs = map (product_of c) xs

-- xs with c times ys added place by place. A place that ys lacks adds nothing, and one that xs lacks is left out, so the
-- result is as long as xs
abbrev pub plus_scaled : List ℕ → ℕ → List ℕ → List ℕ
plus_scaled [] c ys = []
plus_scaled (x ∷ xs) c [] = x ∷ xs
plus_scaled (x ∷ xs) c (y ∷ ys) = sum_of x (product_of c y) ∷ plus_scaled xs c ys

-- the sum of the products place by place, up to the end of the shorter list
abbrev pub dot_of : List ℕ → List ℕ → ℕ
dot_of xs ys = total_of (map (λ p. product_of p.0 p.1) (zip xs ys))
