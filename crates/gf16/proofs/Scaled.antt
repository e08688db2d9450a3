-- A list times a factor, as a loop multiplies it place by place.
use Rattle.std.proofs.Common.{◌≡◌, ℕ, zero, suc, ◌+◌, ◌<◌, List, [], ◌∷◌, ◌++◌, length, get_or, take, drop, set, refl, ap, ◌∙◌, arith}
use Rattle.gf16.specs.Field.{product_of}
use Rattle.gf16.specs.Sums.{scaled}

-- the places below i are multiplied
abbrev pub scaled_to : ℕ → ℕ → List ℕ → List ℕ
scaled_to c i v = scaled c (take i v) ++ drop i v

scaled_next : (c i : ℕ) (v : List ℕ) → i < length v
    → set (scaled_to c i v) i (product_of c (get_or (scaled_to c i v) i 0)) ≡ scaled_to c (suc i) v
scaled_next c i [] below = absurd (omega arith)
scaled_next c zero (x ∷ v) below = refl
scaled_next c (suc i) (x ∷ v) below = ap (λ r. product_of c x ∷ r) (scaled_next c i v (omega arith))

pub scaled_more : (c i : ℕ) (v so_far : List ℕ) → i < length v → so_far ≡ scaled_to c i v
    → set so_far i (product_of c (get_or so_far i 0)) ≡ scaled_to c (i + 1) v
scaled_more c i v so_far below same =
    ap (λ u. set u i (product_of c (get_or u i 0))) same
    ∙ scaled_next c i v below
    ∙ ap (λ k. scaled_to c k v) (let e : suc i ≡ i + 1 = omega arith in e)
