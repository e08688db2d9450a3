-- A multiple added place by place, as a loop adds it.
use Rattle.std.proofs.Common.{◌≡◌, ℕ, zero, suc, ◌+◌, ◌<◌, List, [], ◌∷◌, length, get_or, take, set, refl, ap, sym, ◌∙◌, arith, add-one}
use Rattle.gf16.specs.Field.{sum_of, product_of}
use Rattle.gf16.specs.Sums.{plus_scaled}

nothing_more : (c : ℕ) (u : List ℕ) → plus_scaled u c [] ≡ u
nothing_more c [] = refl
nothing_more c (x ∷ u) = refl

pub plus_scaled-none : (c : ℕ) (u v : List ℕ) → u ≡ plus_scaled u c (take 0 v)
plus_scaled-none c u v = sym (nothing_more c u)

-- a place that was not yet reached is as before
get_or-plus_scaled-rest : (c i : ℕ) (u v : List ℕ) → get_or (plus_scaled u c (take i v)) i 0 ≡ get_or u i 0
get_or-plus_scaled-rest c i [] v = refl
get_or-plus_scaled-rest c zero (x ∷ u) v = refl
get_or-plus_scaled-rest c (suc i) (x ∷ u) [] = refl
get_or-plus_scaled-rest c (suc i) (x ∷ u) (y ∷ v) = get_or-plus_scaled-rest c i u v

set-plus_scaled : (c i : ℕ) (u v : List ℕ) → i < length u → i < length v
    → set (plus_scaled u c (take i v)) i (sum_of (get_or u i 0) (product_of c (get_or v i 0)))
    ≡ plus_scaled u c (take (suc i) v)
set-plus_scaled c i [] v within there = absurd (omega arith)
set-plus_scaled c i (x ∷ u) [] within there = absurd (omega arith)
set-plus_scaled c zero (x ∷ u) (y ∷ v) within there = ap (λ r. sum_of x (product_of c y) ∷ r) (sym (nothing_more c u))
set-plus_scaled c (suc i) (x ∷ u) (y ∷ v) within there =
    ap (λ r. sum_of x (product_of c y) ∷ r) (set-plus_scaled c i u v (omega arith) (omega arith))

pub plus_scaled_more : (c i : ℕ) (u v xs : List ℕ) → i < length u → i < length v → xs ≡ plus_scaled u c (take i v)
    → set xs i (sum_of (get_or xs i 0) (product_of c (get_or v i 0))) ≡ plus_scaled u c (take (i + 1) v)
plus_scaled_more c i u v xs within there so_far =
    ap (λ w. set w i (sum_of (get_or w i 0) (product_of c (get_or v i 0)))) so_far
    ∙ ap (λ a. set (plus_scaled u c (take i v)) i (sum_of a (product_of c (get_or v i 0))))
    (get_or-plus_scaled-rest c i u v)
    ∙ set-plus_scaled c i u v within there
    ∙ ap (λ k. plus_scaled u c (take k v)) (sym (add-one i))
