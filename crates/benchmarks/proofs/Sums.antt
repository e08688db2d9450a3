-- Sums place by place, and the sum of a list, as loops add them up.
use Rattle.std.proofs.Common.{◌≡◌, ℕ, zero, suc, ◌+◌, ◌<◌, List, [], ◌∷◌, length, get_or, replicate, take, set, refl, ap, sym, ◌∙◌, arith, add-one}
use Rattle.std.specs.Int.Bits.{xor_assoc, xor_zero_r}
use Rattle.gf16.specs.Field.{sum_of, total_of}
use Rattle.benchmarks.specs.Turns.{sums_of}

nothing_more : (u : List ℕ) → sums_of u [] ≡ u
nothing_more [] = refl
nothing_more (x ∷ u) = refl

pub sums_of-none : (u v : List ℕ) → u ≡ sums_of u (take 0 v)
sums_of-none u v = sym (nothing_more u)

-- a place that was not yet reached is as before
get_or-sums_of-rest : (i : ℕ) (u v : List ℕ) → get_or (sums_of u (take i v)) i 0 ≡ get_or u i 0
get_or-sums_of-rest i [] v = refl
get_or-sums_of-rest zero (x ∷ u) v = refl
get_or-sums_of-rest (suc i) (x ∷ u) [] = refl
get_or-sums_of-rest (suc i) (x ∷ u) (y ∷ v) = get_or-sums_of-rest i u v

set-sums_of : (i : ℕ) (u v : List ℕ) → i < length u → i < length v
    → set (sums_of u (take i v)) i (sum_of (get_or u i 0) (get_or v i 0)) ≡ sums_of u (take (suc i) v)
set-sums_of i [] v within there = absurd (omega arith)
set-sums_of i (x ∷ u) [] within there = absurd (omega arith)
set-sums_of zero (x ∷ u) (y ∷ v) within there = ap (λ r. sum_of x y ∷ r) (sym (nothing_more u))
set-sums_of (suc i) (x ∷ u) (y ∷ v) within there =
    ap (λ r. sum_of x y ∷ r) (set-sums_of i u v (omega arith) (omega arith))

pub sums_of_more : (i : ℕ) (u v xs : List ℕ) → i < length u → i < length v → xs ≡ sums_of u (take i v)
    → set xs i (sum_of (get_or xs i 0) (get_or v i 0)) ≡ sums_of u (take (i + 1) v)
sums_of_more i u v xs within there so_far =
    ap (λ w. set w i (sum_of (get_or w i 0) (get_or v i 0))) so_far
    ∙ ap (λ a. set (sums_of u (take i v)) i (sum_of a (get_or v i 0))) (get_or-sums_of-rest i u v)
    ∙ set-sums_of i u v within there
    ∙ ap (λ k. sums_of u (take k v)) (sym (add-one i))

total_next : (i : ℕ) (u : List ℕ) → i < length u → total_of (take (suc i) u) ≡ sum_of (total_of (take i u)) (get_or u i 0)
total_next i [] within = absurd (omega arith)
total_next zero (x ∷ u) within = xor_zero_r x
total_next (suc i) (x ∷ u) within =
    ap (sum_of x) (total_next i u (omega arith)) ∙ sym (xor_assoc x (total_of (take i u)) (get_or u i 0))

pub total_more : (i : ℕ) (u : List ℕ) → i < length u → sum_of (total_of (take i u)) (get_or u i 0) ≡ total_of (take (i + 1) u)
total_more i u within = sym (total_next i u within) ∙ ap (λ k. total_of (take k u)) (sym (add-one i))

pub total_zeros : (n : ℕ) → total_of (replicate n 0) ≡ 0
total_zeros zero = refl
total_zeros (suc n) = ap (sum_of 0) (total_zeros n)
