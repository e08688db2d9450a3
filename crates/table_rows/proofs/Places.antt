-- Where words of regions stand: two places are one only in one region.
use Rattle.std.proofs.Common.{◌≡◌, ℕ, suc, ◌+◌, ◌-◌, ◌*◌, ◌<◌, ◌≤◌, ◌≢◌, ap, arith, mul-le-mul_right, suc-mul}
use mathlib.Core.Logic.{dite}
use native.Mathlib.Decide.{dec_le, ℕ_discrete}
use Rattle.table_rows.specs.Layout.{place_of, region_length, basis_length}

further : (x y w : ℕ) → x < y → x * w + w ≤ y * w
further x y w h = let a : suc x * w ≤ y * w = mul-le-mul_right w h in omega (arith, suc-mul x w)

apart : (w k x y p q : ℕ) → p < w → x < y → k + x * w + p ≢ k + y * w + q
apart w k x y p q lp h e = let f : x * w + w ≤ y * w = further x y w h in omega arith

one : (w k x y p q : ℕ) → p < w → q < w → k + x * w + p ≡ k + y * w + q → (x ≡ y) × (p ≡ q)
one w k x y p q lp lq e = dite (ℕ_discrete x y)
    (λ same. let m : x * w ≡ y * w = ap (λ z. z * w) same in (same, omega arith))
    (λ differ. dite (dec_le x y)
    (λ le. absurd (apart w k x y p q lp (omega arith) e))
    (λ not-le. let back : k + y * w + q ≡ k + x * w + p = omega arith in absurd (apart w k y x q p lq (omega arith) back)))

pub one_place : (k s d e p q : ℕ) → 1 ≤ d → 1 ≤ e → p < region_length k s → q < region_length k s → place_of k s d p ≡ place_of k s e q → (d ≡ e) × (p ≡ q)
one_place k s d e p q ld le lp lq same = let t = one (region_length k s) k (d - 1) (e - 1) p q lp lq same in let f : d - 1 ≡ e - 1 = t.0 in (omega arith, t.1)

-- no word of a region stands in the directory
pub not_directory : (k s d p n : ℕ) → n < k → place_of k s d p ≢ n
not_directory k s d p n h e = let x : ℕ = (d - 1) * region_length k s in let e' : k + x + p ≡ n = e in omega arith

-- each word of each region stands among the words of the basis
pub inside : (k s passes d p : ℕ) → 1 ≤ d → d ≤ passes + k → p < region_length k s → place_of k s d p < basis_length k s passes
inside k s passes d p ld to lp = let f = further (d - 1) (passes + k) (region_length k s) (omega arith) in
    let x : ℕ = (d - 1) * region_length k s in let y : ℕ = (passes + k) * region_length k s in
    let f' : x + region_length k s ≤ y = f in omega arith
