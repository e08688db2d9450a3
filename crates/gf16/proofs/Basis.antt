-- A symbol is the sum of the powers of two at its set bits, so an additive function is known by its values at the 16
-- powers of two.
use Rattle.std.proofs.Common.{◌≡◌, ℕ, zero, suc, ◌+◌, ◌*◌, ◌/◌, ◌%◌, ◌^◌, ◌<◌, ◌≤◌, Bool, cond, eqb, List, [], ◌∷◌, map, bit_xor, refl, sym, ap, ap₂, ◌∙◌, arith, pow-suc, pow_pos, div-one, mul-one, zero-mul, add-one, mul-le-mul_right}
use Rattle.std.specs.Int.{bit_at}
use Rattle.std.specs.List.{range_with_len}
use Rattle.std.proofs.lemmas.Nat.{shr-shr}
use Rattle.std.proofs.lemmas.Nat.Bits.{bit_at_cat_low}
use Rattle.std.specs.Int.Bits.{xor_comm, xor_shifted}
use Rattle.gf16.specs.Field.{IsSymbol, bit_places}
use Rattle.gf16.proofs.Totals.{IsAdditive, total_where, total_where-cons, total_where-tests, additive-total_where}
use Rattle.gf16.proofs.TimesX.{where_set, where_set-bit_xor}

-- whether bit i of b is set
abbrev pub has_bit : ℕ → ℕ → Bool
has_bit b i = eqb (bit_at b i) 1

where_set_is : (d v : ℕ) → d < 2 → where_set d v ≡ d * v
where_set_is zero v h = omega arith
where_set_is (suc zero) v h = omega arith
where_set_is (suc (suc d)) v h = absurd (omega arith)

-- a bit put before those above it
bit_before : (q s : ℕ) → bit_xor (q % 2 * 2 ^ s) (q / 2 * 2 ^ (s + 1)) ≡ q * 2 ^ s
bit_before q s =
    let twice : 2 ^ (s + 1) ≡ 2 ^ s * 2 = ap (λ k. 2 ^ k) (add-one s) ∙ pow-suc 2 s in
    let one : q % 2 ≤ 1 = omega arith in
    let small : q % 2 * 2 ^ s < 2 ^ (s + 1) = omega (arith, mul-le-mul_right (2 ^ s) one, pow_pos s) in
    let parts : q ≡ q / 2 * 2 + q % 2 = omega arith in
    xor_comm (q % 2 * 2 ^ s) (q / 2 * 2 ^ (s + 1)) ∙ xor_shifted (q / 2) (s + 1) (q % 2 * 2 ^ s) small
    ∙ omega (arith, ap (λ k. q / 2 * k) twice, ap (λ k. k * 2 ^ s) parts)

-- the bits from s on, n of them, when there are no more
powers_from : (b n s : ℕ) → b / 2 ^ s < 2 ^ n
    → total_where (has_bit b) (λ i. 2 ^ i) (range_with_len s n) ≡ b / 2 ^ s * 2 ^ s
powers_from b zero s h =
    let none : b / 2 ^ s ≡ 0 = omega arith in
    sym (ap (λ q. q * 2 ^ s) none ∙ zero-mul (2 ^ s))
powers_from b (suc n) s h =
    let q = b / 2 ^ s in
    let next : b / 2 ^ (s + 1) ≡ q / 2 = sym (shr-shr b s 1) in
    let fits : b / 2 ^ (s + 1) < 2 ^ n = omega (arith, pow-suc 2 n) in
    let head : where_set (q % 2) (2 ^ s) ≡ q % 2 * 2 ^ s = where_set_is (q % 2) (2 ^ s) (omega arith) in
    total_where-cons (has_bit b) (λ i. 2 ^ i) s (range_with_len (s + 1) n)
    ∙ ap₂ bit_xor head (powers_from b n (s + 1) fits ∙ ap (λ k. k * 2 ^ (s + 1)) next)
    ∙ bit_before q s

-- a symbol is the sum of the powers of two at its set bits
pub powers_of_symbol : (b : ℕ) → IsSymbol b → total_where (has_bit b) (λ i. 2 ^ i) bit_places ≡ b
unfolding bit_places
powers_of_symbol b h =
    powers_from b 16 0 (omega (arith, div-one b)) ∙ mul-one (b / 1) ∙ div-one b

-- functions that agree on a list have one sum there
pub total_where-same : (p : ℕ → Bool) (f g : ℕ → ℕ) (xs : List ℕ) → map f xs ≡ map g xs
    → total_where p f xs ≡ total_where p g xs
total_where-same p f g [] e = refl
total_where-same p f g (x ∷ xs) e =
    let head : f x ≡ g x = cc in
    let rest : map f xs ≡ map g xs = cc in
    total_where-cons p f x xs ∙ ap₂ bit_xor (ap (λ v. cond (p x) v 0) head) (total_where-same p f g xs rest)
    ∙ sym (total_where-cons p g x xs)

-- two additive functions that agree at the powers of two agree at each symbol
pub same_from_powers : (f g : ℕ → ℕ) → IsAdditive f → IsAdditive g
    → map (λ i. f (2 ^ i)) bit_places ≡ map (λ i. g (2 ^ i)) bit_places → (b : ℕ) → IsSymbol b → f b ≡ g b
same_from_powers f g by_f by_g agree b h =
    ap f (sym (powers_of_symbol b h))
    ∙ additive-total_where f (λ i. 2 ^ i) (λ i. f (2 ^ i)) (has_bit b) by_f (λ i. refl) bit_places
    ∙ total_where-same (has_bit b) (λ i. f (2 ^ i)) (λ i. g (2 ^ i)) bit_places agree
    ∙ sym (additive-total_where g (λ i. 2 ^ i) (λ i. g (2 ^ i)) (has_bit b) by_g (λ i. refl) bit_places)
    ∙ ap g (powers_of_symbol b h)

-- tests that agree below n have one sum over the numbers below n
total_where-tests_below : (p q : ℕ → Bool) (f : ℕ → ℕ) (n s : ℕ) → ((i : ℕ) → i < s + n → p i ≡ q i)
    → total_where p f (range_with_len s n) ≡ total_where q f (range_with_len s n)
total_where-tests_below p q f zero s same = refl
total_where-tests_below p q f (suc n) s same =
    let rest = total_where-tests_below p q f n (s + 1) (λ i h. same i (omega arith)) in
    total_where-cons p f s (range_with_len (s + 1) n)
    ∙ ap₂ bit_xor (ap (λ t. cond t (f s) 0) (same s (omega arith))) rest
    ∙ sym (total_where-cons q f s (range_with_len (s + 1) n))

bit_at-low : (b i : ℕ) → i < 16 → bit_at (b % 2 ^ 16) i ≡ bit_at b i
bit_at-low b i h =
    let split : b ≡ b / 2 ^ 16 * 2 ^ 16 + b % 2 ^ 16 = omega arith in
    sym (ap (λ n. bit_at n i) split ∙ bit_at_cat_low (b / 2 ^ 16) 16 (b % 2 ^ 16) i h)

-- a sum over the set bits of a number depends on its low 16 bits alone
pub total_where-low : (b : ℕ) (f : ℕ → ℕ)
    → total_where (has_bit (b % 2 ^ 16)) f bit_places ≡ total_where (has_bit b) f bit_places
unfolding bit_places
total_where-low b f =
    total_where-tests_below (has_bit (b % 2 ^ 16)) (has_bit b) f 16 0 (λ i h. ap (λ d. eqb d 1) (bit_at-low b i (omega arith)))

-- and it is additive in that number
pub total_where-bits : (f : ℕ → ℕ) → IsAdditive (λ b. total_where (has_bit b) f bit_places)
total_where-bits f b c =
    total_where-tests (has_bit b) (has_bit c) (has_bit (bit_xor b c)) f (λ i v. where_set-bit_xor b c i v) bit_places
