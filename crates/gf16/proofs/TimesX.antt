-- Multiplying by x takes sums to sums, and symbols to symbols.
use Rattle.std.proofs.Common.{◌≡◌, ℕ, zero, suc, ◌+◌, ◌*◌, ◌/◌, ◌%◌, ◌^◌, ◌<◌, Bool, true, false, cond, eqb, bit_xor, refl, sym, ap, ap₂, subst, ◌∙◌, ⊎_elim, arith, lit<, add-zero, zero-add, mod-eq_of_lt}
use Rattle.std.proofs.lemmas.Bool.{cases_lt}
use Rattle.std.specs.Int.{bit_at}
use Rattle.std.proofs.lemmas.Nat.Bits.{bit_at_xor, bit_at-lt}
use Rattle.std.specs.Int.Bits.{xor_self, xor_zero_r, xor_block, xor_mod, xor_lt, xor_shifted}
use Rattle.gf16.specs.Field.{times_x, times_x_power, IsSymbol}
use Rattle.gf16.proofs.Totals.{IsAdditive, xor_exchange}

-- v where the bit d is set, and else 0
abbrev pub where_set : ℕ → ℕ → ℕ
where_set d v = cond (eqb d 1) v 0

-- the sum of two bits
where_set-xor : (d e v : ℕ) → d < 2 → e < 2
    → where_set ((d + e) % 2) v ≡ bit_xor (where_set d v) (where_set e v)
where_set-xor zero zero v p q = refl
where_set-xor zero (suc zero) v p q = refl
where_set-xor (suc zero) zero v p q = sym (xor_zero_r v)
where_set-xor (suc zero) (suc zero) v p q = sym (xor_self v)
where_set-xor zero (suc (suc e)) v p q = absurd (omega arith)
where_set-xor (suc zero) (suc (suc e)) v p q = absurd (omega arith)
where_set-xor (suc (suc d)) e v p q = absurd (omega arith)

-- one bit of a sum
pub where_set-bit_xor : (a b i v : ℕ)
    → where_set (bit_at (bit_xor a b) i) v ≡ bit_xor (where_set (bit_at a i) v) (where_set (bit_at b i) v)
where_set-bit_xor a b i v =
    ap (λ d. where_set d v) (bit_at_xor a b i)
    ∙ where_set-xor (bit_at a i) (bit_at b i) v (bit_at-lt a i) (bit_at-lt b i)

-- ---- the shift, and what is added where bit 16 comes out

-- the two branches as one sum
cond-reduced : (t : Bool) (s : ℕ) → cond t (bit_xor s 0x1100B) s ≡ bit_xor s (cond t 0x1100B 0)
cond-reduced true s = refl
cond-reduced false s = sym (xor_zero_r s)

-- the shift, and what the bit that comes out adds
times_x_is : (a : ℕ) → times_x a ≡ bit_xor (a * 2) (where_set (bit_at (a * 2) 16) 0x1100B)
unfolding times_x
times_x_is a = cond-reduced (eqb (bit_at (a * 2) 16) 1) (a * 2)

-- the shift is additive
double-additive : IsAdditive (λ a. a * 2)
double-additive a b =
    let shifted : bit_xor (a * 2 + 0) (b * 2 + 0) ≡ bit_xor a b * 2 + 0 = xor_block 1 a b 0 0 (lit< tt) (lit< tt) in
    sym (add-zero (bit_xor a b * 2)) ∙ sym shifted ∙ ap₂ bit_xor (add-zero (a * 2)) (add-zero (b * 2))

pub times_x-additive : IsAdditive times_x
times_x-additive a b =
    let shifted = double-additive a b in
    times_x_is (bit_xor a b)
    ∙ ap (λ s. bit_xor s (where_set (bit_at s 16) 0x1100B)) shifted
    ∙ ap (bit_xor (bit_xor (a * 2) (b * 2))) (where_set-bit_xor (a * 2) (b * 2) 16 0x1100B)
    ∙ xor_exchange (a * 2) (b * 2) (where_set (bit_at (a * 2) 16) 0x1100B) (where_set (bit_at (b * 2) 16) 0x1100B)
    ∙ ap₂ bit_xor (sym (times_x_is a)) (sym (times_x_is b))

-- ---- a symbol times x

-- where bit 16 comes out, it goes, and the polynomial's other bits are added
pub times_x_set : (a : ℕ) → a / 2 ^ 15 ≡ 1 → times_x a ≡ bit_xor (a * 2 % 2 ^ 16) 0x100B
times_x_set a set =
    let bit : bit_at (a * 2) 16 ≡ 1 = omega arith in
    let split : a * 2 ≡ 1 * 2 ^ 16 + a * 2 % 2 ^ 16 = omega arith in
    times_x_is a ∙ ap (λ d. bit_xor (a * 2) (where_set d 0x1100B)) bit
    ∙ ap (λ s. bit_xor s 0x1100B) split
    ∙ xor_block 16 1 1 (a * 2 % 2 ^ 16) 0x100B (omega arith) (lit< tt)
    ∙ zero-add (bit_xor (a * 2 % 2 ^ 16) 0x100B)

-- where none comes out, a doubles
pub times_x_clear : (a : ℕ) → a < 2 ^ 15 → times_x a ≡ a * 2
times_x_clear a clear =
    let bit : bit_at (a * 2) 16 ≡ 0 = omega arith in
    times_x_is a ∙ ap (λ d. bit_xor (a * 2) (where_set d 0x1100B)) bit ∙ xor_zero_r (a * 2)

pub times_x_is_symbol : (a : ℕ) → IsSymbol a → IsSymbol (times_x a)
times_x_is_symbol a h =
    ⊎_elim
    (λ below. let e = times_x_clear a below in omega arith)
    (λ above. let set : a / 2 ^ 15 ≡ 1 = omega arith in
    let P : ℕ → Type 0 = IsSymbol in
    subst P (sym (times_x_set a set)) (xor_lt 16 (a * 2 % 2 ^ 16) 0x100B (omega arith) (lit< tt)))
    (cases_lt a (2 ^ 15))

-- bits from 16 up stay there
times_x_above : (q : ℕ) → times_x (q * 2 ^ 16) ≡ q * 2 ^ 17
times_x_above q =
    let bit : bit_at (q * 2 ^ 16 * 2) 16 ≡ 0 = omega arith in
    let shifted : q * 2 ^ 16 * 2 ≡ q * 2 ^ 17 = omega arith in
    times_x_is (q * 2 ^ 16) ∙ ap (λ d. bit_xor (q * 2 ^ 16 * 2) (where_set d 0x1100B)) bit
    ∙ xor_zero_r (q * 2 ^ 16 * 2) ∙ shifted

-- taking the low 16 bits is additive
pub low-additive : IsAdditive (λ a. a % 2 ^ 16)
low-additive a b = xor_mod a b 16

-- the low 16 bits of a times x depend on the low 16 bits of a alone
pub times_x-low : (a : ℕ) → times_x a % 2 ^ 16 ≡ times_x (a % 2 ^ 16)
times_x-low a =
    let high = a / 2 ^ 16 in
    let low = a % 2 ^ 16 in
    let fits : low < 2 ^ 16 = omega arith in
    let split : a ≡ bit_xor (high * 2 ^ 16) low = omega (arith, xor_shifted high 16 low fits) in
    let symbol : times_x low < 2 ^ 16 = times_x_is_symbol low fits in
    let gone : high * 2 ^ 17 % 2 ^ 16 ≡ 0 = omega arith in
    let parts : times_x a ≡ bit_xor (high * 2 ^ 17) (times_x low) =
    ap times_x split ∙ times_x-additive (high * 2 ^ 16) low ∙ ap (λ v. bit_xor v (times_x low)) (times_x_above high) in
    ap (λ v. v % 2 ^ 16) parts
    ∙ xor_mod (high * 2 ^ 17) (times_x low) 16
    ∙ ap₂ bit_xor gone (mod-eq_of_lt symbol)

-- ---- times x, i times

pub times_x_power-additive : (i : ℕ) → IsAdditive (λ a. times_x_power a i)
unfolding times_x_power
times_x_power-additive zero a b = refl
times_x_power-additive (suc i) a b =
    ap times_x (times_x_power-additive i a b) ∙ times_x-additive (times_x_power a i) (times_x_power b i)

pub times_x_power-suc : (a i : ℕ) → times_x_power a (suc i) ≡ times_x (times_x_power a i)
unfolding times_x_power
times_x_power-suc a i = refl

-- a function that commutes with times x commutes with each of its powers
pub along_power : (f : ℕ → ℕ) → ((a : ℕ) → f (times_x a) ≡ times_x (f a)) → (a i : ℕ)
    → f (times_x_power a i) ≡ times_x_power (f a) i
unfolding times_x_power
along_power f commutes a zero = refl
along_power f commutes a (suc i) = commutes (times_x_power a i) ∙ ap times_x (along_power f commutes a i)

pub times_x_power_is_symbol : (a i : ℕ) → IsSymbol a → IsSymbol (times_x_power a i)
unfolding times_x_power
times_x_power_is_symbol a zero h = h
times_x_power_is_symbol a (suc i) h = times_x_is_symbol (times_x_power a i) (times_x_power_is_symbol a i h)

-- for the code of times x
pub ruleset times_x_steps = (times_x_set, times_x_clear)
