-- What the loops of the product and of the inverse add at each step.
use Rattle.std.proofs.Common.{◌≡◌, ◌≢◌, ℕ, zero, suc, ◌+◌, ◌/◌, ◌^◌, Bool, true, false, cond, [], bit_and, bit_xor, refl, sym, ap, ◌∙◌, add-zero, add-one, zero-add, eq-eqb, ne_eqb, arith}
use Rattle.std.specs.Int.{bit_at}
use Rattle.std.specs.List.{range_with_len}
use Rattle.std.proofs.lemmas.Nat.Bits.{shr_and_one}
use Rattle.std.specs.Int.Bits.{xor_assoc, xor_zero_r}
use Rattle.gf16.specs.Field.{IsSymbol, times_x, times_x_power, bit_places, product_of}
use Rattle.gf16.proofs.Totals.{total_where, total_where-cons}
use Rattle.gf16.proofs.TimesX.{times_x_power-suc}
use Rattle.gf16.proofs.Basis.{has_bit}
use Rattle.gf16.proofs.Product.{product_is}
use Rattle.gf16.proofs.Squares.{squared}
use Rattle.gf16.proofs.Inverses.{squares_product, product-inverse}

-- one more number at the end
total_where-range : (p : ℕ → Bool) (f : ℕ → ℕ) (n s : ℕ)
    → total_where p f (range_with_len s (suc n))
    ≡ bit_xor (total_where p f (range_with_len s n)) (cond (p (s + n)) (f (s + n)) 0)
total_where-range p f zero s =
    total_where-cons p f s []
    ∙ xor_zero_r (cond (p s) (f s) 0)
    ∙ ap (λ k. cond (p k) (f k) 0) (sym (add-zero s))
total_where-range p f (suc n) s =
    let first = cond (p s) (f s) 0 in
    let e : s + 1 + n ≡ s + suc n = omega arith in
    total_where-cons p f s (range_with_len (s + 1) (suc n))
    ∙ ap (bit_xor first) (total_where-range p f n (s + 1)
    ∙ ap (λ k. bit_xor (total_where p f (range_with_len (s + 1) n)) (cond (p k) (f k) 0)) e)
    ∙ sym (xor_assoc first (total_where p f (range_with_len (s + 1) n)) (cond (p (s + suc n)) (f (s + suc n)) 0))
    ∙ ap (λ v. bit_xor v (cond (p (s + suc n)) (f (s + suc n)) 0)) (sym (total_where-cons p f s (range_with_len (s + 1) n)))

-- the product as far as the bits of b below n go
unfoldable pub product_below : ℕ → ℕ → ℕ → ℕ
product_below a b n = total_where (has_bit b) (times_x_power a) (range_with_len 0 n)

pub product_below-zero : (a b : ℕ) → product_below a b 0 ≡ 0
unfolding product_below
product_below-zero a b = refl

product_below-all : (a b : ℕ) → product_below a b 16 ≡ product_of a b
unfolding product_below bit_places
product_below-all a b = sym (product_is a b)

pub product_below-done : (a b n : ℕ) → n ≡ 16 → product_below a b n ≡ product_of a b
product_below-done a b n e = ap (product_below a b) e ∙ product_below-all a b

product_below-suc : (a b n : ℕ) (t : Bool) → has_bit b n ≡ t
    → product_below a b (n + 1) ≡ bit_xor (product_below a b n) (cond t (times_x_power a n) 0)
unfolding product_below
product_below-suc a b n t e =
    ap (λ k. total_where (has_bit b) (times_x_power a) (range_with_len 0 k)) (add-one n)
    ∙ total_where-range (has_bit b) (times_x_power a) n 0
    ∙ ap (λ k. bit_xor (product_below a b n) (cond (has_bit b k) (times_x_power a k) 0)) (zero-add n)
    ∙ ap (λ t. bit_xor (product_below a b n) (cond t (times_x_power a n) 0)) e

pub product_below-set : (a b n : ℕ) → bit_and (b / 2 ^ n) 1 ≡ 1
    → product_below a b (n + 1) ≡ bit_xor (product_below a b n) (times_x_power a n)
product_below-set a b n set = product_below-suc a b n true (eq-eqb (bit_at b n) 1 (sym (shr_and_one b n) ∙ set))

pub product_below-clear : (a b n : ℕ) → bit_and (b / 2 ^ n) 1 ≢ 1
    → product_below a b (n + 1) ≡ product_below a b n
product_below-clear a b n clear =
    product_below-suc a b n false (ne_eqb (bit_at b n) 1 (λ e. clear (shr_and_one b n ∙ e)))
    ∙ xor_zero_r (product_below a b n)

pub power-zero : (a : ℕ) → times_x_power a 0 ≡ a
unfolding times_x_power
power-zero a = refl

pub power-next : (a n : ℕ) → times_x_power a (n + 1) ≡ times_x (times_x_power a n)
power-next a n = ap (times_x_power a) (add-one n) ∙ times_x_power-suc a n

-- for the loop of the product
pub ruleset product_steps =
    (product_below-zero, product_below-done, product_below-set, product_below-clear, power-zero, power-next)

-- ---- the inverse

pub squared-zero : (a : ℕ) → squared a 0 ≡ a
unfolding squared
squared-zero a = refl

pub squared-next : (a n : ℕ) → squared a (n + 1) ≡ product_of (squared a n) (squared a n)
unfolding squared
squared-next a n = ap (squared a) (add-one n)

pub squares_product-zero : (a : ℕ) → squares_product a 0 ≡ 1
unfolding squares_product
squares_product-zero a = refl

pub squares_product-next : (a n : ℕ)
    → squares_product a (n + 1) ≡ product_of (squares_product a n) (squared a (n + 1))
unfolding squares_product
squares_product-next a n =
    ap (squares_product a) (add-one n)
    ∙ ap (λ k. product_of (squares_product a n) (squared a k)) (sym (add-one n))

pub squares_product-done : (a n : ℕ) → n ≡ 15 → IsSymbol a → a ≢ 0 → product_of a (squares_product a n) ≡ 1
squares_product-done a n e h some = ap (λ k. product_of a (squares_product a k)) e ∙ product-inverse a h some

-- for the loop of the inverse
pub ruleset inverse_steps =
    (squared-zero, squared-next, squares_product-zero, squares_product-next, squares_product-done)
