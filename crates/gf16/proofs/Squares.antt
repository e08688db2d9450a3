-- Squaring takes sums to sums and products to products, and 16 squarings give a symbol back.
use Rattle.std.proofs.Common.{◌≡◌, ℕ, zero, suc, ◌%◌, ◌^◌, bit_xor, refl, sym, ap, ap₂, ◌∙◌, mod-eq_of_lt, arith}
use Rattle.std.specs.Int.Bits.{xor_assoc, xor_self, xor_mod}
use Rattle.gf16.specs.Field.{IsSymbol, times_x, times_x_power, bit_places, set_bits, product_of}
use Rattle.gf16.proofs.Totals.{IsAdditive}
use Rattle.gf16.proofs.TimesX.{times_x-low}
use Rattle.gf16.proofs.Product.{along_product, product_distributes_left, product_distributes, product-x_right, product-one_left, product_is_symbol, product_comm, product_exchange, product_assoc}

pub xor_cancel : (a b : ℕ) → bit_xor a (bit_xor a b) ≡ b
xor_cancel a b = sym (xor_assoc a a b) ∙ ap (λ c. bit_xor c b) (xor_self a)

-- the square of a sum: the two mixed products are one, and cancel
pub square_of_sum : (a b : ℕ) → IsSymbol a → IsSymbol b
    → product_of (bit_xor a b) (bit_xor a b) ≡ bit_xor (product_of a a) (product_of b b)
square_of_sum a b by_a by_b =
    let mixed = product_of a b in
    let right : product_of b (bit_xor a b) ≡ bit_xor mixed (product_of b b) =
    product_distributes b a b ∙ ap (λ c. bit_xor c (product_of b b)) (product_comm b a by_b by_a) in
    product_distributes_left (bit_xor a b) a b
    ∙ ap₂ bit_xor (product_distributes a a b) right
    ∙ xor_assoc (product_of a a) mixed (bit_xor mixed (product_of b b))
    ∙ ap (bit_xor (product_of a a)) (xor_cancel mixed (product_of b b))

pub square_of_product : (a b : ℕ) → IsSymbol a
    → product_of (product_of a b) (product_of a b) ≡ product_of (product_of a a) (product_of b b)
square_of_product a b by_a =
    sym (product_assoc (product_of a b) a b (product_is_symbol a b by_a))
    ∙ ap (λ c. product_of c b) (product_exchange a b a)
    ∙ product_assoc (product_of a a) b b (product_is_symbol a a by_a)

-- a squared i times: a to the 2^i
unfoldable pub squared : ℕ → ℕ → ℕ
squared a zero = a
squared a (suc i) = product_of (squared a i) (squared a i)

pub squared_is_symbol : (a i : ℕ) → IsSymbol a → IsSymbol (squared a i)
unfolding squared
squared_is_symbol a zero h = h
squared_is_symbol a (suc i) h = product_is_symbol (squared a i) (squared a i) (squared_is_symbol a i h)

squared_of_sum : (a b i : ℕ) → IsSymbol a → IsSymbol b
    → squared (bit_xor a b) i ≡ bit_xor (squared a i) (squared b i)
unfolding squared
squared_of_sum a b zero by_a by_b = refl
squared_of_sum a b (suc i) by_a by_b =
    let e = squared_of_sum a b i by_a by_b in
    ap₂ product_of e e
    ∙ square_of_sum (squared a i) (squared b i) (squared_is_symbol a i by_a) (squared_is_symbol b i by_b)

squared_of_product : (a b i : ℕ) → IsSymbol a
    → squared (product_of a b) i ≡ product_of (squared a i) (squared b i)
unfolding squared
squared_of_product a b zero by_a = refl
squared_of_product a b (suc i) by_a =
    let e = squared_of_product a b i by_a in
    ap₂ product_of e e ∙ square_of_product (squared a i) (squared b i) (squared_is_symbol a i by_a)

-- ---- 16 squarings are additive, keep 1 and x, and so keep every symbol

of_low : ℕ → ℕ
of_low a = squared (a % 2 ^ 16) 16

of_low-additive : IsAdditive of_low
unfolding of_low
of_low-additive a b =
    ap (λ c. squared c 16) (xor_mod a b 16)
    ∙ squared_of_sum (a % 2 ^ 16) (b % 2 ^ 16) 16 (omega arith) (omega arith)

squared_x : squared 2 16 ≡ 2
unfolding squared product_of set_bits bit_places times_x_power times_x
squared_x = refl

squared_one : squared 1 16 ≡ 1
unfolding squared product_of set_bits bit_places times_x_power times_x
squared_one = refl

of_low-times_x : (a : ℕ) → of_low (times_x a) ≡ times_x (of_low a)
unfolding of_low
of_low-times_x a =
    let low = a % 2 ^ 16 in
    ap (λ c. squared c 16) (times_x-low a ∙ sym (product-x_right low))
    ∙ squared_of_product low 2 16 (omega arith)
    ∙ ap (product_of (squared low 16)) squared_x
    ∙ product-x_right (squared low 16)

pub sixteen_squarings : (a : ℕ) → IsSymbol a → squared a 16 ≡ a
unfolding of_low
sixteen_squarings a h =
    ap (λ c. squared c 16) (sym (mod-eq_of_lt h))
    ∙ ap of_low (sym (product-one_left a h))
    ∙ along_product of_low of_low-additive of_low-times_x 1 a
    ∙ ap (λ c. product_of c a) squared_one
    ∙ product-one_left a h
