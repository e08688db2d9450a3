-- The product is additive in each factor, and any additive function that commutes with times x passes through it.
use Rattle.std.proofs.Common.{◌≡◌, ℕ, ◌%◌, ◌^◌, Bool, true, false, cond, List, map, bit_xor, refl, sym, ap, ap₂, subst, ◌∙◌, [], ◌∷◌, lit<, arith}
use Rattle.std.specs.Int.Bits.{xor_zero_r, xor_lt}
use Rattle.gf16.specs.Field.{IsSymbol, times_x, times_x_power, bit_places, set_bits, product_of}
use Rattle.gf16.proofs.Totals.{IsAdditive, additive-zero, total_where-cons, total_where, additive-total_where, total_where-xor}
use Rattle.gf16.proofs.TimesX.{times_x-additive, times_x_power-additive, times_x_power_is_symbol, along_power, low-additive, times_x-low}
use Rattle.gf16.proofs.Basis.{has_bit, total_where-same, total_where-low, total_where-bits, powers_of_symbol}

pub product_is : (a b : ℕ) → product_of a b ≡ total_where (has_bit b) (times_x_power a) bit_places
unfolding product_of set_bits
product_is a b = refl

-- f passes through a product to its left factor
pub along_product : (f : ℕ → ℕ) → IsAdditive f → ((a : ℕ) → f (times_x a) ≡ times_x (f a)) → (a b : ℕ)
    → f (product_of a b) ≡ product_of (f a) b
along_product f additive commutes a b =
    ap f (product_is a b)
    ∙ additive-total_where f (times_x_power a) (times_x_power (f a)) (has_bit b) additive (along_power f commutes a) bit_places
    ∙ sym (product_is (f a) b)

pub product_distributes : (a : ℕ) → IsAdditive (product_of a)
product_distributes a b c =
    product_is a (bit_xor b c)
    ∙ total_where-bits (times_x_power a) b c
    ∙ ap₂ bit_xor (sym (product_is a b)) (sym (product_is a c))

pub product_distributes_left : (c : ℕ) → IsAdditive (λ a. product_of a c)
product_distributes_left c a b =
    product_is (bit_xor a b) c
    ∙ total_where-xor (has_bit c) (times_x_power a) (times_x_power b) (times_x_power (bit_xor a b)) (λ i. times_x_power-additive i a b) bit_places
    ∙ ap₂ bit_xor (sym (product_is a c)) (sym (product_is b c))

-- times x passes through a product to its left factor
pub times_x-product : (a b : ℕ) → times_x (product_of a b) ≡ product_of (times_x a) b
times_x-product = along_product times_x times_x-additive (λ a. refl)

-- ---- products by 0, 1 and x

pub product-zero_right : (a : ℕ) → product_of a 0 ≡ 0
product-zero_right a = additive-zero (product_of a) (product_distributes a)

pub product-zero_left : (a : ℕ) → product_of 0 a ≡ 0
product-zero_left a = additive-zero (λ b. product_of b a) (product_distributes_left a)

pub product-one_right : (a : ℕ) → product_of a 1 ≡ a
unfolding product_of set_bits bit_places times_x_power
product-one_right a = xor_zero_r a

pub product-x_right : (a : ℕ) → product_of a 2 ≡ times_x a
unfolding product_of set_bits bit_places times_x_power
product-x_right a = xor_zero_r (times_x a)

-- while no bit comes out, 1 moves up
powers_of_one : map (times_x_power 1) bit_places ≡ map (λ i. 2 ^ i) bit_places
unfolding bit_places times_x_power times_x
powers_of_one = refl

pub product-one_left : (b : ℕ) → IsSymbol b → product_of 1 b ≡ b
product-one_left b h =
    product_is 1 b ∙ total_where-same (has_bit b) (times_x_power 1) (λ i. 2 ^ i) bit_places powers_of_one
    ∙ powers_of_symbol b h

-- ---- products of symbols are symbols

total_is_symbol : (p : ℕ → Bool) (f : ℕ → ℕ) → ((i : ℕ) → IsSymbol (f i)) → (xs : List ℕ)
    → IsSymbol (total_where p f xs)
total_is_symbol p f h [] = lit< tt
total_is_symbol p f h (x ∷ xs) =
    let P : ℕ → Type 0 = IsSymbol in
    subst P (sym (total_where-cons p f x xs)) (xor_lt 16 (cond (p x) (f x) 0) (total_where p f xs) (head (p x)) (total_is_symbol p f h xs))
  where
    head : (t : Bool) → IsSymbol (cond t (f x) 0)
    head true = h x
    head false = lit< tt

pub product_is_symbol : (a b : ℕ) → IsSymbol a → IsSymbol (product_of a b)
product_is_symbol a b h =
    let P : ℕ → Type 0 = IsSymbol in
    subst P (sym (product_is a b)) (total_is_symbol (has_bit b) (times_x_power a) (λ i. times_x_power_is_symbol a i h) bit_places)

-- ---- the laws of a product

-- two right factors may change places
pub product_exchange : (a b c : ℕ) → product_of (product_of a b) c ≡ product_of (product_of a c) b
product_exchange a b c =
    along_product (λ d. product_of d c) (product_distributes_left c) (λ d. sym (times_x-product d c)) a b

pub product_comm : (a b : ℕ) → IsSymbol a → IsSymbol b → product_of a b ≡ product_of b a
product_comm a b by_a by_b =
    ap (λ c. product_of c b) (sym (product-one_left a by_a)) ∙ product_exchange 1 a b
    ∙ ap (λ c. product_of c a) (product-one_left b by_b)

-- a right factor counts by its low 16 bits alone
product-low_right : (a b : ℕ) → product_of a (b % 2 ^ 16) ≡ product_of a b
product-low_right a b = product_is a (b % 2 ^ 16) ∙ total_where-low b (times_x_power a) ∙ sym (product_is a b)

-- a product's low 16 bits are those of the left factor's low 16 bits
product-low_left : (a b : ℕ) → product_of a b % 2 ^ 16 ≡ product_of (a % 2 ^ 16) b
product-low_left = along_product (λ a. a % 2 ^ 16) low-additive times_x-low

assoc_of_symbols : (a b c : ℕ) → IsSymbol a → IsSymbol b
    → product_of (product_of a b) c ≡ product_of a (product_of b c)
assoc_of_symbols a b c by_a by_b =
    ap (λ d. product_of d c) (product_comm a b by_a by_b)
    ∙ product_exchange b a c
    ∙ product_comm (product_of b c) a (product_is_symbol b c by_b) by_a

pub product_assoc : (a b c : ℕ) → IsSymbol a → product_of (product_of a b) c ≡ product_of a (product_of b c)
product_assoc a b c by_a =
    ap (λ d. product_of d c) (sym (product-low_right a b))
    ∙ assoc_of_symbols a (b % 2 ^ 16) c by_a (omega arith)
    ∙ ap (product_of a) (sym (product-low_left b c))
    ∙ product-low_right a (product_of b c)
