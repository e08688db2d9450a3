-- The field of 2^16 symbols: polynomials in x of degree below 16 over the field of two elements, added place by place
-- and multiplied modulo x^16 + x^12 + x^3 + x + 1. The coefficient of x^i is bit i of the number.
-- Defines the sum and the product of two symbols, what it is to have one inverse, and all laws of a field as one record.
use Rattle.std.specs.Prelude.{◌≡◌, ◌≢◌, ◌⊎◌, ℕ, zero, suc, ◌*◌, ◌^◌, ◌<◌, List, [], ◌∷◌, map, filter, bit_xor, ◌==◌, if◌then◌else◌}
use Rattle.std.specs.Int.{bit_at}
use Rattle.std.specs.List.{range_with_len}

-- a number of 16 bits
abbrev pub IsSymbol : ℕ → Type 0
IsSymbol a = a < 2 ^ 16

-- the sum of two symbols: their exclusive or
abbrev pub sum_of : ℕ → ℕ → ℕ
sum_of a b = bit_xor a b

-- the sum of a list of symbols
abbrev pub total_of : List ℕ → ℕ
total_of [] = 0
total_of (x ∷ xs) = sum_of x (total_of xs)

-- a times x: twice a, less the polynomial where that has a bit 16 (to subtract is to add)
unfoldable pub times_x : ℕ → ℕ
times_x a = let shifted = a * 2 in if bit_at shifted 16 == 1 then sum_of shifted 0x1100B else shifted

-- a multiplied i times by x
unfoldable pub times_x_power : ℕ → ℕ → ℕ
times_x_power a zero = a
times_x_power a (suc i) = times_x (times_x_power a i)

-- the places of a symbol's bits, 0 to 15
unfoldable pub bit_places : List ℕ
bit_places = range_with_len 0 16

-- the places below 16 at which b has a set bit
unfoldable pub set_bits : ℕ → List ℕ
set_bits b = filter (λ i. bit_at b i == 1) bit_places

-- the product of two symbols: for each place i where b has a bit, a times x^i, all of these added up
unfoldable pub product_of : ℕ → ℕ → ℕ
product_of a b = total_of (map (times_x_power a) (set_bits b))

-- exactly one symbol times a is 1
pub record HasOneInverse (a : ℕ) : Type 0 where
  pub inverse : ℕ
  pub is_symbol : IsSymbol inverse
  pub is_inverse : product_of a inverse ≡ 1
  pub only : (b : ℕ) → IsSymbol b → product_of a b ≡ 1 → b ≡ inverse

-- every symbol but 0 has exactly one
abbrev pub InverseLaw : Type 0
InverseLaw = (a : ℕ) → IsSymbol a → a ≢ 0 → HasOneInverse a

-- the laws of a field of characteristic two; a law that holds of every number asks for no symbol
pub record IsField : Type 0 where
  pub sum_closed : (a b : ℕ) → IsSymbol a → IsSymbol b → IsSymbol (sum_of a b)
  pub sum_associates : (a b c : ℕ) → sum_of (sum_of a b) c ≡ sum_of a (sum_of b c)
  pub sum_commutes : (a b : ℕ) → sum_of a b ≡ sum_of b a
  pub sum_zero : (a : ℕ) → sum_of a 0 ≡ a
  pub zero_sum : (a : ℕ) → sum_of 0 a ≡ a
  pub sum_self : (a : ℕ) → sum_of a a ≡ 0
  pub product_closed : (a b : ℕ) → IsSymbol a → IsSymbol (product_of a b)
  pub product_associates : (a b c : ℕ) → IsSymbol a → product_of (product_of a b) c ≡ product_of a (product_of b c)
  pub product_commutes : (a b : ℕ) → IsSymbol a → IsSymbol b → product_of a b ≡ product_of b a
  pub product_exchanges : (a b c : ℕ) → product_of (product_of a b) c ≡ product_of (product_of a c) b
  pub product_distributes : (a b c : ℕ) → product_of a (sum_of b c) ≡ sum_of (product_of a b) (product_of a c)
  pub product_distributes_left : (a b c : ℕ) → product_of (sum_of a b) c ≡ sum_of (product_of a c) (product_of b c)
  pub product_one : (a : ℕ) → product_of a 1 ≡ a
  pub one_product : (a : ℕ) → IsSymbol a → product_of 1 a ≡ a
  pub product_zero : (a : ℕ) → product_of a 0 ≡ 0
  pub zero_product : (a : ℕ) → product_of 0 a ≡ 0
  pub inverse : (a : ℕ) → IsSymbol a → a ≢ 0 → (b : ℕ) × IsSymbol b × (product_of a b ≡ 1)
  pub no_zero_divisors : (a b : ℕ) → IsSymbol a → IsSymbol b → product_of a b ≡ 0 → (a ≡ 0) ⊎ (b ≡ 0)
  pub product_cancels : (a b c : ℕ) → IsSymbol a → IsSymbol b → IsSymbol c → a ≢ 0
      → product_of a b ≡ product_of a c → b ≡ c
