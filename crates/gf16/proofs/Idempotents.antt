-- A symbol that is its own square is 0 or 1: from v² + v a linear map gives back v without its lowest bit.
use Rattle.std.proofs.Common.{◌≡◌, ◌⊎◌, ℕ, zero, suc, ◌%◌, ◌^◌, List, [], ◌∷◌, map, bit_xor, slice_index, refl, sym, ap, ◌∙◌, inl, inr, mod-eq_of_lt, arith}
use Rattle.std.specs.Int.Bits.{xor_assoc, xor_self, xor_zero_r, xor_mod}
use Rattle.gf16.specs.Field.{IsSymbol, times_x, times_x_power, bit_places, set_bits, product_of}
use Rattle.gf16.proofs.Totals.{IsAdditive, additive-zero, total_where, xor_exchange}
use Rattle.gf16.proofs.Basis.{has_bit, total_where-bits, same_from_powers}
use Rattle.gf16.proofs.Squares.{square_of_sum}

-- v² + v for the low 16 bits v of a number
square_plus : ℕ → ℕ
square_plus a = bit_xor (product_of (a % 2 ^ 16) (a % 2 ^ 16)) (a % 2 ^ 16)

square_plus-additive : IsAdditive square_plus
unfolding square_plus
square_plus-additive a b =
    let u = a % 2 ^ 16 in
    let v = b % 2 ^ 16 in
    ap (λ c. bit_xor (product_of c c) c) (xor_mod a b 16)
    ∙ ap (λ c. bit_xor c (bit_xor u v)) (square_of_sum u v (omega arith) (omega arith))
    ∙ xor_exchange (product_of u u) (product_of v v) u v

-- what each bit of v² + v gives back, found by elimination
columns : List ℕ
columns =
    0x015E ∷ 0xA5B4 ∷ 0xA5B6 ∷ 0x1CF4 ∷ 0xA5B2 ∷ 0x2820 ∷ 0x1CFC ∷ 0x0530
    ∷ 0xA5A2 ∷ 0x96D2 ∷ 0x2800 ∷ 0x13CC ∷ 0x1CBC ∷ 0x0000 ∷ 0x05B0 ∷ 0x55B0 ∷ []

given_back : ℕ → ℕ
given_back a = total_where (has_bit a) (slice_index columns) bit_places

given_back-additive : IsAdditive given_back
unfolding given_back
given_back-additive = total_where-bits (slice_index columns)

without_lowest : ℕ → ℕ
without_lowest a = bit_xor a (a % 2)

without_lowest-additive : IsAdditive without_lowest
unfolding without_lowest
without_lowest-additive a b = ap (bit_xor (bit_xor a b)) (xor_mod a b 1) ∙ xor_exchange a b (a % 2) (b % 2)

-- checked at the 16 powers of two
agree : map (λ i. given_back (square_plus (2 ^ i))) bit_places ≡ map (λ i. without_lowest (2 ^ i)) bit_places
unfolding given_back square_plus without_lowest columns product_of set_bits bit_places times_x_power times_x
agree = refl

given_back-square_plus : (a : ℕ) → IsSymbol a → given_back (square_plus a) ≡ without_lowest a
given_back-square_plus = same_from_powers (λ a. given_back (square_plus a)) without_lowest
    (λ a b. ap given_back (square_plus-additive a b)
    ∙ given_back-additive (square_plus a) (square_plus b)) without_lowest-additive agree

-- two symbols whose sum is 0 are one
pub same_from_sum : (a b : ℕ) → bit_xor a b ≡ 0 → a ≡ b
same_from_sum a b e =
    sym (xor_zero_r a) ∙ ap (bit_xor a) (sym (xor_self b)) ∙ sym (xor_assoc a b b)
    ∙ ap (λ c. bit_xor c b) e

pub zero_or_one : (a : ℕ) → IsSymbol a → product_of a a ≡ a → (a ≡ 0) ⊎ (a ≡ 1)
unfolding square_plus without_lowest
zero_or_one a h idempotent =
    let low : a % 2 ^ 16 ≡ a = mod-eq_of_lt h in
    let nothing : square_plus a ≡ 0 =
    ap (λ v. bit_xor (product_of v v) v) low ∙ ap (λ v. bit_xor v a) idempotent ∙ xor_self a in
    let e : bit_xor a (a % 2) ≡ 0 =
    sym (given_back-square_plus a h) ∙ ap given_back nothing ∙ additive-zero given_back given_back-additive in
    small a (same_from_sum a (a % 2) e)
  where
    small : (n : ℕ) → n ≡ n % 2 → (n ≡ 0) ⊎ (n ≡ 1)
    small zero e = inl refl
    small (suc zero) e = inr refl
    small (suc (suc n)) e = absurd (omega arith)
