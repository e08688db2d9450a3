-- The inverse of a symbol that is not 0 is its power 2^16 - 2, the product of its squares of squares from the first to
-- the fifteenth; and what follows from inverses.
use Rattle.std.proofs.Common.{◌≡◌, ◌≢◌, ◌⊎◌, ℕ, zero, suc, refl, sym, ap, ◌∙◌, inl, inr, ⊎_elim, lit<, arith}
use Rattle.gf16.specs.Field.{IsSymbol, product_of, HasOneInverse}
use Rattle.gf16.proofs.Product.{product-one_right, product-one_left, product-zero_right, product_is_symbol, product_exchange, product_assoc}
use Rattle.gf16.proofs.Squares.{squared, sixteen_squarings}
use Rattle.gf16.proofs.Idempotents.{zero_or_one}

-- the product of the first i squares: a to the 2 + 4 + .. + 2^i
unfoldable pub squares_product : ℕ → ℕ → ℕ
squares_product a zero = 1
squares_product a (suc i) = product_of (squares_product a i) (squared a (suc i))

pub squares_product_is_symbol : (a i : ℕ) → IsSymbol (squares_product a i)
unfolding squares_product
squares_product_is_symbol a zero = lit< tt
squares_product_is_symbol a (suc i) =
    product_is_symbol (squares_product a i) (squared a (suc i)) (squares_product_is_symbol a i)

-- two more factors a make it the next square
twice_times_squares : (a i : ℕ) → IsSymbol a
    → product_of a (product_of a (squares_product a i)) ≡ squared a (suc i)
unfolding squares_product squared
twice_times_squares a zero h = ap (product_of a) (product-one_right a)
twice_times_squares a (suc i) h =
    let before = squares_product a i in
    let square = squared a (suc i) in
    let e = twice_times_squares a i h in
    ap (product_of a) (sym (product_assoc a before square h))
    ∙ sym (product_assoc a (product_of a before) square h)
    ∙ ap (λ c. product_of c square) e

-- a to the 2^16 - 2
abbrev pub inverse_of : ℕ → ℕ
inverse_of a = squares_product a 15

pub product-inverse : (a : ℕ) → IsSymbol a → a ≢ 0 → product_of a (inverse_of a) ≡ 1
product-inverse a h some =
    let inverse = inverse_of a in
    let e = product_of a inverse in
    let kept : product_of a e ≡ a = twice_times_squares a 15 h ∙ sixteen_squarings a h in
    let idempotent : product_of e e ≡ e = product_exchange a inverse e ∙ ap (λ c. product_of c inverse) kept in
    ⊎_elim
    (λ (none : e ≡ 0). absurd (some (sym kept ∙ ap (product_of a) none ∙ product-zero_right a)))
    (λ one. one)
    (zero_or_one e (product_is_symbol a inverse h) idempotent)

pub product_cancel : (a b c : ℕ) → IsSymbol a → IsSymbol b → IsSymbol c → a ≢ 0
    → product_of a b ≡ product_of a c → b ≡ c
product_cancel a b c by_a by_b by_c some e =
    let inverse = inverse_of a in
    let one = product-inverse a by_a some in
    sym (product-one_left b by_b) ∙ ap (λ d. product_of d b) (sym one) ∙ product_exchange a inverse b
    ∙ ap (λ d. product_of d inverse) e
    ∙ product_exchange a c inverse ∙ ap (λ d. product_of d c) one ∙ product-one_left c by_c

pub zero_factor : (a b : ℕ) → IsSymbol a → IsSymbol b → product_of a b ≡ 0 → (a ≡ 0) ⊎ (b ≡ 0)
zero_factor zero b by_a by_b e = inl refl
zero_factor (suc a) b by_a by_b e =
    let some : suc a ≢ 0 = omega arith in
    inr (product_cancel (suc a) b 0 by_a by_b (lit< tt) some (e ∙ sym (product-zero_right (suc a))))

pub one_inverse : (a : ℕ) → IsSymbol a → a ≢ 0 → HasOneInverse a
one_inverse a h some =
    let one = product-inverse a h some in
    record {
      inverse = inverse_of a;
      is_symbol = squares_product_is_symbol a 15;
      is_inverse = one;
      only = λ b by_b e. product_cancel a b (inverse_of a) h by_b (squares_product_is_symbol a 15) some (e
          ∙ sym one);
    }
