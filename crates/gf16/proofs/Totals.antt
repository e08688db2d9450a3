-- Sums of symbols over the elements of a list that pass a test, and functions that take sums to sums.
use Rattle.std.proofs.Common.{◌≡◌, ℕ, Bool, true, false, cond, List, [], ◌∷◌, map, filter, bit_xor, refl, sym, ap, ap₂, ◌∙◌}
use Rattle.std.specs.Int.Bits.{xor_assoc, xor_comm, xor_self}
use Rattle.gf16.specs.Field.{total_of}

-- ---- functions that take sums to sums

-- f takes a sum to the sum of what it makes of each part
abbrev pub IsAdditive : (ℕ → ℕ) → Type 0
IsAdditive f = (a b : ℕ) → f (bit_xor a b) ≡ bit_xor (f a) (f b)

pub additive-zero : (f : ℕ → ℕ) → IsAdditive f → f 0 ≡ 0
additive-zero f additive = additive 0 0 ∙ xor_self (f 0)

-- two sums of two symbols, regrouped
pub xor_exchange : (a b c d : ℕ) → bit_xor (bit_xor a b) (bit_xor c d) ≡ bit_xor (bit_xor a c) (bit_xor b d)
xor_exchange a b c d =
    let inner : bit_xor b (bit_xor c d) ≡ bit_xor c (bit_xor b d) =
    sym (xor_assoc b c d) ∙ ap (λ x. bit_xor x d) (xor_comm b c) ∙ xor_assoc c b d in
    xor_assoc a b (bit_xor c d) ∙ ap (bit_xor a) inner ∙ sym (xor_assoc a c (bit_xor b d))

-- ---- sums over the elements that pass a test

-- the sum of f over the elements of xs that pass p
abbrev pub total_where : (ℕ → Bool) → (ℕ → ℕ) → List ℕ → ℕ
total_where p f xs = total_of (map f (filter p xs))

total_of-cond : (t : Bool) (f : ℕ → ℕ) (x : ℕ) (rest : List ℕ)
    → total_of (map f (cond t (x ∷ rest) rest)) ≡ bit_xor (cond t (f x) 0) (total_of (map f rest))
total_of-cond true f x rest = refl
total_of-cond false f x rest = refl

-- one more element
pub total_where-cons : (p : ℕ → Bool) (f : ℕ → ℕ) (x : ℕ) (xs : List ℕ)
    → total_where p f (x ∷ xs) ≡ bit_xor (cond (p x) (f x) 0) (total_where p f xs)
total_where-cons p f x xs = total_of-cond (p x) f x (filter p xs)

additive-cond : (h : ℕ → ℕ) → h 0 ≡ 0 → (t : Bool) (a : ℕ) → h (cond t a 0) ≡ cond t (h a) 0
additive-cond h at_zero true a = refl
additive-cond h at_zero false a = at_zero

-- an additive function of a sum is the sum of what it makes of each part
pub additive-total_where : (h f g : ℕ → ℕ) (p : ℕ → Bool) → IsAdditive h → ((i : ℕ) → h (f i) ≡ g i)
    → (xs : List ℕ) → h (total_where p f xs) ≡ total_where p g xs
additive-total_where h f g p additive e [] = additive-zero h additive
additive-total_where h f g p additive e (x ∷ xs) =
    let head : h (cond (p x) (f x) 0) ≡ cond (p x) (g x) 0 =
    additive-cond h (additive-zero h additive) (p x) (f x) ∙ ap (λ v. cond (p x) v 0) (e x) in
    ap h (total_where-cons p f x xs) ∙ additive (cond (p x) (f x) 0) (total_where p f xs)
    ∙ ap₂ bit_xor head (additive-total_where h f g p additive e xs) ∙ sym (total_where-cons p g x xs)

cond-xor : (t : Bool) (a b : ℕ) → cond t (bit_xor a b) 0 ≡ bit_xor (cond t a 0) (cond t b 0)
cond-xor true a b = refl
cond-xor false a b = refl

-- the sum of two functions' sums
pub total_where-xor : (p : ℕ → Bool) (f g h : ℕ → ℕ) → ((i : ℕ) → h i ≡ bit_xor (f i) (g i)) → (xs : List ℕ)
    → total_where p h xs ≡ bit_xor (total_where p f xs) (total_where p g xs)
total_where-xor p f g h e [] = refl
total_where-xor p f g h e (x ∷ xs) =
    let head : cond (p x) (h x) 0 ≡ bit_xor (cond (p x) (f x) 0) (cond (p x) (g x) 0) =
    ap (λ v. cond (p x) v 0) (e x) ∙ cond-xor (p x) (f x) (g x) in
    total_where-cons p h x xs ∙ ap₂ bit_xor head (total_where-xor p f g h e xs)
    ∙ xor_exchange (cond (p x) (f x) 0) (cond (p x) (g x) 0) (total_where p f xs) (total_where p g xs)
    ∙ ap₂ bit_xor (sym (total_where-cons p f x xs)) (sym (total_where-cons p g x xs))

-- the sum where exactly one of two tests passes
pub total_where-tests : (p q r : ℕ → Bool) (f : ℕ → ℕ)
    → ((i v : ℕ) → cond (r i) v 0 ≡ bit_xor (cond (p i) v 0) (cond (q i) v 0)) → (xs : List ℕ)
    → total_where r f xs ≡ bit_xor (total_where p f xs) (total_where q f xs)
total_where-tests p q r f e [] = refl
total_where-tests p q r f e (x ∷ xs) =
    total_where-cons r f x xs ∙ ap₂ bit_xor (e x (f x)) (total_where-tests p q r f e xs)
    ∙ xor_exchange (cond (p x) (f x) 0) (cond (q x) (f x) 0) (total_where p f xs) (total_where q f xs)
    ∙ ap₂ bit_xor (sym (total_where-cons p f x xs)) (sym (total_where-cons q f x xs))
