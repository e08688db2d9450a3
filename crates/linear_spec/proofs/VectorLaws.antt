-- Lists of symbols as vectors: the calculus of adding a multiple of one to another, over any field of characteristic two.
use Rattle.std.proofs.Common.{◌≡◌, ℕ, zero, suc, ◌+◌, ◌<◌, List, [], ◌∷◌, ◌++◌, length, get_or, take, drop, set, replicate, refl, ap, ap₂, sym, ◌∙◌, arith, lit<, add-one}
use Rattle.std.proofs.lemmas.List.{length-replicate, length-map}
use Rattle.std.proofs.lemmas.List.Elements.{All-nil, All-cons, All-head, All-tail, All-replicate}
use Rattle.gf16.specs.Field.{IsSymbol, IsField, sum_of, product_of}
use Rattle.gf16.specs.Sums.{scaled, plus_scaled}
use Rattle.linear_spec.specs.Symbols.{AreSymbols, IsVector}

-- ---- lengths, and the field's laws in the forms that places want

pub length-plus_scaled : (c : ℕ) (u v : List ℕ) → length (plus_scaled u c v) ≡ length u
length-plus_scaled c [] v = refl
length-plus_scaled c (x ∷ u) [] = refl
length-plus_scaled c (x ∷ u) (y ∷ v) = ap suc (length-plus_scaled c u v)

pub take-plus_scaled : (k c : ℕ) (u v : List ℕ) → take k (plus_scaled u c v) ≡ plus_scaled (take k u) c (take k v)
take-plus_scaled zero c u v = refl
take-plus_scaled (suc k) c [] v = refl
take-plus_scaled (suc k) c (x ∷ u) [] = refl
take-plus_scaled (suc k) c (x ∷ u) (y ∷ v) = ap (λ w. sum_of x (product_of c y) ∷ w) (take-plus_scaled k c u v)

pub drop-plus_scaled : (k c : ℕ) (u v : List ℕ) → drop k (plus_scaled u c v) ≡ plus_scaled (drop k u) c (drop k v)
drop-plus_scaled zero c u v = refl
drop-plus_scaled (suc k) c [] v = refl
drop-plus_scaled (suc k) c (x ∷ u) [] = nothing_added (drop k u)
  where
    nothing_added : (w : List ℕ) → w ≡ plus_scaled w c []
    nothing_added [] = refl
    nothing_added (y ∷ w) = refl
drop-plus_scaled (suc k) c (x ∷ u) (y ∷ v) = drop-plus_scaled k c u v

pub append-plus_scaled : (c : ℕ) (u v t w : List ℕ) → length u ≡ length v
    → plus_scaled (u ++ t) c (v ++ w) ≡ plus_scaled u c v ++ plus_scaled t c w
append-plus_scaled c [] [] t w same = refl
append-plus_scaled c [] (y ∷ v) t w same = absurd (omega arith)
append-plus_scaled c (x ∷ u) [] t w same = absurd (omega arith)
append-plus_scaled c (x ∷ u) (y ∷ v) t w same = ap (λ r. sum_of x (product_of c y) ∷ r) (append-plus_scaled c u v t w (omega arith))

module _ (field : IsField) where
  pub sum-exchange : (x y z : ℕ) → sum_of (sum_of x y) z ≡ sum_of (sum_of x z) y
  sum-exchange x y z = field.sum_associates x y z ∙ ap (sum_of x) (field.sum_commutes y z) ∙ sym (field.sum_associates x z y)

  pub sum-twice : (x y : ℕ) → sum_of (sum_of x y) y ≡ x
  sum-twice x y = field.sum_associates x y y ∙ ap (sum_of x) (field.sum_self y) ∙ field.sum_zero x

  -- ---- the laws of plus_scaled

  pub plus_scaled-zero : (u v : List ℕ) → plus_scaled u 0 v ≡ u
  plus_scaled-zero [] v = refl
  plus_scaled-zero (x ∷ u) [] = refl
  plus_scaled-zero (x ∷ u) (y ∷ v) = ap₂ (λ a w. a ∷ w) (ap (sum_of x) (field.zero_product y) ∙ field.sum_zero x) (plus_scaled-zero u v)

  -- the zero vector adds nothing
  pub plus_scaled-zeros : (c n : ℕ) (u : List ℕ) → plus_scaled u c (replicate n 0) ≡ u
  plus_scaled-zeros c n [] = refl
  plus_scaled-zeros c zero (x ∷ u) = refl
  plus_scaled-zeros c (suc n) (x ∷ u) = ap₂ (λ a w. a ∷ w) (ap (sum_of x) (field.product_zero c) ∙ field.sum_zero x) (plus_scaled-zeros c n u)

  -- added to the zero vector, a multiple is itself
  pub zeros-plus_scaled : (n c : ℕ) (v : List ℕ) → length v ≡ n → plus_scaled (replicate n 0) c v ≡ scaled c v
  zeros-plus_scaled zero c [] same = refl
  zeros-plus_scaled zero c (y ∷ v) same = absurd (omega arith)
  zeros-plus_scaled (suc n) c [] same = absurd (omega arith)
  zeros-plus_scaled (suc n) c (y ∷ v) same = ap₂ (λ a w. a ∷ w) (field.zero_sum (product_of c y)) (zeros-plus_scaled n c v (omega arith))

  -- adding c times v twice gives the vector back
  pub plus_scaled-twice : (c : ℕ) (u v : List ℕ) → plus_scaled (plus_scaled u c v) c v ≡ u
  plus_scaled-twice c [] v = refl
  plus_scaled-twice c (x ∷ u) [] = refl
  plus_scaled-twice c (x ∷ u) (y ∷ v) = ap₂ (λ a w. a ∷ w) (sum-twice x (product_of c y)) (plus_scaled-twice c u v)

  -- two multiples are added in either order
  pub plus_scaled-commutes : (a b : ℕ) (u v w : List ℕ) → plus_scaled (plus_scaled u a v) b w ≡ plus_scaled (plus_scaled u b w) a v
  plus_scaled-commutes a b [] v w = refl
  plus_scaled-commutes a b (x ∷ u) [] [] = refl
  plus_scaled-commutes a b (x ∷ u) [] (z ∷ w) = refl
  plus_scaled-commutes a b (x ∷ u) (y ∷ v) [] = refl
  plus_scaled-commutes a b (x ∷ u) (y ∷ v) (z ∷ w) = ap₂ (λ d r. d ∷ r) (sum-exchange x (product_of a y) (product_of b z)) (plus_scaled-commutes a b u v w)

  -- a multiple of a sum is the sum of the multiples
  pub plus_scaled-plus_scaled : (a b : ℕ) (u v w : List ℕ) → IsSymbol a → length v ≡ length w
      → plus_scaled u a (plus_scaled v b w) ≡ plus_scaled (plus_scaled u a v) (product_of a b) w
  plus_scaled-plus_scaled a b [] v w symbol same = refl
  plus_scaled-plus_scaled a b (x ∷ u) [] [] symbol same = refl
  plus_scaled-plus_scaled a b (x ∷ u) [] (z ∷ w) symbol same = absurd (omega arith)
  plus_scaled-plus_scaled a b (x ∷ u) (y ∷ v) [] symbol same = absurd (omega arith)
  plus_scaled-plus_scaled a b (x ∷ u) (y ∷ v) (z ∷ w) symbol same =
      ap₂ (λ d r. d ∷ r)
      (ap (sum_of x) (field.product_distributes a y (product_of b z) ∙ ap (sum_of (product_of a y)) (sym (field.product_associates a b z symbol)))
      ∙ sym (field.sum_associates x (product_of a y) (product_of (product_of a b) z)))
      (plus_scaled-plus_scaled a b u v w symbol (omega arith))

  -- two multiples of one vector are its multiple by the sum
  pub plus_scaled-sum : (a b : ℕ) (u v : List ℕ) → plus_scaled (plus_scaled u a v) b v ≡ plus_scaled u (sum_of a b) v
  plus_scaled-sum a b [] v = refl
  plus_scaled-sum a b (x ∷ u) [] = refl
  plus_scaled-sum a b (x ∷ u) (y ∷ v) =
      ap₂ (λ d r. d ∷ r)
      (field.sum_associates x (product_of a y) (product_of b y) ∙ ap (sum_of x) (sym (field.product_distributes_left a b y)))
      (plus_scaled-sum a b u v)

  -- a multiple of a multiple is the multiple by the product
  pub plus_scaled-scaled : (a b : ℕ) (u v : List ℕ) → IsSymbol a → plus_scaled u a (scaled b v) ≡ plus_scaled u (product_of a b) v
  plus_scaled-scaled a b [] v symbol = refl
  plus_scaled-scaled a b (x ∷ u) [] symbol = refl
  plus_scaled-scaled a b (x ∷ u) (y ∷ v) symbol =
      ap₂ (λ d r. d ∷ r) (ap (sum_of x) (sym (field.product_associates a b y symbol))) (plus_scaled-scaled a b u v symbol)

  pub scaled-scaled : (a b : ℕ) (v : List ℕ) → IsSymbol a → scaled a (scaled b v) ≡ scaled (product_of a b) v
  scaled-scaled a b [] symbol = refl
  scaled-scaled a b (y ∷ v) symbol = ap₂ (λ d r. d ∷ r) (sym (field.product_associates a b y symbol)) (scaled-scaled a b v symbol)

  pub scaled-zeros : (a n : ℕ) → scaled a (replicate n 0) ≡ replicate n 0
  scaled-zeros a zero = refl
  scaled-zeros a (suc n) = ap₂ (λ d r. d ∷ r) (field.product_zero a) (scaled-zeros a n)

  pub scaled-plus_scaled : (a b : ℕ) (u v : List ℕ) → IsSymbol a → scaled a (plus_scaled u b v) ≡ plus_scaled (scaled a u) (product_of a b) v
  scaled-plus_scaled a b [] v symbol = refl
  scaled-plus_scaled a b (x ∷ u) [] symbol = refl
  scaled-plus_scaled a b (x ∷ u) (y ∷ v) symbol =
      ap₂ (λ d r. d ∷ r)
      (field.product_distributes a x (product_of b y) ∙ ap (sum_of (product_of a x)) (sym (field.product_associates a b y symbol)))
      (scaled-plus_scaled a b u v symbol)

  pub scaled-one : (v : List ℕ) → AreSymbols v → scaled 1 v ≡ v
  scaled-one [] symbols = refl
  scaled-one (y ∷ v) symbols = ap₂ (λ d r. d ∷ r) (field.one_product y (All-head IsSymbol y v symbols)) (scaled-one v (All-tail IsSymbol y v symbols))

  -- what a multiple is added to is taken away again
  pub plus_scaled-cancels : (c : ℕ) (u v : List ℕ) → AreSymbols u → length u ≡ length v → plus_scaled (plus_scaled u c v) 1 u ≡ scaled c v
  plus_scaled-cancels c [] [] symbols same = refl
  plus_scaled-cancels c [] (y ∷ v) symbols same = absurd (omega arith)
  plus_scaled-cancels c (x ∷ u) [] symbols same = absurd (omega arith)
  plus_scaled-cancels c (x ∷ u) (y ∷ v) symbols same =
      ap₂ (λ d r. d ∷ r)
      (ap (sum_of (sum_of x (product_of c y))) (field.one_product x (All-head IsSymbol x u symbols))
      ∙ ap (λ a. sum_of a x) (field.sum_commutes x (product_of c y))
      ∙ sum-twice (product_of c y) x)
      (plus_scaled-cancels c u v (All-tail IsSymbol x u symbols) (omega arith))

  -- ---- vectors of symbols

  pub AreSymbols-plus_scaled : (c : ℕ) (u v : List ℕ) → AreSymbols u → IsSymbol c → AreSymbols (plus_scaled u c v)
  AreSymbols-plus_scaled c [] v symbols symbol = All-nil IsSymbol
  AreSymbols-plus_scaled c (x ∷ u) [] symbols symbol = symbols
  AreSymbols-plus_scaled c (x ∷ u) (y ∷ v) symbols symbol =
      All-cons IsSymbol (sum_of x (product_of c y)) (plus_scaled u c v)
      (field.sum_closed x (product_of c y) (All-head IsSymbol x u symbols) (field.product_closed c y symbol))
      (AreSymbols-plus_scaled c u v (All-tail IsSymbol x u symbols) symbol)

  pub IsVector-plus_scaled : (n c : ℕ) (u v : List ℕ) → IsVector n u → IsSymbol c → IsVector n (plus_scaled u c v)
  IsVector-plus_scaled n c u v vector symbol = record {
    count = length-plus_scaled c u v ∙ vector.count;
    symbols = AreSymbols-plus_scaled c u v vector.symbols symbol;
  }

  AreSymbols-scaled : (c : ℕ) (v : List ℕ) → IsSymbol c → AreSymbols (scaled c v)
  AreSymbols-scaled c [] symbol = All-nil IsSymbol
  AreSymbols-scaled c (y ∷ v) symbol = All-cons IsSymbol (product_of c y) (scaled c v) (field.product_closed c y symbol) (AreSymbols-scaled c v symbol)

  pub IsVector-scaled : (n c : ℕ) (v : List ℕ) → IsVector n v → IsSymbol c → IsVector n (scaled c v)
  IsVector-scaled n c v vector symbol = record {
    count = length-map v (product_of c) ∙ vector.count;
    symbols = AreSymbols-scaled c v symbol;
  }

  -- the symbol of a sum at a place
  pub get_or-plus_scaled : (c i : ℕ) (u v : List ℕ) → i < length u
      → get_or (plus_scaled u c v) i 0 ≡ sum_of (get_or u i 0) (product_of c (get_or v i 0))
  get_or-plus_scaled c i [] v within = absurd (omega arith)
  get_or-plus_scaled c i (x ∷ u) [] within =
      sym (ap (sum_of (get_or (x ∷ u) i 0)) (field.product_zero c) ∙ field.sum_zero (get_or (x ∷ u) i 0))
  get_or-plus_scaled c zero (x ∷ u) (y ∷ v) within = refl
  get_or-plus_scaled c (suc i) (x ∷ u) (y ∷ v) within = get_or-plus_scaled c i u v (omega arith)

  pub get_or-scaled : (c i : ℕ) (v : List ℕ) → get_or (scaled c v) i 0 ≡ product_of c (get_or v i 0)
  get_or-scaled c i [] = sym (field.product_zero c)
  get_or-scaled c zero (y ∷ v) = refl
  get_or-scaled c (suc i) (y ∷ v) = get_or-scaled c i v

pub IsVector-replicate : (n : ℕ) → IsVector n (replicate n 0)
IsVector-replicate n = record {
  count = length-replicate n 0;
  symbols = All-replicate IsSymbol n 0 (lit< tt);
}

pub IsVector-nil : IsVector 0 []
IsVector-nil = record { count = refl; symbols = All-nil IsSymbol }

pub IsVector-cons : (n x : ℕ) (xs : List ℕ) → IsSymbol x → IsVector n xs → IsVector (suc n) (x ∷ xs)
IsVector-cons n x xs symbol vector = record {
  count = ap suc vector.count;
  symbols = All-cons IsSymbol x xs symbol vector.symbols;
}

-- ---- one place after another, as a loop adds them

nothing_more : (c : ℕ) (u : List ℕ) → plus_scaled u c [] ≡ u
nothing_more c [] = refl
nothing_more c (x ∷ u) = refl

pub plus_scaled-none : (c : ℕ) (u v : List ℕ) → u ≡ plus_scaled u c (take 0 v)
plus_scaled-none c u v = sym (nothing_more c u)

-- a place that was not yet reached is as before
get_or-plus_scaled-rest : (c i : ℕ) (u v : List ℕ) → get_or (plus_scaled u c (take i v)) i 0 ≡ get_or u i 0
get_or-plus_scaled-rest c i [] v = refl
get_or-plus_scaled-rest c zero (x ∷ u) v = refl
get_or-plus_scaled-rest c (suc i) (x ∷ u) [] = refl
get_or-plus_scaled-rest c (suc i) (x ∷ u) (y ∷ v) = get_or-plus_scaled-rest c i u v

set-plus_scaled : (c i : ℕ) (u v : List ℕ) → i < length u → i < length v
    → set (plus_scaled u c (take i v)) i (sum_of (get_or u i 0) (product_of c (get_or v i 0))) ≡ plus_scaled u c (take (suc i) v)
set-plus_scaled c i [] v within there = absurd (omega arith)
set-plus_scaled c i (x ∷ u) [] within there = absurd (omega arith)
set-plus_scaled c zero (x ∷ u) (y ∷ v) within there = ap (λ r. sum_of x (product_of c y) ∷ r) (sym (nothing_more c u))
set-plus_scaled c (suc i) (x ∷ u) (y ∷ v) within there = ap (λ r. sum_of x (product_of c y) ∷ r) (set-plus_scaled c i u v (omega arith) (omega arith))

pub plus_scaled_more : (c i : ℕ) (u v xs : List ℕ) → i < length u → i < length v → xs ≡ plus_scaled u c (take i v)
    → set xs i (sum_of (get_or xs i 0) (product_of c (get_or v i 0))) ≡ plus_scaled u c (take (i + 1) v)
plus_scaled_more c i u v xs within there so_far =
    ap (λ w. set w i (sum_of (get_or w i 0) (product_of c (get_or v i 0)))) so_far
    ∙ ap (λ a. set (plus_scaled u c (take i v)) i (sum_of a (product_of c (get_or v i 0)))) (get_or-plus_scaled-rest c i u v)
    ∙ set-plus_scaled c i u v within there
    ∙ ap (λ k. plus_scaled u c (take k v)) (sym (add-one i))
