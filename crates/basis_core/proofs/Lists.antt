-- Filters and joined lists: how they pass through each other, and lists of which one piece alone has something.
use Rattle.std.proofs.Common.{◌≡◌, ◌≢◌, ⊎_elim, ℕ, zero, suc, ◌+◌, ◌<◌, ◌≤◌, Bool, true, false, cond, List, [], ◌∷◌, ◌++◌, map, refl, sym, ap, ◌∙◌, arith}
use Rattle.std.specs.List.{filter, flat_map, range_with_len, AllByRecursion}
use Rattle.std.proofs.lemmas.Bool.{cases_eq, cond_both}
use Rattle.std.proofs.lemmas.List.{append-nil, append_assoc, map-append}
use Rattle.std.proofs.lemmas.List.Elements.{filter-append}

module _ {X : Type 0} where
  pub filter-filter : (s t : X → Bool) (xs : List X) → filter s (filter t xs) ≡ filter t (filter s xs)
  filter-filter s t [] = refl
  filter-filter s t (x ∷ xs) = go (filter-filter s t xs) (s x) (t x) refl refl
    where
      go : filter s (filter t xs) ≡ filter t (filter s xs) → (b c : Bool) → s x ≡ b → t x ≡ c → filter s (filter t (x ∷ xs)) ≡ filter t (filter s (x ∷ xs))
      go ih true true e f = simp (e, f) (ap (λ l. x ∷ l) ih)
      go ih true false e f = simp (e, f) ih
      go ih false true e f = simp (e, f) ih
      go ih false false e f = simp (e, f) ih

  pub filter-none : (t : X → Bool) (xs : List X) → AllByRecursion (λ x. t x ≡ false) xs → filter t xs ≡ []
  filter-none t [] none = refl
  filter-none t (x ∷ xs) none = let e = none.0 in rw e (filter-none t xs none.1)

  pub filter-all : (t : X → Bool) (xs : List X) → AllByRecursion (λ x. t x ≡ true) xs → filter t xs ≡ xs
  filter-all t [] all = refl
  filter-all t (x ∷ xs) all = let e = all.0 in rw e (ap (λ l. x ∷ l) (filter-all t xs all.1))

  pub filter-flat_map : {Y : Type 0} (t : X → Bool) (f : Y → List X) (ys : List Y) → filter t (flat_map f ys) ≡ flat_map (λ y. filter t (f y)) ys
  filter-flat_map t f [] = refl
  filter-flat_map t f (y ∷ ys) = filter-append t (f y) (flat_map f ys) ∙ ap (λ l. filter t (f y) ++ l) (filter-flat_map t f ys)

  pub filter-map : {Y : Type 0} (t : X → Bool) (g : Y → X) (ys : List Y) → filter t (map g ys) ≡ map g (filter (λ y. t (g y)) ys)
  filter-map t g [] = refl
  filter-map t g (y ∷ ys) =
      elim (t (g y)) as (λ b. cond b (g y ∷ filter t (map g ys)) (filter t (map g ys)) ≡ map g (cond b (y ∷ filter (λ y. t (g y)) ys) (filter (λ y. t (g y)) ys))) [
        | true ↦ ap (λ l. g y ∷ l) (filter-map t g ys)
        | false ↦ filter-map t g ys
      ]

  pub map-flat_map : {Y Z : Type 0} (g : Y → X) (f : Z → List Y) (zs : List Z) → flat_map (λ z. map g (f z)) zs ≡ map g (flat_map f zs)
  map-flat_map g f [] = refl
  map-flat_map g f (z ∷ zs) = ap (λ l. map g (f z) ++ l) (map-flat_map g f zs) ∙ sym (map-append g (f z) (flat_map f zs))

  pub flat_map-same : {Y : Type 0} (f g : Y → List X) (ys : List Y) → AllByRecursion (λ y. f y ≡ g y) ys → flat_map f ys ≡ flat_map g ys
  flat_map-same f g [] same = refl
  flat_map-same f g (y ∷ ys) same = ap (λ l. l ++ flat_map f ys) same.0 ∙ ap (λ l. g y ++ l) (flat_map-same f g ys same.1)

-- each of what all are is so
module _ {X : Type 0} (P : X → Type 0) where
  pub each : ((x : X) → P x) → (xs : List X) → AllByRecursion P xs
  each h [] = tt
  each h (x ∷ xs) = (h x, each h xs)

  pub each-weaker : (Q : X → Type 0) → ((x : X) → P x → Q x) → (xs : List X) → AllByRecursion P xs → AllByRecursion Q xs
  each-weaker Q h [] all = tt
  each-weaker Q h (x ∷ xs) all = (h x all.0, each-weaker Q h xs all.1)

  pub each-append : (xs ys : List X) → AllByRecursion P xs → AllByRecursion P ys → AllByRecursion P (xs ++ ys)
  each-append [] ys all more = more
  each-append (x ∷ xs) ys all more = (all.0, each-append xs ys all.1 more)

  pub each-front : (xs ys : List X) → AllByRecursion P (xs ++ ys) → AllByRecursion P xs
  each-front [] ys all = tt
  each-front (x ∷ xs) ys all = (all.0, each-front xs ys all.1)

  pub each-filter : (t : X → Bool) (xs : List X) → AllByRecursion P xs → AllByRecursion P (filter t xs)
  each-filter t [] all = tt
  each-filter t (x ∷ xs) all =
      elim (t x) as (λ b. AllByRecursion P (cond b (x ∷ filter t xs) (filter t xs))) [
        | true ↦ (all.0, each-filter t xs all.1)
        | false ↦ each-filter t xs all.1
      ]

  pub each-passing : (t : X → Bool) (xs : List X) → ((x : X) → t x ≡ true → P x) → AllByRecursion P (filter t xs)
  each-passing t [] h = tt
  each-passing t (x ∷ xs) h =
      let rest = each-passing t xs h in
      cond_both (t x) (x ∷ filter t xs) (filter t xs) (λ l. AllByRecursion P l) (λ e. (h x e, rest)) (λ e. rest)

  pub each-map : {Y : Type 0} (g : Y → X) (ys : List Y) → AllByRecursion (λ y. P (g y)) ys → AllByRecursion P (map g ys)
  each-map g [] all = tt
  each-map g (y ∷ ys) all = (all.0, each-map g ys all.1)

  pub each-from_map : {Y : Type 0} (g : Y → X) (ys : List Y) → AllByRecursion P (map g ys) → AllByRecursion (λ y. P (g y)) ys
  each-from_map g [] all = tt
  each-from_map g (y ∷ ys) all = (all.0, each-from_map g ys all.1)

  pub each-flat_map : {Y : Type 0} (f : Y → List X) (ys : List Y) → AllByRecursion (λ y. AllByRecursion P (f y)) ys → AllByRecursion P (flat_map f ys)
  each-flat_map f [] all = tt
  each-flat_map f (y ∷ ys) all = each-append (f y) (flat_map f ys) all.0 (each-flat_map f ys all.1)

pub each_both : {X : Type 0} (P Q : X → Type 0) (xs : List X) → AllByRecursion P xs → AllByRecursion Q xs → AllByRecursion (λ x. P x × Q x) xs
each_both P Q [] all more = tt
each_both P Q (x ∷ xs) all more = ((all.0, more.0), each_both P Q xs all.1 more.1)

-- what holds of the numbers of a range
pub each-range : (P : ℕ → Type 0) (a n : ℕ) → ((i : ℕ) → a ≤ i → i < a + n → P i) → AllByRecursion P (range_with_len a n)
each-range P a zero h = tt
each-range P a (suc n) h = (h a (omega arith) (omega arith), each-range P (a + 1) n (λ i l m. h i (omega arith) (omega arith)))

module _ {X : Type 0} (f : ℕ → List X) where
  -- a range of which no number gives anything
  pub none_of_range : (a n : ℕ) → ((i : ℕ) → a ≤ i → i < a + n → f i ≡ []) → flat_map f (range_with_len a n) ≡ []
  none_of_range a zero h = refl
  none_of_range a (suc n) h =
      ap (λ l. l ++ flat_map f (range_with_len (a + 1) n)) (h a (omega arith) (omega arith))
      ∙ none_of_range (a + 1) n (λ i l m. h i (omega arith) (omega arith))

  -- a range of which just one number gives something
  pub one_of_range : (at a n : ℕ) → a ≤ at → at < a + n → ((i : ℕ) → i ≢ at → f i ≡ []) → flat_map f (range_with_len a n) ≡ f at
  one_of_range at a zero low high h = absurd (omega arith)
  one_of_range at a (suc n) low high h =
      ⊎_elim (λ e. ap (λ l. f a ++ l) (none_of_range (a + 1) n (λ i l m. h i (λ s. absurd (omega arith)))) ∙ append-nil (f a) ∙ ap f e)
      (λ ne. ap (λ l. l ++ flat_map f (range_with_len (a + 1) n)) (h a ne) ∙ one_of_range at (a + 1) n (omega arith) (omega arith) h) (cases_eq a at)

  pub range-split : (a n m : ℕ) → flat_map f (range_with_len a (n + m)) ≡ flat_map f (range_with_len a n) ++ flat_map f (range_with_len (a + n) m)
  range-split a zero m = let e : a + 0 ≡ a = omega arith in let f' : 0 + m ≡ m = omega arith in rw (e, f')
  range-split a (suc n) m =
      let e : suc n + m ≡ suc (n + m) = omega arith in
      let l : a + 1 + n ≡ a + suc n = omega arith in
      rw e (ap (λ t. f a ++ t) (range-split (a + 1) n m)
      ∙ sym (append_assoc (f a) (flat_map f (range_with_len (a + 1) n)) (flat_map f (range_with_len (a + 1 + n) m)))
      ∙ ap (λ s. (f a ++ flat_map f (range_with_len (a + 1) n)) ++ flat_map f (range_with_len s m)) l)
