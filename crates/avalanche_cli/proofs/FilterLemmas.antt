-- Which items of a list a test keeps, where that is known of each.
use Rattle.std.proofs.Common.{◌≡◌, ◌≢◌, ◌⊎◌, ℕ, zero, suc, ◌<◌, ◌≤◌, Bool, true, false, cond, List, [], ◌∷◌, ◌++◌, refl, ap, ap₂, sym, ◌∙◌, ⊎_elim, add-one, append-nil, arith}
use Rattle.std.specs.List.{All, filter, flat_map, range_with_len}
use Rattle.std.proofs.lemmas.List.Elements.{All-head, All-tail, filter-append}
use Rattle.avalanche_cli.proofs.PieceLemmas.{pieces_more}

-- ---- filters

module _ {X : Type 0} (test : X → Bool) where
  pub all_kept : (xs : List X) → All (λ x. test x ≡ true) xs → filter test xs ≡ xs
  all_kept [] all = refl
  all_kept (x ∷ xs) all =
      let P : X → Type 0 = λ y. test y ≡ true in
      ap (λ b. cond b (x ∷ filter test xs) (filter test xs)) (All-head P x xs all)
      ∙ ap (λ ys. x ∷ ys) (all_kept xs (All-tail P x xs all))

  pub none_kept : (xs : List X) → All (λ x. test x ≡ false) xs → filter test xs ≡ []
  none_kept [] all = refl
  none_kept (x ∷ xs) all =
      let P : X → Type 0 = λ y. test y ≡ false in
      ap (λ b. cond b (x ∷ filter test xs) (filter test xs)) (All-head P x xs all)
      ∙ none_kept xs (All-tail P x xs all)

  module _ (f : ℕ → List X) (g : ℕ) where
    -- of the pieces before number g none is kept
    none_before : (n : ℕ) → n ≤ g → ((h : ℕ) → h < n → h ≢ g → filter test (f h) ≡ []) → filter test (flat_map f (range_with_len 0 n)) ≡ []
    none_before zero within others = refl
    none_before (suc n) within others =
        ap (λ m. filter test (flat_map f (range_with_len 0 m))) (sym (add-one n))
        ∙ ap (filter test) (pieces_more f n)
        ∙ filter-append test (flat_map f (range_with_len 0 n)) (f n)
        ∙ ap₂ (λ a b. a ++ b) (none_before n (omega arith) (λ h below. others h (omega arith))) (others n (omega arith) (λ same. omega arith))

    -- the one piece that is kept, and kept whole
    pub one_kept : (n : ℕ) → g < n → filter test (f g) ≡ f g → ((h : ℕ) → h < n → h ≢ g → filter test (f h) ≡ []) → filter test (flat_map f (range_with_len 0 n)) ≡ f g
    one_kept zero below whole others = absurd (omega arith)
    one_kept (suc n) below whole others =
        ap (λ m. filter test (flat_map f (range_with_len 0 m))) (sym (add-one n))
        ∙ ap (filter test) (pieces_more f n)
        ∙ filter-append test (flat_map f (range_with_len 0 n)) (f n)
        ∙ ⊎_elim
        (λ (earlier : g < n).
        ap₂ (λ a b. a ++ b) (one_kept n earlier whole (λ h within. others h (omega arith))) (others n (omega arith) (λ same. omega arith))
        ∙ append-nil (f g))
        (λ (last : g ≡ n).
        ap₂ (λ a b. a ++ b) (none_before n (omega arith) (λ h within. others h (omega arith))) (ap (λ i. filter test (f i)) (sym last) ∙ whole))
        (earlier_or_last g n below)
      where
        earlier_or_last : (a b : ℕ) → a < suc b → (a < b) ⊎ (a ≡ b)
        earlier_or_last a b h = grind arith
