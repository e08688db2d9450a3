-- Lists that are taken from at their end, and lists that are written back.
use Rattle.std.proofs.Common.{◌≡◌, inl, inr, ℕ, ◌+◌, ◌<◌, List, [], ◌∷◌, ◌++◌, length, take, drop, reverse, get_or, sym, ap, ◌∙◌, subst, arith}
use Rattle.std.specs.Prelude.{Option, Some}
use Rattle.std.specs.List.{refill}
use Rattle.std.specs.Option.{option_to_list}
use Rattle.std.proofs.lemmas.Bool.{cases_eq}
use Rattle.std.proofs.lemmas.List.{drop_more, get_or_append_left, get_or_push, length-drop, length-reverse, length_push, reverse-append, same_from_push, take_at, take_more}

-- what was taken out was the last item
pub popped_last : {X : Type 0} (xs ys : List X) (taken : Option X) (x : X) → xs ≡ ys ++ option_to_list taken → taken ≡ Some x → xs ≡ ys ++ x ∷ []
popped_last xs ys taken x popped found = popped ∙ ap (λ o. ys ++ option_to_list o) found

-- from a list that was turned round, and whose first items were taken out, the next one is taken
pub popped_next : {X : Type 0} (xs now rest : List X) (i : ℕ) (taken : Option X) (x d : X) → now ≡ reverse (drop i xs)
    → now ≡ rest ++ option_to_list taken → taken ≡ Some x → (rest ≡ reverse (drop (i + 1) xs)) × (x ≡ get_or xs i d) × (i < length xs)
popped_next xs now rest i taken x d turned popped found =
    let last : now ≡ rest ++ x ∷ [] = popped_last now rest taken x popped found in
    let low : i < length xs = omega (arith, ap length turned, ap length last, length_push rest x, length-reverse (drop i xs), length-drop i xs) in
    let next : now ≡ reverse (drop (i + 1) xs) ++ get_or xs i d ∷ [] =
    turned ∙ ap reverse (drop_more xs i d low) ∙ reverse-append (get_or xs i d ∷ []) (drop (i + 1) xs) in
    let same = same_from_push rest (reverse (drop (i + 1) xs)) x (get_or xs i d) (sym last ∙ next) in
    (same.0, same.1, low)

-- of the first items of a list the last one is taken
pub popped_front : {X : Type 0} (xs rest : List X) (i : ℕ) (x d : X) → i < length xs → take (i + 1) xs ≡ rest ++ x ∷ [] → (rest ≡ take i xs) × (x ≡ get_or xs i d)
popped_front xs rest i x d low popped =
    same_from_push rest (take i xs) x (get_or xs i d) (sym popped ∙ take_more xs i d low)

-- a list that is written back whole is the one that was written
pub refilled : {X : Type 0} (before after : List X) → length after ≡ length before → refill (length before) before after ≡ after
refilled before after same =
    take_at after (drop (length after) before) (length before) same

-- what holds at each place, and of one more, holds at each place with that one
pub each_push : {X : Type 0} (P : ℕ → X → Type 0) (xs : List X) (x : X) → ((i : ℕ) (d : X) → i < length xs → P i (get_or xs i d)) → P (length xs) x
    → (i : ℕ) (d : X) → i < length (xs ++ x ∷ []) → P i (get_or (xs ++ x ∷ []) i d)
each_push P xs x each last i d low =
    elim (cases_eq i (length xs)) as (λ _. P i (get_or (xs ++ x ∷ []) i d)) [
      | inl here ↦ subst (λ n. P n (get_or (xs ++ x ∷ []) n d)) (sym here) (subst (λ y. P (length xs) y) (sym (get_or_push xs x d (length xs) (λ _. length xs))) last)
      | inr else ↦
          let below : i < length xs = omega (arith, else, length_push xs x) in
          subst (λ y. P i y) (sym (get_or_append_left xs (x ∷ []) d i below)) (each i d below)
    ]

-- an item of a list that has some
pub some_of : {X : Type 0} (xs : List X) (i : ℕ) → i < length xs → X
some_of [] i low = absurd (omega arith)
some_of (x ∷ xs) i low = x
