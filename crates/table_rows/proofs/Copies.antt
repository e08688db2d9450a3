-- A list that is copied item by item.
use Rattle.std.proofs.Common.{◌≡◌, ℕ, zero, suc, ◌+◌, List, [], ◌∷◌, ◌++◌, take, get_or, sym, ap, ◌∙◌, append_assoc}
use Rattle.std.proofs.lemmas.List.{take_more}
use mathlib.Core.Option.{some, some-injective, some-ne-none}
use lib.ListN.{get_elem?}
use Rattle.table_rows.proofs.Seating.{at_within}

item_at : (l : List ℕ) (i a : ℕ) → get_elem? l i ≡ some a → get_or l i 0 ≡ a
item_at [] i a e = absurd (some-ne-none a (sym e))
item_at (x ∷ xs) zero a e = some-injective x a e
item_at (x ∷ xs) (suc i) a e = item_at xs i a e

pub one_more : (before now next all : List ℕ) (i a : ℕ) → now ≡ before ++ take i all → get_elem? all i ≡ some a → next ≡ now ++ a ∷ []
    → next ≡ before ++ take (i + 1) all
one_more before now next all i a e at is =
    is ∙ (ap (λ (l : List ℕ). l ++ a ∷ []) e ∙ (append_assoc before (take i all) (a ∷ [])
    ∙ ap (λ (l : List ℕ). before ++ l) (ap (λ (x : ℕ). take i all ++ x ∷ []) (sym (item_at all i a at)) ∙ sym (take_more all i 0 (at_within all i a at)))))
