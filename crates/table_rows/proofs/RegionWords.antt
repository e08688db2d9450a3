-- The words of a region: two, and the words behind them.
use Rattle.std.proofs.Common.{◌≡◌, ℕ, ◌+◌, ◌≤◌, List, [], ◌∷◌, ◌++◌, length, set, ap, ◌∙◌, arith}
use Rattle.std.proofs.lemmas.List.{append-nil, drop_all}
use borrow.Rule.Slice.PartMut.{put_mid}

-- two words that are set, and all words behind them
pub behind_two : (words back : List ℕ) (first second n : ℕ) → 2 ≤ length words → length words ≤ 2 + n
    → put_mid 2 n (set (set words 0 first) 1 second) back ≡ first ∷ second ∷ back
behind_two [] back first second n two all = absurd (omega arith)
behind_two (x ∷ []) back first second n two all = absurd (omega arith)
behind_two (x ∷ y ∷ words) back first second n two all =
    ap (λ (l : List ℕ). first ∷ second ∷ (back ++ l)) (drop_all n words (omega arith)) ∙ ap (λ (l : List ℕ). first ∷ second ∷ l) (append-nil back)
