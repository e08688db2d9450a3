use Rattle.std.proofs.Common.{rules, ◌≡◌, ◌≢◌, ℕ, ◌<◌, List, length, get_or, Option, Some, None, MatchOption, replicate}
use Rattle.linear_spec.specs.Rows.{first_nonzero}
use Rattle.linear_spec.proofs.FirstNonzero.{all_zero, is_first}
use Rattle.linear_spec.proofs.reduction.place_of_first.Goals as goal

told : (xs : List ℕ) (r : Option ℕ)
    → MatchOption r ((k : ℕ) → k < length xs → get_or xs k 0 ≡ 0) (λ i. (i < length xs) × (get_or xs i 0 ≢ 0) × ((k : ℕ) → k < i → get_or xs k 0 ≡ 0))
    → MatchOption r (xs ≡ replicate (length xs) 0) (λ place. (place ≡ first_nonzero xs) × (place < length xs))
told xs None none = all_zero xs none
told xs (Some place) found = (is_first xs place found.0 found.1 found.2, found.0)

pub returns : goal.returns
returns c =
    let plain : MatchOption c.position.result ((k : ℕ) → k < length c.args.symbols.now → get_or c.args.symbols.now k 0 ≡ 0)
    (λ i. (i < length c.args.symbols.now) × (get_or c.args.symbols.now i 0 ≢ 0) × ((k : ℕ) → k < i → get_or c.args.symbols.now k 0 ≡ 0)) = search rules in
    told c.args.symbols.now c.position.result plain
