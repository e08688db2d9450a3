use Rattle.std.proofs.Common.{◌≡◌, ◌⊎◌, ℕ, ◌<◌, ◌≤◌, Some, true, ap, ⊎_elim, arith}
use Rattle.linear_spec.specs.Passing.{Meets}
use Rattle.src_check.proofs.passing.first_failed.Goals as goal

-- two numbers that are each the least of which something fails
one_least : (P : ℕ → Type 0) (a b : ℕ) → ((i : ℕ) → i < a → P i) → (P a → ⊥) → ((i : ℕ) → i < b → P i) → (P b → ⊥) → a ≡ b
one_least P a b before_a fails_a before_b fails_b =
    ⊎_elim (λ less. absurd (fails_a (before_b a less)))
    (λ rest. ⊎_elim (λ more. absurd (fails_b (before_a b more))) (λ same. same) rest)
    (cases a b)
  where
    cases : (x y : ℕ) → (x < y) ⊎ ((y < x) ⊎ (x ≡ y))
    cases x y = grind arith

pub returns-then-not-meets-clause-first : goal.returns-then-not-meets-clause-first
returns-then-not-meets-clause-first c = λ t failing.
    let check = c.loop-check.check in
    let fails : Meets c.args.equations.now c.args.packet.now check → ⊥ =
    λ met. let holds : c.meets.result ≡ true = c.meets.ensures.1 met in cc in
    ap Some
    (one_least (Meets c.args.equations.now c.args.packet.now) check t c.loop-check.invariant fails failing.first
    failing.fails)

pub returns-clause-first : goal.returns-clause-first
returns-clause-first c = λ t failing.
    let end : c.args.equations.now.checks ≤ c.loop-check.check = c.loop-check-test.false in
    let below = failing.below in
    absurd (failing.fails (c.loop-check.invariant t (omega arith)))
