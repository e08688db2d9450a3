use Rattle.std.proofs.Common.{◌≤◌, length, sym, subst, ap, ◌∙◌}
use Rattle.benchmarks.specs.Exchanges.{wins_in}
use Rattle.benchmarks.proofs.ExchangeLemmas.{wins_within}
use Rattle.benchmarks.proofs.exchanges.wins_of.Goals as goal

-- what the pass won it has seen
pub returns-clause-seen : goal.returns-clause-seen
returns-clause-seen c =
    let pass = c.args.pass.now in
    let wins = c.wins_in.ensures ∙ ap wins_in (c.as_slice.ensures ∙ c.calls.ensures) in
    subst (λ n. n ≤ length pass.seen) (sym wins)
    (wins_within pass.parameters.equations.value pass.number pass.calls pass.seen c.is_legal.ensures.history c.is_legal.ensures.seen)
