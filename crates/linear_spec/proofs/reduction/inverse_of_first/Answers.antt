use Rattle.linear_spec.proofs.ReductionSteps.{inverse_at}
use Rattle.linear_spec.proofs.reduction.inverse_of_first.Goals as goal

pub returns : goal.returns
returns c =
    inverse_at c.args.symbols.now c.in_ok-place.place c.inv.result c.in_ok-place.ensures.0 c.in_ok-place.ensures.1 c.inv.ensures.none.0 c.inv.ensures.value
