use Rattle.basis_core.proofs.Steps as steps
use Rattle.basis_core.proofs.laws.step_laws.steps.Goals as goal

pub returns : goal.returns
returns c = record {
  step = steps.step c.histories.ensures;
  seen = steps.seen;
  others = steps.others;
}
