use Rattle.linear_spec.proofs.CheckLaws.{combination-passes, true-passes}
use Rattle.linear_spec.proofs.laws.check_laws.checks.Goals as goal

pub returns : goal.returns
returns c = record {
  linear = combination-passes c.field.ensures;
  truth = true-passes c.field.ensures;
}
