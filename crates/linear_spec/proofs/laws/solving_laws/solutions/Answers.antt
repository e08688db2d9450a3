use Rattle.linear_spec.proofs.Solvable.{solvable, solvable_once}
use Rattle.linear_spec.proofs.laws.solving_laws.solutions.Goals as goal

pub returns : goal.returns
returns c = record {
  some = λ k s packets rows fit stand. solvable c.field.ensures k s packets rows stand fit;
  one = λ k s packets rows fit stand. solvable_once c.field.ensures k s packets rows stand fit;
}
