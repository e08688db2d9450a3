use Rattle.linear_spec.proofs.Solutions.{solve_from_rows, one_solution, block_known, block_kept}
use Rattle.linear_spec.proofs.laws.solving_laws.solving.Goals as goal

pub returns : goal.returns
returns c = record {
  rows = λ k s packets rows blocks fit stand. solve_from_rows c.field.ensures k s packets rows fit stand blocks;
  only = λ k s packets rows blocks others fit. one_solution c.field.ensures k s packets fit rows blocks others;
  known = block_known c.field.ensures;
  kept = block_kept c.field.ensures;
}
