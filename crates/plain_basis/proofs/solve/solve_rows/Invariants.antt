use Rattle.plain_basis.proofs.BackSubstitution.{IsSolvedFrom}
use Rattle.plain_basis.proofs.solve.solve_rows.Given as goal

abbrev pub invariant-loop-at : goal.invariant-loop-at
invariant-loop-at l = IsSolvedFrom l.k l.s l.rows l.at l.blocks.items
