use Rattle.std.proofs.Common.{rules}
use Rattle.back_subst.proofs.Shapes.{rows_of_full}
use Rattle.back_subst.proofs.tests.solved.Goals as goal

-- the basis is full
pub solve-requires-clause-rows : goal.solve-requires-clause-rows
solve-requires-clause-rows g c κs within =
    rows_of_full c.args.k c.args.s c.args.closed.now.records.items c.args.closed.now.rows.items c.requires.some (search rules) c.requires.fit c.requires.rows
