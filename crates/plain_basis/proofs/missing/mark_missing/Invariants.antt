use Rattle.std.proofs.Common.{length, take}
use Rattle.plain_basis.proofs.Columns.{AreMarked}
use Rattle.plain_basis.proofs.missing.mark_missing.Given as goal

-- the columns are marked by the rows so far
abbrev pub invariant-loop-row : goal.invariant-loop-row
invariant-loop-row l = AreMarked (length l.fn.out) (take l.row-index l.rows) l.out
