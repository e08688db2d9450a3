use Rattle.std.proofs.Common.{◌≡◌, length, take}
use Rattle.linear_spec.specs.Combination.{combination_of}
use Rattle.plain_basis.proofs.solve.block_of.Given as goal

-- the blocks so far were combined
abbrev pub invariant-loop-i : goal.invariant-loop-i
invariant-loop-i l = l.block ≡ combination_of (length l.row.payload) (take l.i l.row.coeffs) (take l.i l.blocks)
