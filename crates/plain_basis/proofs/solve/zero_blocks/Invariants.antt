use Rattle.std.proofs.Common.{◌≡◌, replicate}
use Rattle.plain_basis.proofs.solve.zero_blocks.Given as goal

abbrev pub invariant-loop-block : goal.invariant-loop-block
invariant-loop-block l = l.blocks.items ≡ replicate l._block (replicate l.len 0)
