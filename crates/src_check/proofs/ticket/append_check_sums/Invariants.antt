use Rattle.std.proofs.Common.{◌≡◌, ◌++◌, map, take}
use Rattle.gf16.specs.Sums.{dot_of}
use Rattle.src_check.proofs.ticket.append_check_sums.Given as goal

-- the sums of the blocks so far
abbrev pub invariant-loop-block : goal.invariant-loop-block
invariant-loop-block l = l.sums.items ≡ l.fn.sums.items ++ map (dot_of l.weights) (take l.block-index l.block-items)
