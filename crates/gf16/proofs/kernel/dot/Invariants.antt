use Rattle.std.proofs.Common.{◌≡◌, take}
use Rattle.gf16.specs.Sums.{dot_of}
use Rattle.gf16.proofs.kernel.dot.Given as goal

-- the products so far were added up
abbrev pub invariant-loop-i : goal.invariant-loop-i
invariant-loop-i l = l.sum.0 ≡ dot_of (take l.i l.a) (take l.i l.b)
