use Rattle.std.proofs.Common.{◌≡◌, take}
use Rattle.benchmarks.specs.Turns.{sums_of}
use Rattle.benchmarks.proofs.kernel.add.Given as goal

-- the symbols so far were added
abbrev pub invariant-loop-i : goal.invariant-loop-i
invariant-loop-i l = l.dst ≡ sums_of l.fn.dst (take l.i l.src)
