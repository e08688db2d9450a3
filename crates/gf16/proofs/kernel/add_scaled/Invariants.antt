use Rattle.std.proofs.Common.{◌≡◌, take}
use Rattle.gf16.specs.Sums.{plus_scaled}
use Rattle.gf16.proofs.kernel.add_scaled.Given as goal

-- the multiples so far were added
abbrev pub invariant-loop-i : goal.invariant-loop-i
invariant-loop-i l = l.dst ≡ plus_scaled l.fn.dst l.factor.0 (take l.i l.src)
