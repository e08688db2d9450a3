use Rattle.std.proofs.Common.{◌≡◌}
use Rattle.gf16.proofs.Scaled.{scaled_to}
use Rattle.gf16.proofs.kernel.scale.Given as goal

-- the symbols so far were multiplied
abbrev pub invariant-loop-symbol : goal.invariant-loop-symbol
invariant-loop-symbol l = l.dst ≡ scaled_to l.factor.0 l.symbol-index l.fn.dst
