use Rattle.std.proofs.Common.{◌≡◌}
use Rattle.std.specs.List.{flat_map, range_with_len}
use Rattle.src_check.specs.Weights.{check_weights_of}
use Rattle.src_check.proofs.weights.weights_of_checks.Given as goal

-- the weights of the checks so far
abbrev pub invariant-loop-check : goal.invariant-loop-check
invariant-loop-check l = l.weights.items ≡ flat_map (check_weights_of l.key l.s) (range_with_len 0 l.check)
