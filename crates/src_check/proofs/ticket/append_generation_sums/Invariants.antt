use Rattle.std.proofs.Common.{◌≡◌, ◌++◌}
use Rattle.std.specs.List.{flat_map, range_with_len}
use Rattle.src_check.specs.Weights.{sums_by}
use Rattle.src_check.proofs.ticket.append_generation_sums.Given as goal

-- the sums of the checks so far
abbrev pub invariant-loop-check : goal.invariant-loop-check
invariant-loop-check l =
    l.sums.items ≡ l.fn.sums.items ++ flat_map (sums_by l.weights l.s l.blocks.items) (range_with_len 0 l.check)
