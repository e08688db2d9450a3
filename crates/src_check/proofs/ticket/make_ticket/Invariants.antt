use Rattle.std.proofs.Common.{◌≡◌}
use Rattle.std.specs.List.{flat_map, range_with_len}
use Rattle.src_check.specs.Tickets.{generation_sums_of}
use Rattle.src_check.proofs.ticket.make_ticket.Given as goal

-- the sums of the generations so far
abbrev pub invariant-loop-g : goal.invariant-loop-g
invariant-loop-g l = l.sums.items ≡ flat_map (generation_sums_of l.shape l.file l.key l.checks) (range_with_len 0 l.g)
