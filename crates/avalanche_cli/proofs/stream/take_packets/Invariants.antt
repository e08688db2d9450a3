use Rattle.std.proofs.Common.{◌≤◌, length}
use Rattle.avalanche_cli.proofs.FrameLemmas.{IsTakenFrom}
use Rattle.avalanche_cli.proofs.stream.take_packets.Given as goal

-- some packets were taken, and there is room for the rest
abbrev pub invariant-loop-packets : goal.invariant-loop-packets
invariant-loop-packets l = record {
  taken : IsTakenFrom l.initial.frames.items l.frames.items l.packets.items;
  room : length l.frames.items ≤ l.packets.spare;
}

abbrev pub decreases-loop-packets : goal.decreases-loop-packets
decreases-loop-packets l = length l.frames.items
