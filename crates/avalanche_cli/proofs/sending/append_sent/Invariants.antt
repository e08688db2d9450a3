use Rattle.std.proofs.Common.{◌≡◌, ◌++◌, take}
use Rattle.std.specs.List.{flat_map}
use Rattle.packet_wire.specs.Stream.{packet_frame}
use Rattle.avalanche_cli.specs.SendSteps.{packets_of_draws}
use Rattle.avalanche_cli.proofs.sending.append_sent.Given as goal

-- the frames of the packets of the draws so far were appended
abbrev pub invariant-loop-draw : goal.invariant-loop-draw
invariant-loop-draw l = l.stream.items ≡ l.initial.stream.items ++ flat_map packet_frame (packets_of_draws (take l.draw-index l.sent))
