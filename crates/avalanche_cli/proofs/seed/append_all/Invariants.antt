use Rattle.std.proofs.Common.{◌≡◌, ◌++◌, take}
use Rattle.std.specs.List.{flat_map}
use Rattle.packet_wire.specs.Stream.{packet_frame}
use Rattle.avalanche_cli.proofs.seed.append_all.Given as goal

abbrev pub invariant-loop-packet : goal.invariant-loop-packet
invariant-loop-packet l = l.stream.items ≡ l.initial.stream.items ++ flat_map packet_frame (take l.packet-index l.packets.items)
