use Rattle.std.proofs.Common.{◌≡◌, ◌++◌}
use Rattle.std.specs.List.{flat_map, range_with_len}
use Rattle.packet_wire.specs.Stream.{packet_frame}
use Rattle.avalanche_cli.specs.Seed.{seed_packets_of}
use Rattle.avalanche_cli.proofs.seed.append_packets.Given as goal

abbrev pub invariant-loop-generation : goal.invariant-loop-generation
invariant-loop-generation l =
    l.stream.items ≡ l.initial.stream.items ++ flat_map packet_frame (flat_map (seed_packets_of l.words l.file) (range_with_len 0 l.generation))
