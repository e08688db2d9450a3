use Rattle.std.proofs.Common.{◌≡◌, length}
use Rattle.std.specs.List.{All}
use Rattle.packet_wire.specs.Stream.{IsPacket}
use Rattle.avalanche_cli.proofs.reception_tests.packets_of.Given as goal

-- the packets so far are packets of the shape
abbrev pub invariant-loop-small_packet : goal.invariant-loop-small_packet
invariant-loop-small_packet l = record {
  count : length l.packets.items ≡ l.small_packet-index;
  packets : All (IsPacket (record { len = 3; k = 1; block = 2 })) l.packets.items;
}
