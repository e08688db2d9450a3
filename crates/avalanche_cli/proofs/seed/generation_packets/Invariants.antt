use Rattle.std.proofs.Common.{◌≡◌, ◌≤◌, ◌+◌, map}
use Rattle.std.specs.List.{All, range_with_len}
use Rattle.linear_spec.specs.Packet.{Fits}
use Rattle.generation.specs.Shape.{symbols_per_block}
use Rattle.recode.specs.Systematic.{systematic_packet}
use Rattle.avalanche_cli.proofs.seed.generation_packets.Given as goal

-- the packets of the columns so far, and room for the others
abbrev pub invariant-loop-column : goal.invariant-loop-column
invariant-loop-column l = record {
  packets : l.packets.items ≡ map (systematic_packet l.shape l.file l.generation) (range_with_len 0 l.column);
  fit : All (Fits l.shape.k (symbols_per_block l.shape)) l.packets.items;
  room : l.shape.k ≤ l.packets.spare + l.column;
}
