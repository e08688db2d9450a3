use Rattle.std.proofs.Common.{◌≡◌, ◌++◌, ◌*◌, length, map}
use Rattle.std.specs.List.{flat_map, range_with_len}
use Rattle.generation.specs.Shape.{symbols_per_block}
use Rattle.packet_wire.specs.Stream.{packet_frame}
use Rattle.avalanche_cli.specs.Seed.{seed_draw}
use Rattle.avalanche_cli.proofs.seed.append_draws.Given as goal

-- the frames of the draws so far, and a packet of the shape to draw into
abbrev pub invariant-loop-place : goal.invariant-loop-place
invariant-loop-place l = record {
  drawn : l.stream.items ≡ l.initial.stream.items ++ flat_map packet_frame (map (seed_draw l.words l.file l.generation) (range_with_len (l.generation * l.words.coded) l.place));
  generation : l.packet.generation ≡ l.generation;
  coeffs : length l.packet.coeffs ≡ l.shape.k;
  payload : length l.packet.payload ≡ symbols_per_block l.shape;
}
