use Rattle.std.proofs.Common.{◌≡◌, length}
use Rattle.std.specs.List.{All}
use Rattle.linear_spec.specs.Packet.{Fits}
use Rattle.plain_basis.proofs.solving_tests.source_of.Given as goal

abbrev pub invariant-loop-block : goal.invariant-loop-block
invariant-loop-block l = record {
  count : length l.source.items ≡ l.block;
  fit : All (Fits 64 512) l.source.items;
}
