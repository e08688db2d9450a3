use Rattle.std.proofs.Common.{◌≡◌, length}
use Rattle.std.specs.List.{All}
use Rattle.benchmarks.specs.Offers.{IsOffered}
use Rattle.benchmarks.proofs.offers.Offers.packets.Given as goal

-- the packets so far
abbrev pub invariant-loop-packet : goal.invariant-loop-packet
invariant-loop-packet l = record {
  count : length l.packets.items ≡ l._packet;
  offered : All (IsOffered l.self.k l.self.s) l.packets.items;
}
