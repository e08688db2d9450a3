use Rattle.std.proofs.Common.{◌≡◌}
use Rattle.benchmarks.proofs.offers.plain_records.Given as goal

abbrev pub invariant-loop-packet : goal.invariant-loop-packet
invariant-loop-packet l = record {
  k : l.basis.k ≡ l.k;
  s : l.basis.s ≡ l.s;
}
