use Rattle.std.proofs.Common.{◌≡◌}
use Rattle.plain_basis.proofs.solving_tests.dense_packets_solve_to_the_source.Given as goal

abbrev pub invariant-loop-packet : goal.invariant-loop-packet
invariant-loop-packet g l = record {
  k : l.basis.k ≡ 64;
  s : l.basis.s ≡ 512;
}
