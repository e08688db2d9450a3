use Rattle.std.proofs.Common.{◌≡◌}
use Rattle.avalanche_cli.proofs.tests.history.plainly_solved.Given as goal

abbrev pub invariant-loop-symbols : goal.invariant-loop-symbols
invariant-loop-symbols l = record {
  k : l.basis.k ≡ 2;
  s : l.basis.s ≡ 1;
}
