use Rattle.std.proofs.Common.{◌≡◌}
use Rattle.back_subst.proofs.tests.plainly_solved.Given as goal

abbrev pub invariant-loop-packet : goal.invariant-loop-packet
invariant-loop-packet l = record {
  k : l.basis.k ≡ l.k;
  s : l.basis.s ≡ l.s;
}
