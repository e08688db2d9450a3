use Rattle.std.proofs.Common.{◌≡◌}
use Rattle.plain_basis.proofs.tests.each_packet_is_answered_by_its_case.Given as goal

-- the basis keeps its lengths
abbrev pub invariant-loop-coeffs : goal.invariant-loop-coeffs
invariant-loop-coeffs g l = record {
  k : l.basis.k ≡ 2;
  s : l.basis.s ≡ 1;
}
