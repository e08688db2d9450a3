use Rattle.std.proofs.Common.{◌≡◌, take}
use Rattle.linear_spec.specs.Combination.{combination_of}
use Rattle.linear_spec.specs.Packet.{coefficients_of, payloads_of}
use Rattle.linear_spec.specs.SequentialBasis.{packets_of}
use Rattle.shared_basis.specs.Passes.{HasKept}
use Rattle.recode.proofs.draws.combine_records.Given as goal

-- the packets of the records so far were combined
abbrev pub invariant-loop-n : goal.invariant-loop-n
invariant-loop-n l = record {
  pass : HasKept l.fn.pass l.pass;
  counts : (l.pass.empty_looks ≡ l.fn.pass.empty_looks) × (l.pass.last_empty ≡ l.fn.pass.last_empty);
  coeffs : l.out.coeffs
      ≡ combination_of l.basis.parameters.k (take l.n l.coefficients) (take l.n (coefficients_of (packets_of l.fn.pass.seen)));
  payload : l.out.payload
      ≡ combination_of l.basis.parameters.s (take l.n l.coefficients) (take l.n (payloads_of (packets_of l.fn.pass.seen)));
  generation : l.out.generation ≡ l.fn.out.generation;
}
