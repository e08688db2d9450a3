use Rattle.std.proofs.Common.{◌≡◌, length, take}
use Rattle.linear_spec.specs.Combination.{combination_of}
use Rattle.linear_spec.specs.Packet.{coefficients_of, payloads_of}
use Rattle.linear_spec.proofs.combination.combine_with.Given as goal

-- the packets so far were combined
abbrev pub invariant-loop-i : goal.invariant-loop-i
invariant-loop-i g l = record {
  coeffs : l.out.coeffs ≡ combination_of (length l.fn.out.coeffs) (take l.i l.coeffs) (take l.i (coefficients_of l.packets));
  payload : l.out.payload ≡ combination_of (length l.fn.out.payload) (take l.i l.coeffs) (take l.i (payloads_of l.packets));
  generation : l.out.generation ≡ l.fn.out.generation;
}
