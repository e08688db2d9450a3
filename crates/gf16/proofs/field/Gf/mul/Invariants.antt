use Rattle.std.proofs.Common.{◌≡◌}
use Rattle.gf16.specs.Field.{times_x_power}
use Rattle.gf16.proofs.Steps.{product_below}
use Rattle.gf16.proofs.field.Gf.mul.Given as goal

abbrev pub invariant-loop-place : goal.invariant-loop-place
invariant-loop-place l = record {
  sum : l.sum ≡ product_below l.fn.self.0 l.fn.other.0 l.place;
  multiple : l.multiple ≡ times_x_power l.fn.self.0 l.place;
}
