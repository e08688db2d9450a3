use Rattle.std.proofs.Common.{◌≡◌}
use Rattle.gf16.proofs.Squares.{squared}
use Rattle.gf16.proofs.Inverses.{squares_product}
use Rattle.gf16.proofs.field.Gf.inv.Given as goal

abbrev pub invariant-loop-round : goal.invariant-loop-round
invariant-loop-round l = record {
  square : l.square.0 ≡ squared l.fn.self.0 l._round;
  inverse : l.inverse.0 ≡ squares_product l.fn.self.0 l._round;
}
