use Rattle.std.proofs.Common.{arith}
use Rattle.basis_core.proofs.Offers.{few}
use Rattle.basis_core.proofs.machine.Core.refuse.Goals as goal

pub overflow_cast-front : goal.overflow_cast-front
overflow_cast-front c =
    let inside = c.self.inside in
    let bound = few inside.k inside.s inside.records.items inside.rows.items c.self.invariant c.rows.ensures in
    omega (arith, c.len-front.ensures)
