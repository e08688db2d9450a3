use Rattle.std.proofs.Common.{ℕ, List, sym, subst}
use Rattle.std.specs.List.{All}
use Rattle.linear_spec.specs.declared.packet.Packet.{Packet}
use Rattle.benchmarks.specs.Offers.{IsOffered}
use Rattle.benchmarks.proofs.shared.SharedOffers.outcome.Goals as goal

-- the packets have the lengths that the equations tell
pub shared_outcome-requires-clause-packets : goal.shared_outcome-requires-clause-packets
shared_outcome-requires-clause-packets g c κs within =
    let equations = c.in_ok-equations.equations in
    let shape = c.in_ok-equations.ensures.shape in
    let packets = c.in_ok-packets.packets.items in
    let offers = c.args.self.now.offers in
    subst (λ (l : List Packet). All (IsOffered equations.k equations.s) l) (sym c.as_slice.ensures)
    (subst (λ (n : ℕ). All (IsOffered n equations.s) packets) (sym shape.0)
    (subst (λ (n : ℕ). All (IsOffered offers.k n) packets) (sym shape.1) c.in_ok-packets.ensures.offered))
