use Rattle.std.proofs.Common.{sym, subst, arith}
use Rattle.linear_spec.specs.Packet.{coefficients_of}
use Rattle.linear_spec.specs.Span.{HasRank}
use Rattle.plain_basis.proofs.basis.PlainBasis.rank.Goals as goal

pub overflow_cast-result : goal.overflow_cast-result
overflow_cast-result c =
    let inside = c.self.inside in
    let sound = c.self.invariant in
    let most = c.rows.ensures.at_most inside.k inside.s inside.packets.items inside.rows.items sound.stand in
    let count = sound.stand.count in
    let narrow = sound.narrow in
    omega (arith, c.len.ensures)

pub returns-clause-rank : goal.returns-clause-rank
returns-clause-rank c =
    let inside = c.self.inside in
    let sound = c.self.invariant in
    subst (λ b. HasRank b.k (coefficients_of b.packets) c.len.result) c.self.view_is
    (subst (HasRank inside.k (coefficients_of inside.packets.items)) (sym c.len.ensures)
    (c.rows.ensures.packets_rank inside.k inside.s inside.packets.items inside.rows.items sound.fit sound.stand))
