use Rattle.std.proofs.Common.{◌≡◌, length, sym, subst}
use Rattle.std.specs.Result.{IfOk}
use Rattle.std.proofs.lemmas.Result.{IfOk-weaker}
use Rattle.linear_spec.specs.Solving.{Solves, IsOnlySolution}
use Rattle.plain_basis.proofs.basis.PlainBasis.solve.Goals as goal

-- what solves the rows solves the packets
pub returns-clause-solves : goal.returns-clause-solves
returns-clause-solves c =
    let b = c.self.inside in
    let sound = c.self.invariant in
    subst (λ basis. IfOk c.solve_rows.result (λ blocks. Solves basis.k basis.s basis.packets blocks.items)) c.self.view_is
    (IfOk-weaker c.solve_rows.result (λ blocks. Solves b.k b.s b.rows.items blocks.items) (λ blocks. Solves b.k b.s b.packets.items blocks.items)
    (λ blocks solve. c.solving.ensures.rows b.k b.s b.packets.items b.rows.items blocks.items sound.fit sound.stand solve)
    c.solve_rows.ensures.solves)

-- and nothing else does
pub returns-clause-only : goal.returns-clause-only
returns-clause-only c =
    let b = c.self.inside in
    let sound = c.self.invariant in
    let full = subst (λ basis. length basis.packets ≡ basis.k) (sym c.self.view_is) c.requires.full in
    subst (λ basis. IfOk c.solve_rows.result (λ blocks. IsOnlySolution basis.k basis.s basis.packets blocks.items)) c.self.view_is
    (IfOk-weaker c.solve_rows.result (λ blocks. Solves b.k b.s b.rows.items blocks.items) (λ blocks. IsOnlySolution b.k b.s b.packets.items blocks.items)
    (λ blocks solve others too.
    c.solving.ensures.only b.k b.s b.packets.items b.rows.items blocks.items others sound.fit sound.stand full
    (c.solving.ensures.rows b.k b.s b.packets.items b.rows.items blocks.items sound.fit sound.stand solve) too)
    c.solve_rows.ensures.solves)
