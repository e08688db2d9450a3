use Rattle.std.proofs.Common.{ℕ, List, length, get_or, sym, subst, ap, ◌∙◌}
use Rattle.std.specs.Result.{IfOk}
use Rattle.std.proofs.lemmas.List.{length-map}
use Rattle.std.proofs.lemmas.Result.{IfOk-weaker}
use Rattle.linear_spec.specs.declared.record.Record.{Record}
use Rattle.linear_spec.specs.SequentialBasis.{packets_of}
use Rattle.linear_spec.specs.Solving.{Solves, IsOnlySolution}
use Rattle.back_subst.specs.Shape.{payload_length}
use Rattle.back_subst.proofs.Shapes.{length_at_first}
use Rattle.back_subst.proofs.solving.solve.Goals as goal

-- what solves the rows solves the packets
pub returns-clause-solves : goal.returns-clause-solves
returns-clause-solves g c =
    let records = c.args.closed.now.records.items in
    let rows = c.args.closed.now.rows.items in
    let k = length records in
    let s = payload_length records in
    let long = c.len-payload.ensures
    ∙ ap (λ (list : List Record). length (get_or list 0 c.index-records-0.result).packet.payload) c.as_slice-records.ensures
    ∙ sym (length_at_first records c.index-records-0.result c.requires.some) in
    let told =
    subst (λ (n : ℕ). IfOk c.solve_rows.result (λ blocks. Solves n s rows blocks.items)) (ap length c.as_slice-records.ensures)
    (subst (λ (n : ℕ). IfOk c.solve_rows.result (λ blocks. Solves (length c.as_slice-records.result.now) n rows blocks.items)) long c.solve_rows.ensures.solves) in
    IfOk-weaker c.solve_rows.result (λ blocks. Solves k s rows blocks.items) (λ blocks. Solves k s (packets_of records) blocks.items)
    (λ blocks solve. c.solving.ensures.rows k s (packets_of records) rows blocks.items c.requires.fit c.requires.rows solve) told

-- and nothing else does
pub returns-clause-only : goal.returns-clause-only
returns-clause-only g c =
    let records = c.args.closed.now.records.items in
    let k = length records in
    let s = payload_length records in
    let full = length-map records (λ (entry : Record). entry.packet) in
    IfOk-weaker c.solve_rows.result (λ blocks. Solves k s (packets_of records) blocks.items) (λ blocks. IsOnlySolution k s (packets_of records) blocks.items)
    (λ blocks solve others too.
    c.solving.ensures.only k s (packets_of records) c.args.closed.now.rows.items blocks.items others c.requires.fit c.requires.rows full solve too)
    (returns-clause-solves g c)
