use Rattle.std.proofs.Common.{◌≡◌, ◌∙◌, ℕ, ◌+◌, ◌-◌, ◌*◌, ◌<◌, ◌≤◌, [], ◌∷◌, ◌++◌, length, map, refl, sym, ap, subst, arith}
use Rattle.linear_spec.specs.Passing.{Passes}
use Rattle.basis_core.specs.Calls.{KeptOffer}
use Rattle.basis_core.specs.Legal.{IsAnsweredOver}
use Rattle.table_rows.specs.declared.view.Parameters.{Parameters}
use Rattle.table_rows.specs.Views.{width_of}
use Rattle.table_rows.specs.RegionLaws.{RecordLaws}
use Rattle.shared_basis.specs.Bases.{BasisValue, PassValue, kept_calls}
use Rattle.shared_basis.specs.Regions.{records_seen}
use Rattle.shared_basis.proofs.PassLemmas.{answered_at, at_front, front_case, front_seen, has_called, kept_count, offer_answered, offer_count, offer_history, offered_more, pass_called, reads_at_most, seen_count, seen_on, sees_before}
use Rattle.shared_basis.proofs.basis.SharedBasis.offer.Goals as goal

-- the desk stays at its table
at_table : (c : goal.After-pass-1) → c.settle-reply.new.desk.seat.table ≡ c.pass.inside.desk.seat.table
at_table c = c.settle-reply.ensures.seat.table ∙ ap (λ (b : BasisValue). b.table) c.self.view_is ∙ sym c.requires.pass.table
    ∙ sym (ap (λ (p : PassValue). p.table) c.pass.view_is)

-- pass and basis have the same parameters
same : (c : goal.After-pass-1) → c.pass.inside.desk.seat.view.sight.parameters ≡ c.args.self.now.parameters
same c = ap (λ (p : PassValue). p.parameters) c.pass.view_is ∙ c.requires.pass.parameters

passes : (c : goal.After-pass-1) → Passes c.pass.inside.desk.seat.view.sight.parameters.equations.value c.args.packet.now
passes c = subst (λ (p : Parameters). Passes p.equations.value c.args.packet.now) (sym (same c)) c.requires.passes

offered_are : (c : goal.After-pass-1)
    → map (λ packet. packet.value) c.put-2.new.self.items
    ≡ map (λ packet. packet.value) c.pass.inside.offered.items ++ c.args.packet.now ∷ []
offered_are c = ap (λ l. map (λ packet. packet.value) l) c.put-2.ensures.items
    ∙ offered_more c.pass.inside.offered.items c.of.result c.args.packet.now c.of.ensures

-- the number of the call is that of the calls before
call_count : (c : goal.After-pass-1)
    → c.len-call.result ≡ length (kept_calls c.pass.inside.calls.items (map
    (λ packet. packet.value) c.pass.inside.offered.items))
call_count c = c.len-call.ensures
    ∙ sym (kept_count c.pass.inside.calls.items (map
    (λ packet. packet.value) c.pass.inside.offered.items) c.pass.invariant.paired)

pub invariant_of-pass : goal.invariant_of-pass
invariant_of-pass c =
    let p = c.pass.inside in
    let offered = map (λ packet. packet.value) p.offered.items in
    let laws : RecordLaws = c.records.ensures in
    let settled = c.settle-reply.ensures.view.2 in
    let some : 0 < p.spare = let room = c.requires.room in let is = ap (λ
    (q : PassValue). q.spare) c.pass.view_is in omega arith in
    pass_called p.desk c.settle-reply.new.desk p.founder p.number p.calls c.put.new.self offered _ p.offered.spare p.spare c.put-2.new.self.spare _ c.args.packet.now
    c.pass.invariant c.settle-reply.ensures.desk
    (at_table c) settled.parameters settled.number some c.put.ensures.items c.put.ensures.spare
    (offered_are c) c.put-2.ensures.spare
    (offer_history p.desk c.settle-reply.new.desk p.number c.len-call.result c.args.tag _ c.args.packet.now c.settle-reply.result settled
    laws c.histories.ensures.other_records c.steps.ensures.others c.steps.ensures.step c.steps.ensures.seen
    (kept_calls p.calls.items offered)
    c.pass.invariant.parameters
    (record { legal = c.pass.invariant.legal; seen = c.pass.invariant.seen }) c.pass.invariant.number_is (call_count c)
    c.settle-reply.ensures.desk (passes c))

pub returns-clause-prefix : goal.returns-clause-prefix
returns-clause-prefix c =
    let settled = c.settle-reply.ensures.view.2 in
    sees_before _ _ _ c.pass.view_is (record {
      table = at_table c;
      parameters = settled.parameters;
      number = refl;
      prefix = seen_on c.pass.inside.desk.seat.view _ settled.more _ settled.records;
    })

pub returns-clause-call : goal.returns-clause-call
returns-clause-call c =
    let p = c.pass.inside in
    let less : p.spare - 1 + 1 ≡ c.args.pass.now.spare =
    let room = c.requires.room in let is = ap (λ (q : PassValue). q.spare) c.pass.view_is in omega arith in
    has_called c.args.pass.now _ p.calls.items c.put.new.self.items (map (λ packet. packet.value) p.offered.items) (map
    (λ packet. packet.value) c.put-2.new.self.items) _ c.args.packet.now
    c.pass.invariant.paired (sym (ap (λ (q : PassValue). q.calls) c.pass.view_is)) refl c.put.ensures.items
    (offered_are c) less

pub returns-clause-answered : goal.returns-clause-answered
returns-clause-answered c =
    let p = c.pass.inside in
    subst (λ (q : Parameters). IsAnsweredOver q.equations.value (records_seen c.settle-reply.new.desk.seat.view)
    (KeptOffer c.args.tag c.args.packet.now c.settle-reply.result)) (same c)
    (offer_answered p.desk c.settle-reply.new.desk p.number c.len-call.result c.args.tag _ c.args.packet.now c.settle-reply.result c.settle-reply.ensures.view.2
    c.pass.invariant.parameters (passes c))

pub returns-clause-front : goal.returns-clause-front
returns-clause-front c =
    let p = c.pass.inside in
    let settled = c.settle-reply.ensures.view.2 in
    let number : p.desk.seat.view.number ≡ c.args.pass.now.number = sym c.pass.invariant.number_is
    ∙ ap (λ (q : PassValue). q.number) c.pass.view_is in
    let count : c.len-call.result ≡ length c.args.pass.now.calls = call_count c
    ∙ ap (λ (q : PassValue). length q.calls) c.pass.view_is in
    at_front c.args.pass.now
    (record c.args.pass.now { seen = records_seen c.settle-reply.new.desk.seat.view }) p.desk.seat.view.sight.parameters.k p.desk.seat.view.sight.parameters.s p.desk.seat.view.number c.len-call.result c.args.packet.now c.settle-reply.result
    (answered_at p.desk c.settle-reply.new.desk p.number c.len-call.result c.args.tag _ c.args.packet.now c.settle-reply.result settled)
    (front_case p.desk c.settle-reply.new.desk p.number c.len-call.result c.args.tag _ c.args.packet.now c.settle-reply.result settled)
    (front_seen p.desk c.settle-reply.new.desk p.number c.len-call.result c.args.tag _ c.args.packet.now c.settle-reply.result settled) number count

pub returns-clause-reads : goal.returns-clause-reads
returns-clause-reads c =
    let p = c.pass.inside in
    let settled = c.settle-reply.ensures.view.2 in
    let fewer = offer_count p.desk c.settle-reply.new.desk p.number c.len-call.result c.args.tag _ c.args.packet.now c.settle-reply.result settled
    (length p.desk.known.items) (seen_count p.desk c.pass.invariant.desk) in
    let table : c.self.inside.table.parameters
    ≡ c.args.self.now.parameters = ap (λ (b : BasisValue). b.parameters) c.self.view_is in
    let before : p.desk.seat.view.reads ≡ c.args.pass.now.reads = ap (λ (q : PassValue). q.reads) c.pass.view_is in
    let width : ℕ = width_of c.args.self.now.parameters in
    let again : c.settle-reply.ensures.view.0 ≤ c.args.pass.now.reads + length p.desk.known.items * width =
    subst (λ (q : Parameters). c.settle-reply.ensures.view.0 ≤ c.args.pass.now.reads + length p.desk.known.items * width_of q) table
    (subst (λ (r : ℕ). c.settle-reply.ensures.view.0 ≤ r + length p.desk.known.items * width_of c.self.inside.table.parameters) before c.settle-reply.ensures.view.1) in
    let found : c.settle-reply.new.desk.seat.view.reads ≤ c.settle-reply.ensures.view.0 + length settled.more * width =
    subst (λ (q : Parameters). c.settle-reply.new.desk.seat.view.reads ≤ c.settle-reply.ensures.view.0 + length settled.more * width_of q) (same c) settled.reads in
    reads_at_most c.args.pass.now.reads (length p.desk.known.items) (length settled.more) _ width _ (omega arith) fewer
