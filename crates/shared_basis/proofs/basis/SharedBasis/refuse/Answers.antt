use Rattle.std.proofs.Common.{◌≡◌, ◌∙◌, ◌<◌, ◌+◌, ◌-◌, [], ◌∷◌, ◌++◌, length, map, refl, sym, ap, subst, arith}
use Rattle.std.proofs.lemmas.List.{append-nil, length-map}
use Rattle.linear_spec.specs.declared.record.Record.{Record}
use Rattle.linear_spec.specs.declared.reply.Reply.TheVariants.{FailedCheck}
use Rattle.linear_spec.specs.Passing.{IsFirstFailing}
use Rattle.basis_core.specs.Calls.{KeptCall, KeptOffer}
use Rattle.table_rows.specs.declared.view.Parameters.{Parameters}
use Rattle.shared_basis.specs.Bases.{PassValue, kept_calls}
use Rattle.shared_basis.specs.Regions.{records_seen}
use Rattle.shared_basis.proofs.HistoryLemmas.{IsHistory, history_called}
use Rattle.shared_basis.proofs.PassLemmas.{has_called, offered_more, pass_called, seen_count}
use Rattle.shared_basis.proofs.basis.SharedBasis.refuse.Goals as goal

pub invariant_of-pass : goal.invariant_of-pass
invariant_of-pass c =
    let p = c.pass.inside in
    let v = p.desk.seat.view in
    let equations = v.sight.parameters.equations.value in
    let offered = map (λ packet. packet.value) p.offered.items in
    let call : KeptCall = KeptOffer c.args.tag c.args.packet.now (FailedCheck c.args.check c.len-front.result) in
    let same : v.sight.parameters ≡ c.args.self.now.parameters = ap (λ (q : PassValue). q.parameters) c.pass.view_is
    ∙ c.requires.pass.parameters in
    let fails : IsFirstFailing equations c.args.packet.now c.args.check =
    subst (λ (q : Parameters). IsFirstFailing q.equations.value c.args.packet.now c.args.check)
    (sym same) c.requires.fails in
    let count : c.len-front.result ≡ length (map (λ (r : Record). r.packet) (records_seen v)) =
    c.len-front.ensures ∙ sym (seen_count p.desk c.pass.invariant.desk)
    ∙ sym (length-map (records_seen v) (λ (r : Record). r.packet)) in
    let history : IsHistory equations p.number (kept_calls p.calls.items offered ++ call ∷ []) (records_seen v) =
    subst (IsHistory equations p.number (kept_calls p.calls.items offered ++ call ∷ [])) (append-nil (records_seen v))
    (history_called c.steps.ensures.step c.steps.ensures.seen equations p.number (kept_calls p.calls.items offered)
    (records_seen v) call
    (record { legal = c.pass.invariant.legal; seen = c.pass.invariant.seen }) (fails, count)) in
    let some : 0 < p.spare = let room = c.requires.room in let is = ap (λ
    (q : PassValue). q.spare) c.pass.view_is in omega arith in
    pass_called p.desk p.desk p.founder p.number p.calls c.put.new.self offered _ p.offered.spare p.spare c.put-2.new.self.spare _ c.args.packet.now
    c.pass.invariant c.pass.invariant.desk refl refl refl some c.put.ensures.items c.put.ensures.spare
    (ap (λ l. map (λ packet. packet.value) l) c.put-2.ensures.items
    ∙ offered_more p.offered.items c.of.result c.args.packet.now c.of.ensures) c.put-2.ensures.spare history

pub returns-clause-call : goal.returns-clause-call
returns-clause-call c =
    let p = c.pass.inside in
    let offered = map (λ packet. packet.value) p.offered.items in
    let less : p.spare - 1 + 1 ≡ c.args.pass.now.spare =
    let room = c.requires.room in let is = ap (λ (q : PassValue). q.spare) c.pass.view_is in omega arith in
    has_called c.args.pass.now _ p.calls.items c.put.new.self.items offered (map
    (λ packet. packet.value) c.put-2.new.self.items) _ c.args.packet.now c.pass.invariant.paired
    (sym (ap (λ (q : PassValue). q.calls) c.pass.view_is)) refl c.put.ensures.items
    (ap (λ l. map (λ packet. packet.value) l) c.put-2.ensures.items
    ∙ offered_more p.offered.items c.of.result c.args.packet.now c.of.ensures) less
