use Rattle.std.proofs.Common.{◌≡◌, ◌∙◌, ◌<◌, ◌-◌, [], ◌∷◌, ◌++◌, List, map, refl, sym, ap, subst, arith}
use Rattle.std.proofs.lemmas.List.{append-nil}
use Rattle.linear_spec.specs.declared.packet.Packet.{Packet}
use Rattle.linear_spec.specs.SequentialBasis.{packets_of}
use Rattle.basis_core.specs.declared.trace.Answer.TheVariants.{Drew}
use Rattle.basis_core.specs.Calls.{IsDrawnAt, KeptCall, KeptDraw}
use Rattle.shared_basis.specs.Bases.{PassValue, kept_calls}
use Rattle.shared_basis.specs.Regions.{records_seen}
use Rattle.shared_basis.proofs.HistoryLemmas.{IsHistory, history_called}
use Rattle.shared_basis.proofs.PassLemmas.{kept_more, offered_more, pass_called}
use Rattle.shared_basis.proofs.drawing.keep_draw.Goals as goal

offered : goal.After-pass-1 → List Packet
offered c = map (λ packet. packet.value) c.pass.inside.offered.items

-- a packet more stands beside the calls
offered_are : (c : goal.After-pass-1) → map (λ packet. packet.value) c.put-2.new.self.items ≡ offered c ++ c.pass.inside.desk.left ∷ []
unfolding offered
offered_are c = ap (λ l. map (λ packet. packet.value) l) c.put-2.ensures.items
    ∙ offered_more c.pass.inside.offered.items c.of.result c.pass.inside.desk.left c.of.ensures

pub invariant_of-pass : goal.invariant_of-pass
unfolding offered
invariant_of-pass c =
    let p = c.pass.inside in
    let v = p.desk.seat.view in
    let equations = v.sight.parameters.equations.value in
    let call : KeptCall = KeptDraw c.args.tag c.args.drawn in
    let drawn : IsDrawnAt (packets_of (records_seen v)) c.args.drawn =
    subst (λ (q : PassValue). IsDrawnAt (packets_of q.seen) c.args.drawn) (sym c.pass.view_is) c.requires.drawn in
    let history : IsHistory equations p.number (kept_calls p.calls.items (offered c) ++ call ∷ []) (records_seen v) =
    subst (IsHistory equations p.number (kept_calls p.calls.items (offered c) ++ call ∷ [])) (append-nil (records_seen v))
    (history_called c.steps.ensures.step c.steps.ensures.seen equations p.number (kept_calls p.calls.items (offered c))
    (records_seen v) call (record { legal = c.pass.invariant.legal; seen = c.pass.invariant.seen }) drawn) in
    let some : 0 < p.spare = let room = c.requires.room in let is = ap (λ (q : PassValue). q.spare) c.pass.view_is in omega arith in
    pass_called p.desk p.desk p.founder p.number p.calls c.put.new.self (offered c) _ p.offered.spare p.spare c.put-2.new.self.spare _ p.desk.left
    c.pass.invariant c.pass.invariant.desk refl refl refl some c.put.ensures.items c.put.ensures.spare
    (offered_are c) c.put-2.ensures.spare history

-- a pass of which only the calls and the room for them have changed
one_more : (was now : PassValue) (calls : List KeptCall) (call : KeptCall) → was ≡ now → calls ≡ was.calls ++ call ∷ []
    → record was { calls = calls; spare = was.spare - 1 } ≡ record now { calls = now.calls ++ call ∷ []; spare = now.spare - 1 }
one_more was now calls call same more = ap (λ (l : List KeptCall). record was { calls = l; spare = was.spare - 1 }) more
    ∙ ap (λ (q : PassValue). record q { calls = q.calls ++ call ∷ []; spare = q.spare - 1 }) same

pub returns : goal.returns
unfolding offered
returns c =
    let p = c.pass.inside in
    one_more _ _ _ (KeptDraw c.args.tag c.args.drawn) c.pass.view_is
    ((λ i. kept_calls (c.put.ensures.items i) (offered_are c i))
    ∙ kept_more p.calls.items (offered c) (record { tag = c.args.tag; answer = Drew c.args.drawn }) p.desk.left c.pass.invariant.paired)
