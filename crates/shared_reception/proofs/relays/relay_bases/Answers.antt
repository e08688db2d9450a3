use Rattle.std.proofs.Common.{◌≡◌, ◌∙◌, ◌∷◌, [], ◌++◌, List, length, sym, subst}
use Rattle.shared_basis.specs.declared.params.Closed.{Closed}
use Rattle.shared_basis.specs.Bases.{BasisValue, PassValue}
use Rattle.receive_pass.specs.declared.worker.Worker.{Worker}
use Rattle.shared_reception.specs.declared.sends.Sending.{Sending}
use Rattle.shared_reception.specs.Relaying.{IsRelayedOf}
use Rattle.shared_reception.specs.Steps.{HaveAllPasses, HaveGained}
use Rattle.shared_reception.proofs.Closings.{AreClosedFrom, AreTaken, all_passes, closed_more, taken}
use Rattle.shared_reception.proofs.Lists.{refilled}
use Rattle.shared_reception.proofs.RelayClosings.{relayed_as, sent_more, taken_made, taken_sender}
use Rattle.shared_reception.proofs.relays.relay_bases.Goals as goal

-- the workers were lent as a slice
took : (sending : Sending) (bases left rest : List BasisValue) (basis : BasisValue) (workers now lent after : List Worker) (passes : List PassValue) (list : List Closed)
    → HaveAllPasses bases workers → AreClosedFrom (IsRelayedOf sending bases workers) bases workers left now list → left ≡ rest ++ basis ∷ [] → lent ≡ now
    → HaveGained passes after lent → AreTaken bases workers rest basis after passes
took sending bases left rest basis workers now lent after passes list have from popped same gained =
    taken (IsRelayedOf sending bases workers) bases left rest basis workers now after passes list have from popped (subst (HaveGained passes after) same gained)

pub relay_basis-requires-clause-passes : goal.relay_basis-requires-clause-passes
relay_basis-requires-clause-passes c =
    all_passes c.args.bases.items c.pop.new.self.items c.in-Some.basis c.args.workers.items c.take_passes.new.workers c.in_ok-passes.passes.items c.requires.passes
    (took c.args.sending.now c.args.bases.items c.loop-basis.bases.items c.pop.new.self.items c.in-Some.basis c.args.workers.items c.loop-basis.workers.items
    c.as_mut_slice.result.now c.take_passes.new.workers c.in_ok-passes.passes.items c.loop-basis.list.items c.requires.passes c.loop-basis.invariant.closed c.in-Some.ensures.items
    c.as_mut_slice.ensures.value c.in_ok-passes.ensures)

pub relay_basis-requires-clause-sender : goal.relay_basis-requires-clause-sender
relay_basis-requires-clause-sender c =
    taken_sender c.args.sending.now.coded c.args.bases.items c.pop.new.self.items c.in-Some.basis c.args.workers.items c.take_passes.new.workers c.in_ok-passes.passes.items
    c.requires.passes c.requires.sender
    (took c.args.sending.now c.args.bases.items c.loop-basis.bases.items c.pop.new.self.items c.in-Some.basis c.args.workers.items c.loop-basis.workers.items
    c.as_mut_slice.result.now c.take_passes.new.workers c.in_ok-passes.passes.items c.loop-basis.list.items c.requires.passes c.loop-basis.invariant.closed c.in-Some.ensures.items
    c.as_mut_slice.ensures.value c.in_ok-passes.ensures)

pub loop-basis-preserved : goal.loop-basis-preserved
loop-basis-preserved c =
    let sending : Sending = c.args.sending.now in
    let bases : List BasisValue = c.args.bases.items in
    let workers : List Worker = c.args.workers.items in
    let rest : List BasisValue = c.pop.new.self.items in
    let basis : BasisValue = c.in-Some.basis in
    let passes : List PassValue = c.in_ok-passes.passes.items in
    let closed : Closed = c.in_ok-closed.closed in
    let taken = took sending bases c.loop-basis.bases.items rest basis workers c.loop-basis.workers.items c.as_mut_slice.result.now c.take_passes.new.workers passes
    c.loop-basis.list.items c.requires.passes c.loop-basis.invariant.closed c.in-Some.ensures.items c.as_mut_slice.ensures.value c.in_ok-passes.ensures in
    record {
      closed = subst (λ (l : List Worker). AreClosedFrom (IsRelayedOf sending bases workers) bases workers rest l c.push.new.self.items)
          (sym (refilled c.loop-basis.workers.items c.take_passes.new.workers (taken.after_are ∙ sym c.loop-basis.invariant.closed.workers_are)))
          (closed_more (IsRelayedOf sending bases workers) bases c.loop-basis.bases.items rest basis workers c.loop-basis.workers.items c.take_passes.new.workers passes
          c.loop-basis.list.items c.push.new.self.items closed c.loop-basis.invariant.closed c.in-Some.ensures.items taken
          (relayed_as sending bases rest basis workers c.take_passes.new.workers passes closed taken c.in_ok-closed.ensures.closed) c.in_ok-push.ensures.ok);
      sent = sent_more c.args.equations.now sending c.loop-basis.bases.items rest basis (length workers) c.loop-basis.list.items c.push.new.self.items closed
          c.in_ok-closed.draws.items c.loop-basis.sent.items c.pour.new.sent.items c.in-Some.ensures.items
          (taken_made c.args.equations.now bases rest basis workers c.take_passes.new.workers passes c.requires.made taken)
          c.in_ok-closed.ensures.draws c.in_ok-pour.ensures c.in_ok-push.ensures.ok c.loop-basis.invariant.sent;
    }
