use Rattle.std.proofs.Common.{List, sym, subst}
use Rattle.shared_basis.specs.Bases.{BasisValue}
use Rattle.receive_pass.specs.declared.worker.Worker.{Worker}
use Rattle.shared_reception.specs.Steps.{HaveGained, IsClosedOf}
use Rattle.shared_reception.proofs.Closings.{AreClosedFrom, all_passes, closed_as, closed_more, taken}
use Rattle.shared_reception.proofs.Lists.{refilled}
use Rattle.shared_reception.proofs.closing.close_bases.Goals as goal

pub close-requires : goal.close-requires
close-requires c =
    all_passes c.args.bases.items c.pop.new.self.items c.in-Some.basis c.args.workers.items c.take_passes.new.workers c.in_ok-passes.passes.items c.requires
    (taken (IsClosedOf c.args.bases.items c.args.workers.items) c.args.bases.items c.loop-basis.bases.items c.pop.new.self.items c.in-Some.basis c.args.workers.items
    c.loop-basis.workers.items c.take_passes.new.workers c.in_ok-passes.passes.items c.loop-basis.list.items c.requires c.loop-basis.invariant c.in-Some.ensures.items
    (subst (HaveGained c.in_ok-passes.passes.items c.take_passes.new.workers) c.as_mut_slice.ensures.value c.in_ok-passes.ensures))

pub loop-basis-preserved : goal.loop-basis-preserved
loop-basis-preserved c =
    let bases : List BasisValue = c.args.bases.items in
    let workers : List Worker = c.args.workers.items in
    let gained : HaveGained c.in_ok-passes.passes.items c.take_passes.new.workers c.loop-basis.workers.items =
    subst (HaveGained c.in_ok-passes.passes.items c.take_passes.new.workers) c.as_mut_slice.ensures.value c.in_ok-passes.ensures in
    let took = taken (IsClosedOf bases workers) bases c.loop-basis.bases.items c.pop.new.self.items c.in-Some.basis workers c.loop-basis.workers.items c.take_passes.new.workers
    c.in_ok-passes.passes.items c.loop-basis.list.items c.requires c.loop-basis.invariant c.in-Some.ensures.items gained in
    subst (λ (l : List Worker). AreClosedFrom (IsClosedOf bases workers) bases workers c.pop.new.self.items l c.push.new.self.items)
    (sym (refilled c.loop-basis.workers.items c.take_passes.new.workers (sym gained.count)))
    (closed_more (IsClosedOf bases workers) bases c.loop-basis.bases.items c.pop.new.self.items c.in-Some.basis workers c.loop-basis.workers.items c.take_passes.new.workers
    c.in_ok-passes.passes.items c.loop-basis.list.items c.push.new.self.items c.in_ok-close.field-0 c.loop-basis.invariant c.in-Some.ensures.items took
    (closed_as bases c.pop.new.self.items c.in-Some.basis workers c.take_passes.new.workers c.in_ok-passes.passes.items c.in_ok-close.field-0 took c.in_ok-close.ensures)
    c.in_ok-push.ensures.ok)
