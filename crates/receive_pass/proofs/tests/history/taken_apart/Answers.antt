use Rattle.std.proofs.Common.{sym, subst, arith}
use Rattle.receive_pass.specs.Worked.{AreNumbered, HasPasses}
use Rattle.receive_pass.proofs.Made.{numbered_push, popped_is, popped_rest}
use Rattle.receive_pass.proofs.tests.history.taken_apart.Goals as goal

pub pass_of-requires-clause-passes : goal.pass_of-requires-clause-passes
pass_of-requires-clause-passes c =
    popped_is (HasPasses c.args.bases.now.items) c.loop-worker.workers.items c.pop.new.self.items c.pop.result c.in_ok-worker.worker c.pop.ensures.items
    c.in_ok-worker.ensures.ok_part c.loop-worker.invariant.workers

pub loop-worker-preserved : goal.loop-worker-preserved
loop-worker-preserved c =
    let bases = c.args.bases.now.items in
    let number = c.number.ensures in
    let counted = c.len.ensures in
    let same = c.if-number-len.false in record {
      passes = subst (AreNumbered bases) (sym c.in_ok-push-2.ensures.ok)
          (numbered_push bases c.loop-worker.passes.items c.in_ok-pass.pass c.loop-worker.invariant.passes c.in_ok-pass.ensures (omega arith));
      workers = popped_rest (HasPasses bases) c.loop-worker.workers.items c.pop.new.self.items c.pop.result c.pop.ensures.items c.loop-worker.invariant.workers;
    }
