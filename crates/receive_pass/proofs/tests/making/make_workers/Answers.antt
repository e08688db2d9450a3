use Rattle.std.proofs.Common.{sym, subst}
use Rattle.std.specs.List.{All}
use Rattle.std.proofs.lemmas.List.Elements.{All-push}
use Rattle.receive_pass.specs.Worked.{IsOfFirst}
use Rattle.receive_pass.specs.Workers.{IsReady}
use Rattle.receive_pass.proofs.Made.{popped_is, popped_rest}
use Rattle.receive_pass.proofs.tests.making.make_workers.Goals as goal

pub make_worker-requires-clause-pass : goal.make_worker-requires-clause-pass
make_worker-requires-clause-pass c =
    popped_is (IsOfFirst c.args.bases.now.items) c.loop-worker.passes.items c.pop.new.self.items c.pop.result c.in_ok-pass.pass c.pop.ensures.items
    c.in_ok-pass.ensures.ok_part c.loop-worker.invariant.passes

pub loop-worker-preserved : goal.loop-worker-preserved
loop-worker-preserved c =
    let are_ready = IsReady c.args.equations.now c.args.bases.now.items in record {
      passes = popped_rest (IsOfFirst c.args.bases.now.items) c.loop-worker.passes.items c.pop.new.self.items c.pop.result c.pop.ensures.items c.loop-worker.invariant.passes;
      workers = subst (All are_ready) (sym c.in_ok-push.ensures.ok)
          (All-push are_ready c.loop-worker.workers.items c.in_ok-worker.worker c.loop-worker.invariant.workers c.in_ok-worker.ensures);
    }
