use Rattle.std.proofs.Common.{arith, refl}
use Rattle.shared_basis.specs.Bases.{PassValue}
use Rattle.shared_reception.proofs.Changes.{got_all, got_more}
use Rattle.shared_reception.proofs.Lists.{popped_next}
use Rattle.shared_reception.proofs.making.hand_out.Goals as goal

pub loop-worker-preserved : goal.loop-worker-preserved
loop-worker-preserved c =
    let passes = c.args.passes.items in
    let at = c.loop-worker.worker-index in
    let pass = c.unwrap.result in
    let next = λ (d : PassValue). popped_next passes c.loop-worker.passes.items c.pop.new.self.items at c.pop.result pass d c.loop-worker.invariant.left c.pop.ensures.items c.unwrap.ensures in
    record {
      left = (next pass).0;
      got = got_more passes pass at c.args.workers.now c.loop-worker.workers _ c.worker-item.result c.loop-worker.invariant.got (omega arith) (λ d. (next d).1) c.in_ok-push.ensures.ok refl;
    }

pub returns : goal.returns
returns c = got_all c.args.passes.items c.loop-worker.worker-index c.args.workers.now c.loop-worker.workers c.loop-worker.invariant.got (omega arith) c.requires
