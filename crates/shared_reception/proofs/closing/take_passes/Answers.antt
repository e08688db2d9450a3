use Rattle.std.proofs.Common.{ℕ, ◌+◌, length, ap, ◌∙◌, arith, refl}
use Rattle.std.proofs.lemmas.List.{length_push}
use Rattle.shared_reception.proofs.Changes.{gave_all, gave_more}
use Rattle.shared_reception.proofs.Lists.{popped_last}
use Rattle.shared_reception.proofs.closing.take_passes.Goals as goal

pub loop-worker-preserved : goal.loop-worker-preserved
loop-worker-preserved c =
    let at = c.loop-worker.worker-index in
    let pass = c.unwrap.result in record {
      taken = ap length c.in_ok-push.ensures.ok ∙ length_push c.loop-worker.passes.items pass ∙ ap (λ (n : ℕ). n + 1) c.loop-worker.invariant.taken;
      gave = gave_more c.loop-worker.passes.items c.push.new.self.items pass at c.args.workers.now c.loop-worker.workers _ c.worker-item.result c.loop-worker.invariant.gave (omega arith)
          c.loop-worker.invariant.taken c.in_ok-push.ensures.ok (popped_last _ _ c.pop.result pass c.pop.ensures.items c.unwrap.ensures) refl;
    }

pub returns : goal.returns
returns c = gave_all c.loop-worker.passes.items c.loop-worker.worker-index c.args.workers.now c.loop-worker.workers c.loop-worker.invariant.gave (omega arith) c.loop-worker.invariant.taken
