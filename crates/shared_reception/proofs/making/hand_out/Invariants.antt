use Rattle.std.proofs.Common.{◌≡◌, drop, reverse}
use Rattle.shared_reception.proofs.Changes.{AreChangedBelow, GotAt}
use Rattle.shared_reception.proofs.making.hand_out.Given as goal

abbrev pub invariant-loop-worker : goal.invariant-loop-worker
invariant-loop-worker l = record {
  left : l.passes.items ≡ reverse (drop l.worker-index l.fn.passes.items);
  got : AreChangedBelow (GotAt l.fn.passes.items) l.worker-index l.initial.workers l.workers;
}
