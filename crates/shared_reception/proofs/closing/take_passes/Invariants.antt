use Rattle.std.proofs.Common.{◌≡◌, length}
use Rattle.shared_reception.proofs.Changes.{AreChangedBelow, GaveAt}
use Rattle.shared_reception.proofs.closing.take_passes.Given as goal

abbrev pub invariant-loop-worker : goal.invariant-loop-worker
invariant-loop-worker l = record {
  taken : length l.passes.items ≡ l.worker-index;
  gave : AreChangedBelow (GaveAt l.passes.items) l.worker-index l.initial.workers l.workers;
}
