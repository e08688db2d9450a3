use Rattle.std.proofs.Common.{length}
use Rattle.shared_reception.specs.Steps.{IsClosedOf}
use Rattle.shared_reception.proofs.Closings.{AreClosedFrom}
use Rattle.shared_reception.proofs.closing.close_bases.Given as goal

abbrev pub invariant-loop-basis : goal.invariant-loop-basis
invariant-loop-basis l = AreClosedFrom (IsClosedOf l.fn.bases.items l.fn.workers.items) l.fn.bases.items l.fn.workers.items l.bases.items l.workers.items l.list.items

abbrev pub decreases-loop-basis : goal.decreases-loop-basis
decreases-loop-basis l = length l.bases.items
