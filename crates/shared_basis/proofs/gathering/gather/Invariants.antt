use Rattle.std.proofs.Common.{◌≤◌, length}
use Rattle.shared_basis.specs.Gathering.{HasGathered}
use Rattle.shared_basis.proofs.gathering.gather.Given as goal

-- the passes that are left were not taken in, and there is room for their calls
abbrev pub invariant-loop-basis : goal.invariant-loop-basis
invariant-loop-basis l = record {
  gathered : HasGathered l.fn.basis l.fn.passes.items l.founder l.passes.items l.callers.items;
  room : length l.passes.items ≤ l.callers.spare;
}

abbrev pub decreases-loop-basis : goal.decreases-loop-basis
decreases-loop-basis l = length l.passes.items
