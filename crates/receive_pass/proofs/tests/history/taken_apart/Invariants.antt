use Rattle.std.specs.List.{All}
use Rattle.receive_pass.specs.Worked.{AreNumbered, HasPasses}
use Rattle.receive_pass.proofs.tests.history.taken_apart.Given as goal

abbrev pub invariant-loop-worker : goal.invariant-loop-worker
invariant-loop-worker l = record {
  passes : AreNumbered l.bases.items l.passes.items;
  workers : All (HasPasses l.bases.items) l.workers.items;
}
