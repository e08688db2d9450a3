use Rattle.std.specs.List.{All}
use Rattle.receive_pass.specs.Workers.{IsReady}
use Rattle.receive_pass.specs.Worked.{IsOfFirst}
use Rattle.receive_pass.proofs.tests.making.make_workers.Given as goal

abbrev pub invariant-loop-worker : goal.invariant-loop-worker
invariant-loop-worker l = record {
  passes : All (IsOfFirst l.bases.items) l.passes.items;
  workers : All (IsReady l.equations l.bases.items) l.workers.items;
}
