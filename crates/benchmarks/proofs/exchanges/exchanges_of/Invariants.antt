use Rattle.std.proofs.Common.{◌≡◌, ◌*◌, ◌≤◌, take}
use Rattle.benchmarks.specs.Exchanges.{seen_by_all, wins_of_all}
use Rattle.benchmarks.proofs.exchanges.exchanges_of.Given as goal

-- the workers so far
abbrev pub invariant-loop-worker : goal.invariant-loop-worker
invariant-loop-worker l = record {
  tried : l.tried ≡ seen_by_all (take l.worker-index l.workers.items);
  won : l.won ≡ wins_of_all (take l.worker-index l.workers.items);
  within : l.won ≤ l.tried;
  few : l.tried ≤ l.worker-index * l.equations.k;
}
