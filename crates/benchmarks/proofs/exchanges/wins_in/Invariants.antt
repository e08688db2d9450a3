use Rattle.std.proofs.Common.{◌≡◌, ◌≤◌, take}
use Rattle.benchmarks.specs.Exchanges.{wins_in}
use Rattle.benchmarks.proofs.exchanges.wins_in.Given as goal

-- the calls so far
abbrev pub invariant-loop-call : goal.invariant-loop-call
invariant-loop-call l = record {
  wins : l.wins ≡ wins_in (take l.call-index l.calls);
  few : l.wins ≤ l.call-index;
}
