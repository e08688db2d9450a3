use Rattle.std.proofs.Common.{◌≡◌, ◌+◌, length}
use Rattle.std.specs.List.{All}
use Rattle.receive_pass.specs.Workers.{IsReady}
use Rattle.benchmarks.specs.Offers.{IsRoomyPassOf}
use Rattle.benchmarks.proofs.shared.workers_of.Given as goal

-- the passes that are left, and the workers so far
abbrev pub invariant-loop-pass : goal.invariant-loop-pass
invariant-loop-pass l = record {
  passes : All (IsRoomyPassOf l.bases.items (length l.packets)) l.passes.items;
  ready : All (IsReady l.equations l.bases.items) l.workers.items;
  made : length l.workers.items + length l.passes.items ≡ l.count;
  count : l.count ≡ length l.fn.passes.items;
}

abbrev pub decreases-loop-pass : goal.decreases-loop-pass
decreases-loop-pass l = length l.passes.items
