use Rattle.std.proofs.Common.{ℕ, ◌<◌, ◌≤◌, length, get_or}
use Rattle.receive_pass.specs.declared.worker.Worker.{Worker}
use Rattle.shared_reception.proofs.dealing.longest_inbox.Given as goal

abbrev pub invariant-loop-worker : goal.invariant-loop-worker
invariant-loop-worker l = (number : ℕ) (other : Worker) → number < l.worker-index → length (get_or l.workers number other).inbox.items ≤ l.longest
