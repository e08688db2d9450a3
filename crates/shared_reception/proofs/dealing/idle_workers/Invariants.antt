use Rattle.shared_reception.specs.Steps.{AreIdle}
use Rattle.shared_reception.proofs.dealing.idle_workers.Given as goal

abbrev pub invariant-loop-caller : goal.invariant-loop-caller
invariant-loop-caller l = AreIdle l.caller l.workers.items
