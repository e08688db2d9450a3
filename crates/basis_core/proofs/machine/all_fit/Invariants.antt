use Rattle.std.proofs.Common.{ℕ, ◌<◌, get_or}
use Rattle.basis_core.specs.declared.trace.Event.{Event}
use Rattle.basis_core.specs.Machine.{FitsEvent}
use Rattle.basis_core.proofs.machine.all_fit.Given as goal

-- the events so far fit
abbrev pub invariant-loop-event : goal.invariant-loop-event
invariant-loop-event l = (j : ℕ) (d : Event) → j < l.event-index → FitsEvent l.k l.s (get_or l.events j d)
