use Rattle.std.proofs.Common.{◌≡◌, ◌++◌, drop}
use Rattle.basis_core.specs.Entries.{entries_of}
use Rattle.basis_core.proofs.entry.entries.Given as goal

-- the callers that are left give what is missing
abbrev pub invariant-loop-caller : goal.invariant-loop-caller
invariant-loop-caller l = l.entries.items ++ entries_of (drop l.caller-index l.callers) l.offers ≡ entries_of l.callers l.fn.offers.items
