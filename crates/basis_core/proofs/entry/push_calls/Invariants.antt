use Rattle.std.proofs.Common.{◌≡◌, ◌++◌, drop}
use Rattle.basis_core.specs.Entries.{entries_of_caller}
use Rattle.basis_core.proofs.entry.push_calls.Given as goal

-- the calls that are left give what is missing
abbrev pub invariant-loop-call : goal.invariant-loop-call
invariant-loop-call l = l.out.items ++ entries_of_caller l.caller.number (drop l.call-index l.calls) l.packets l.failed
    ≡ l.fn.out.items ++ entries_of_caller l.caller.number l.calls l.offers.packets.items l.offers.failed.items
