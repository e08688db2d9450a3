use Rattle.std.proofs.Common.{◌≡◌, ◌++◌, length, reverse}
use Rattle.shared_reception.proofs.relays.pour.Given as goal

abbrev pub invariant-loop-draw : goal.invariant-loop-draw
invariant-loop-draw l = l.fn.sent.items ++ reverse l.fn.draws.items ≡ l.sent.items ++ reverse l.draws.items

abbrev pub decreases-loop-draw : goal.decreases-loop-draw
decreases-loop-draw l = length l.draws.items
