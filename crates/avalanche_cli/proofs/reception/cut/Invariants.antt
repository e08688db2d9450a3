use Rattle.std.proofs.Common.{◌≡◌, length, take}
use Rattle.avalanche_cli.proofs.reception.cut.Given as goal

-- only bytes past the length were dropped
abbrev pub invariant-loop-bytes : goal.invariant-loop-bytes
invariant-loop-bytes l = take l.len l.bytes.items ≡ take l.len l.fn.bytes.items

abbrev pub decreases-loop-bytes : goal.decreases-loop-bytes
decreases-loop-bytes l = length l.bytes.items
