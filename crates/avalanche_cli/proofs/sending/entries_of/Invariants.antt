use Rattle.std.proofs.Common.{◌≡◌, ◌≤◌, ◌+◌, length, map, take}
use Rattle.avalanche_cli.specs.SendSteps.{entry_of}
use Rattle.avalanche_cli.proofs.sending.entries_of.Given as goal

-- the entries of the draws so far, and there is room for the rest
abbrev pub invariant-loop-draw : goal.invariant-loop-draw
invariant-loop-draw l = record {
  entries : l.sends.items ≡ map (entry_of l.sending) (take l.draw-index l.sent);
  room : length l.sent ≤ l.draw-index + l.sends.spare;
}
