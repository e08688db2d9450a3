use Rattle.std.proofs.Common.{◌≡◌, ◌≤◌, ◌++◌, length, reverse}
use Rattle.avalanche_cli.specs.Reception.{traces_of}
use Rattle.avalanche_cli.proofs.reception.traces_of.Given as goal

-- the traces of the bases that were taken off, the last one first, and there is room for the rest
abbrev pub invariant-loop-basis : goal.invariant-loop-basis
invariant-loop-basis l = record {
  split : traces_of 0 l.initial.bases.items ≡ traces_of 0 l.bases.items ++ reverse l.traces.items;
  room : length l.bases.items ≤ l.traces.spare;
  few : length l.bases.items ≤ 256;
}

abbrev pub decreases-loop-basis : goal.decreases-loop-basis
decreases-loop-basis l = length l.bases.items
