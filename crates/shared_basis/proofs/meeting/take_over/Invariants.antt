use Rattle.std.proofs.Common.{◌≡◌, ◌+◌, ◌++◌, drop, take, length}
use Rattle.shared_basis.proofs.meeting.take_over.Given as goal

-- the other list's items up to here were appended, from the end of this one on
abbrev pub invariant-loop-at : goal.invariant-loop-at
invariant-loop-at l = record {
  items : l.regions.items ≡ l.initial.regions.items ++ drop (length l.initial.regions.items) (take l.at l.others.items);
  count : length l.regions.items ≡ l.at;
  room : length l.regions.items + l.regions.spare ≡ length l.initial.regions.items + l.initial.regions.spare;
}
