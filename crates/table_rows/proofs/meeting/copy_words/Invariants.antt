use Rattle.std.proofs.Common.{◌≡◌, ◌+◌, ◌++◌, take}
use Rattle.std.specs.Slots.{slots_items}
use Rattle.table_rows.proofs.meeting.copy_words.Given as goal

abbrev pub invariant-loop-at : goal.invariant-loop-at
invariant-loop-at l = record {
  items : l.out.items ≡ l.initial.out.items ++ take l.at (slots_items l.closed.words);
  spare : l.out.spare + l.at ≡ l.initial.out.spare;
}
