use Rattle.std.proofs.Common.{◌≡◌, take}
use Rattle.table_rows.specs.Layout.{packed_words_of}
use Rattle.table_rows.proofs.symbols.pack_all.Given as goal

-- the words so far are those of the symbols
abbrev pub invariant-loop-at : goal.invariant-loop-at
invariant-loop-at l = take l.at l.words ≡ take l.at (packed_words_of l.symbols)
