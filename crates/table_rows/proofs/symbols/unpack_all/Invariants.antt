use Rattle.std.proofs.Common.{◌≡◌, ◌*◌, min, take, length}
use Rattle.table_rows.specs.Layout.{unpacked_of}
use Rattle.table_rows.proofs.symbols.unpack_all.Given as goal

-- the symbols so far are those of the words
abbrev pub invariant-loop-at : goal.invariant-loop-at
invariant-loop-at l = take (min (4 * l.at) (length l.out)) l.out ≡ unpacked_of (min (4 * l.at) (length l.out)) l.words
