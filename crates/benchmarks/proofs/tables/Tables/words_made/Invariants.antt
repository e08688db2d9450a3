use Rattle.std.proofs.Common.{◌≡◌, ◌*◌, ◌≤◌}
use Rattle.table_rows.specs.Layout.{basis_length}
use Rattle.benchmarks.proofs.tables.Tables.words_made.Given as goal

-- the words of the tables so far
abbrev pub invariant-loop-turn : goal.invariant-loop-turn
invariant-loop-turn l = record {
  number : l.words ≡ l._turn * basis_length l.self.k l.self.s l.self.passes;
  bound : l.words ≤ l._turn * 16777216;
}
