use Rattle.std.proofs.Common.{◌≡◌, ◌+◌, ◌-◌, ◌*◌, ◌≤◌, map, take}
use Rattle.table_rows.specs.Layout.{length_of, record_in, region_of, row_in}
use Rattle.shared_basis.specs.Decoding.{AreBlanksFor}
use Rattle.shared_basis.proofs.decoding.decode_all.Given as goal

-- the records and rows of the directory's first words are there
abbrev pub invariant-loop-n : goal.invariant-loop-n
invariant-loop-n l = record {
  within : l.n ≤ length_of l.params.k l.words;
  records : l.records.items ≡ map (record_in l.params.generation l.params.k l.params.s) (map (region_of l.params.k l.params.s l.words) (take l.n l.words));
  rows : l.rows.items ≡ map (row_in l.params.generation l.params.k l.params.s) (map (region_of l.params.k l.params.s l.words) (take l.n l.words));
  blanks : AreBlanksFor l.params (2 * (l.params.k - l.n)) l.packets.items;
  records_room : l.params.k ≤ l.records.spare + l.n;
  rows_room : l.params.k ≤ l.rows.spare + l.n;
}
