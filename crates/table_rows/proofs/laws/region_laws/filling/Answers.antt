use Rattle.std.proofs.Common.{refl}
use Rattle.table_rows.proofs.Filling.{filled_all, read_all, reads_more, reads_none, whole_some, words_of_some, writes_all, writes_more}
use Rattle.table_rows.proofs.laws.region_laws.filling.Goals as goal

pub returns : goal.returns
returns c = record {
  unwritten = λ v. refl;
  write = writes_more;
  written = writes_all;
  unread = reads_none;
  read = reads_more;
  known = read_all;
  row = filled_all;
  whole = whole_some;
  back = words_of_some;
}
