use Rattle.table_rows.proofs.Packing.{packed_long, packed_word, unpacked_more, unpacked_packed}
use Rattle.table_rows.proofs.laws.region_laws.packing.Goals as goal

pub returns : goal.returns
returns c = record {
  back = unpacked_packed;
  count = packed_long;
  word = packed_word;
  more = unpacked_more;
}
