use Rattle.table_rows.proofs.GoodRecords.{all_fit, all_pass, all_stand, each_fresh, next_has, next_is}
use Rattle.table_rows.proofs.Sounds.{good_front}
use Rattle.table_rows.proofs.laws.region_laws.records.Goals as goal

pub returns : goal.returns
returns c = record {
  next = next_is;
  has = next_has;
  front = good_front;
  fit = all_fit;
  pass = all_pass;
  fresh = each_fresh;
  stand = all_stand;
}
