use Rattle.table_rows.proofs.Writing.{writes}
use Rattle.table_rows.proofs.laws.write.Goals as goal

pub returns : goal.returns
returns c = writes
