use Rattle.table_rows.proofs.Gathering.{joins_caller}
use Rattle.table_rows.proofs.laws.join_caller.Goals as goal

pub returns : goal.returns
returns c = joins_caller
