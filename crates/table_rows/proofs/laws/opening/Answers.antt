use Rattle.table_rows.proofs.Opening.{opens}
use Rattle.table_rows.proofs.laws.opening.Goals as goal

pub returns : goal.returns
returns c = opens
