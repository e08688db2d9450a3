use Rattle.table_rows.proofs.Closed.{closes}
use Rattle.table_rows.proofs.laws.closing.Goals as goal

pub returns : goal.returns
returns c = closes
