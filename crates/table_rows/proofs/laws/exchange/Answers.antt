use Rattle.table_rows.proofs.Appending.{exchanges}
use Rattle.table_rows.proofs.laws.exchange.Goals as goal

pub returns : goal.returns
returns c = exchanges
