use Rattle.table_rows.proofs.Looking.{looks}
use Rattle.table_rows.proofs.laws.look.Goals as goal

pub returns : goal.returns
returns c = looks
