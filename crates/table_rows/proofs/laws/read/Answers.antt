use Rattle.table_rows.proofs.Looking.{reads}
use Rattle.table_rows.proofs.laws.read.Goals as goal

pub returns : goal.returns
returns c = reads
