use Rattle.table_rows.proofs.Again.{read_again}
use Rattle.table_rows.proofs.laws.region_laws.reading.Goals as goal

pub returns : goal.returns
returns c = read_again
