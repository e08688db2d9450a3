use Rattle.table_rows.proofs.Newcomers.{numbers}
use Rattle.table_rows.proofs.laws.number.Goals as goal

pub returns : goal.returns
returns c = numbers
