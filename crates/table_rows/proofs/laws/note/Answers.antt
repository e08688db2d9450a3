use Rattle.table_rows.proofs.Notes.{notes}
use Rattle.table_rows.proofs.laws.note.Goals as goal

pub returns : goal.returns
returns c = notes
