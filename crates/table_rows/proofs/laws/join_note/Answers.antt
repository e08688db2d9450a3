use Rattle.table_rows.proofs.Notes.{joins_note}
use Rattle.table_rows.proofs.laws.join_note.Goals as goal

pub returns : goal.returns
returns c = joins_note
