use Rattle.linear_spec.proofs.RowsUnique.{same_columns, same_pivots, same_vectors}
use Rattle.linear_spec.proofs.laws.row_laws.missing_columns.Goals as goal

pub returns : goal.returns
returns c = record {
  vectors = same_vectors c.field.ensures;
  pivots = same_pivots c.field.ensures;
  columns = same_columns c.field.ensures;
}
