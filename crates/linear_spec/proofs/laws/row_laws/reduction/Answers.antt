use Rattle.linear_spec.proofs.Echelon.{IsVector-remainder}
use Rattle.linear_spec.proofs.RowLaws.{remainder-push, remainder_is_clear, remainder_in_span}
use Rattle.linear_spec.proofs.laws.row_laws.reduction.Goals as goal

pub returns : goal.returns
returns c = record {
  last = remainder-push;
  is_vector = IsVector-remainder c.field.ensures;
  clear = remainder_is_clear c.field.ensures;
  in_span = remainder_in_span c.field.ensures;
}
