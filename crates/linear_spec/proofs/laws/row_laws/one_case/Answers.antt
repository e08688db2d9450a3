use Rattle.linear_spec.proofs.SpanDecides.{one_case, within_follows}
use Rattle.linear_spec.proofs.RowLaws.{fresh_at_none, within_at_none}
use Rattle.linear_spec.proofs.laws.row_laws.one_case.Goals as goal

pub returns : goal.returns
returns c = record {
  one_case = one_case c.field.ensures;
  fresh_first = fresh_at_none c.field.ensures;
  within_first = within_at_none c.field.ensures;
  within_follows = within_follows c.field.ensures;
}
