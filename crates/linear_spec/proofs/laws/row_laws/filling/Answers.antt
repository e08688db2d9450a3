use Rattle.linear_spec.proofs.Filling.{filled_rank, filled_span, rows_and_columns, unit_fresh}
use Rattle.linear_spec.proofs.laws.row_laws.filling.Goals as goal

pub returns : goal.returns
returns c = record {
  count = λ k s packets rows stand. rows_and_columns k s packets rows stand c.field.ensures;
  fresh = λ k s at packets rows units packet fit stand are. unit_fresh c.field.ensures k s packets rows units fit stand are at packet;
  rank = filled_rank c.field.ensures;
  span = λ k s packets rows units vector fit stand are. filled_span c.field.ensures k s packets rows units fit stand are vector;
}
