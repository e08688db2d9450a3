use Rattle.linear_spec.proofs.RowPlaces.{stand_none}
use Rattle.linear_spec.proofs.RowSpans.{rows_fit, rows_same_span, rows_same_coefficients}
use Rattle.linear_spec.proofs.Ranks.{rows_rank}
use Rattle.linear_spec.proofs.RankBounds.{rows_at_most, pivots_differ}
use Rattle.linear_spec.proofs.RowsFill.{rows_fill}
use Rattle.linear_spec.proofs.RowLaws.{rows_exist, stand_front, packet_fresh, packets_rank}
use Rattle.linear_spec.proofs.laws.row_laws.rows.Goals as goal

pub returns : goal.returns
returns c = record {
  none = stand_none;
  front = stand_front;
  fit = rows_fit;
  span = λ k s packets rows fit stand. rows_same_span k s c.field.ensures packets rows fit stand;
  coefficients = λ k s packets rows fit stand. rows_same_coefficients k s c.field.ensures packets rows fit stand;
  fresh = packet_fresh c.field.ensures;
  some = rows_exist c.field.ensures;
  rank = rows_rank c.field.ensures;
  packets_rank = packets_rank c.field.ensures;
  at_most = rows_at_most;
  pivots_differ = pivots_differ;
  fill = rows_fill c.field.ensures;
}
