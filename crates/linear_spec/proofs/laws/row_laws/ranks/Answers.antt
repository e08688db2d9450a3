use Rattle.linear_spec.proofs.Ranks.{rank_some, rank_unique, rank_more, rank_at_most_length}
use Rattle.linear_spec.proofs.RankBounds.{rank_at_most}
use Rattle.linear_spec.proofs.RankSpans.{rank_one_span}
use Rattle.linear_spec.proofs.laws.row_laws.ranks.Goals as goal

pub returns : goal.returns
returns c = record {
  some = rank_some c.field.ensures;
  one = rank_unique;
  at_most_count = rank_at_most_length;
  at_most_symbols = rank_at_most c.field.ensures;
  more = rank_more;
  one_span = rank_one_span c.field.ensures;
}
