use Rattle.linear_spec.proofs.FullRank.{fresh_of_rank, full_more, full_spans, spans_full}
use Rattle.linear_spec.proofs.laws.span_laws.full_rank.Goals as goal

pub returns : goal.returns
returns c = record {
  spans = full_spans c.field.ensures;
  full = spans_full c.field.ensures;
  more = full_more c.field.ensures;
  fresh = fresh_of_rank;
}
