use Rattle.linear_spec.proofs.Decision.{fresh_exactly, within_exactly, row_stands}
use Rattle.linear_spec.proofs.RankBounds.{fresh_gives_row}
use Rattle.linear_spec.proofs.RowPlaces.{stand_push}
use Rattle.linear_spec.proofs.RowLaws.{follows_exactly, conflicting_exactly, none_fresh}
use Rattle.linear_spec.proofs.laws.row_laws.decision.Goals as goal

pub returns : goal.returns
returns c = record {
  fresh = fresh_exactly c.field.ensures;
  follows = follows_exactly c.field.ensures;
  within = within_exactly c.field.ensures;
  conflicting = conflicting_exactly c.field.ensures;
  row = fresh_gives_row c.field.ensures;
  stands = row_stands c.field.ensures;
  joins = stand_push;
  full = none_fresh c.field.ensures;
}
