use Rattle.linear_spec.proofs.RowsFill.{IsVector-unit}
use Rattle.linear_spec.proofs.Solutions.{combination-unit}
use Rattle.linear_spec.proofs.UnitVectors.{units_rank, units_span}
use Rattle.linear_spec.proofs.laws.vector_laws.unit_vectors.Goals as goal

pub returns : goal.returns
returns c = record {
  is_vector = IsVector-unit;
  pick = combination-unit c.field.ensures;
  span = units_span c.field.ensures;
  rank = units_rank c.field.ensures;
}
