use Rattle.linear_spec.proofs.VectorLaws.{IsVector-plus_scaled, IsVector-replicate, IsVector-scaled, get_or-plus_scaled, plus_scaled-twice, plus_scaled-zero, plus_scaled-zeros, scaled-one, zeros-plus_scaled}
use Rattle.linear_spec.proofs.VectorSums.{plus_self}
use Rattle.linear_spec.proofs.laws.vector_laws.vectors.Goals as goal

pub returns : goal.returns
returns c = record {
  zeros = IsVector-replicate;
  sum = IsVector-plus_scaled c.field.ensures;
  multiple = IsVector-scaled c.field.ensures;
  at = get_or-plus_scaled c.field.ensures;
  nothing = plus_scaled-zero c.field.ensures;
  plus_zeros = λ n a vector. plus_scaled-zeros c.field.ensures a n vector;
  zeros_plus = zeros-plus_scaled c.field.ensures;
  once = scaled-one c.field.ensures;
  twice = plus_scaled-twice c.field.ensures;
  itself = plus_self c.field.ensures;
}
