use Rattle.linear_spec.proofs.SpanLaws.{combination-nil, combination-cons_any, combination-push, combination-plus_scaled, IsVector-combination}
use Rattle.linear_spec.proofs.PacketLaws.{combination-nested, combination-packets, combination-true}
use Rattle.linear_spec.proofs.laws.span_laws.combinations.Goals as goal

pub returns : goal.returns
returns c = record {
  none = combination-nil;
  first = combination-cons_any c.field.ensures;
  last = combination-push c.field.ensures;
  is_vector = IsVector-combination c.field.ensures;
  packets = combination-packets c.field.ensures;
  truth = combination-true c.field.ensures;
  nested = combination-nested c.field.ensures;
  linear = combination-plus_scaled c.field.ensures;
}
