use Rattle.linear_spec.proofs.SpanLaws.{IsVector-span, span-zero, span-empty, span-plus_scaled, span-scaled, span-member, span-grows, span-closed, span-last, span-last_from, span-take}
use Rattle.linear_spec.proofs.SpanChanges.{span-replace_at}
use Rattle.linear_spec.proofs.laws.span_laws.spans.Goals as goal

pub returns : goal.returns
returns c = record {
  is_vector = IsVector-span c.field.ensures;
  zero = span-zero c.field.ensures;
  none = span-empty;
  sum = span-plus_scaled c.field.ensures;
  multiple = span-scaled c.field.ensures;
  member = span-member c.field.ensures;
  grows = span-grows c.field.ensures;
  closed = span-closed c.field.ensures;
  last = λ n vs w v vectors vector own. (
    span-last c.field.ensures n vs w v vectors vector,
    λ some. span-last_from c.field.ensures n some.0 vs w v vectors vector own some.1 some.2,
  );
  replace = λ n multiple place vs row vectors vector below symbol some stands x.
      span-replace_at c.field.ensures n multiple place vs row x vectors vector below symbol some stands;
  coefficients = span-take c.field.ensures;
}
