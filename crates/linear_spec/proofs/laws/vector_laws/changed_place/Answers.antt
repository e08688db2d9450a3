use Rattle.linear_spec.proofs.ChangedPlace.{first_changed, second_changed}
use Rattle.linear_spec.proofs.laws.vector_laws.changed_place.Goals as goal

pub returns : goal.returns
returns c = record { first = first_changed c.field.ensures; second = second_changed c.field.ensures }
