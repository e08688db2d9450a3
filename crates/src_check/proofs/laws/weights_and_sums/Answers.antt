use Rattle.src_check.proofs.VectorLaws.{IsVector-file_sums, IsVector-weights}
use Rattle.src_check.proofs.laws.weights_and_sums.Goals as goal

pub returns-clause-weights : goal.returns-clause-weights
returns-clause-weights c = IsVector-weights

pub returns-clause-sums : goal.returns-clause-sums
returns-clause-sums c = IsVector-file_sums c.field.ensures
