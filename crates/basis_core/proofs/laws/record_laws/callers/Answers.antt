use Rattle.basis_core.proofs.Called.{called}
use Rattle.basis_core.proofs.Told.{answered_over, once}
use Rattle.basis_core.proofs.Recorded.{recorded_in}
use Rattle.basis_core.proofs.laws.record_laws.callers.Goals as goal

pub returns : goal.returns
returns c = record {
  answered = answered_over;
  once = once;
  recorded = recorded_in;
  called = called;
}
