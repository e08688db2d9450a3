use Rattle.std.proofs.Common.{[]}
use Rattle.basis_core.specs.Merge.{given_by}
use Rattle.basis_core.proofs.Local.{local_from_legal}
use Rattle.basis_core.proofs.Whole.{legal_from_local}
use Rattle.basis_core.proofs.Law.{nobody}
use Rattle.basis_core.proofs.Told.{callers_are_below, callers_stay_below, at_most}
use Rattle.basis_core.proofs.laws.record_laws.records.Goals as goal

pub returns : goal.returns
returns c = record {
  innovative = λ equations given records legal. (local_from_legal equations given records legal).sound.innovative;
  callers = λ equations given records legal. callers_are_below records (local_from_legal equations given records legal).sound.callers;
  nobody = λ equations records innovative below.
      legal_from_local equations (given_by []) records (nobody equations records innovative (callers_stay_below records below));
  at_most = λ equations records fit innovative. at_most equations records fit innovative c.rows.ensures;
}
