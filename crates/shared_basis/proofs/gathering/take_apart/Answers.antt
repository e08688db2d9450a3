use Rattle.std.proofs.Common.{subst}
use Rattle.shared_basis.specs.Bases.{PassValue}
use Rattle.shared_basis.specs.Gathering.{AreParts}
use Rattle.shared_basis.proofs.GatherLemmas.{parts_of}
use Rattle.shared_basis.proofs.gathering.take_apart.Goals as goal

pub returns : goal.returns
returns c = subst
    (λ (q : PassValue). AreParts q (record {
      seat = c.pass.inside.desk.seat;
      founder = c.pass.inside.founder;
      caller = record { number = c.pass.inside.number; calls = c.pass.inside.calls };
    }))
    c.pass.view_is (parts_of _ _ _ _ _ _ _ c.pass.invariant)
