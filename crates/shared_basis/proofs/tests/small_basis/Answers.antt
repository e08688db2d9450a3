use Rattle.shared_basis.proofs.SmallLemmas.{two_new}
use Rattle.shared_basis.proofs.tests.small_basis.Goals as goal

pub returns-clause-first : goal.returns-clause-first
returns-clause-first c =
    (two_new _ _ _ _ _ _ _ _ _ c.in_ok-basis.ensures.passes c.pop.ensures.items c.unwrap-second.ensures c.pop-2.ensures.items c.unwrap-first.ensures).0

pub returns-clause-second : goal.returns-clause-second
returns-clause-second c =
    (two_new _ _ _ _ _ _ _ _ _ c.in_ok-basis.ensures.passes c.pop.ensures.items c.unwrap-second.ensures c.pop-2.ensures.items c.unwrap-first.ensures).1
