use Rattle.std.proofs.Common.{length, refl}
use Rattle.recode.specs.Draws.{draw_coefficients, drawn_packet}
use Rattle.recode.proofs.DrawLemmas.{coefficients-vector}
use Rattle.recode.proofs.laws.passing.Goals as goal

pub returns : goal.returns
returns c = λ equations generation link q key front are fit same pass.
    c.checks.ensures.linear equations front (draw_coefficients key link q (length front)) (drawn_packet equations.k equations.s generation key link q front)
    are (coefficients-vector key link q (length front)).symbols fit same pass refl refl
