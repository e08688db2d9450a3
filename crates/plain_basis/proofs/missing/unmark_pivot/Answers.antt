use Rattle.std.proofs.Common.{false, set, ap, ◌∙◌}
use Rattle.plain_basis.proofs.Columns.{not_all_zero}
use Rattle.plain_basis.proofs.missing.unmark_pivot.Goals as goal

pub returns-in-Some : goal.returns-in-Some
returns-in-Some c =
    c.unmark.ensures ∙ ap (λ place. set c.args.out.now place false) c.in-Some.ensures.0

-- each row has a pivot
pub returns-in_default : goal.returns-in_default
returns-in_default c =
    absurd (not_all_zero c.args.row.now.coeffs c.requires c.in_default.ensures)
