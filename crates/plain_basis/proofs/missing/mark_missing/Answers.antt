use Rattle.std.proofs.Common.{length, ◌∙◌, subst}
use Rattle.std.proofs.lemmas.List.{take_all}
use Rattle.plain_basis.proofs.Columns.{AreMarked, marked_columns}
use Rattle.plain_basis.proofs.missing.mark_missing.Goals as goal

-- after the last row the columns are marked by all rows
pub returns : goal.returns
returns c =
    let rows = c.as_slice-rows.result.now in
    let all = take_all c.loop-row.row-index rows c.loop-row-test.false ∙ c.as_slice-rows.ensures in
    let k = length c.args.out.now in
    marked_columns k c.args.rows.now.items c.loop-row.out (subst (λ front. AreMarked k front c.loop-row.out) all c.loop-row.invariant)
