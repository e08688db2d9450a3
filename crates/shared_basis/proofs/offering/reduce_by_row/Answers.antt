use Rattle.std.proofs.Common.{◌≡◌, ℕ, ◌<◌, List, length, get_or, sym, ap, ◌∙◌, arith}
use Rattle.linear_spec.specs.declared.packet.Packet.{Packet}
use Rattle.linear_spec.specs.Packet.{vector_of}
use Rattle.table_rows.specs.declared.view.Parameters.{Parameters}
use Rattle.shared_basis.specs.Regions.{rows_seen}
use Rattle.shared_basis.proofs.RivalLemmas.{nothing_left_there}
use Rattle.shared_basis.proofs.offering.reduce_by_row.Goals as goal

-- where nothing is left at the pivot, the row takes nothing from what is left
pub returns-then-as_slice-pivot-eq0-clause-left : goal.returns-then-as_slice-pivot-eq0-clause-left
returns-then-as_slice-pivot-eq0-clause-left c row =
    let d = c.args.desk.now in
    let pivot = c.pivot_again-pivot.result in
    let kept : c.pivot_again-pivot.new.desk.left ≡ d.left = c.pivot_again-pivot.ensures.left in
    let long : length d.left.coeffs ≡ c.args.table.now.parameters.k = c.requires.desk.left.coeffs ∙ ap (λ (p : Parameters). p.k) c.requires.seat.parameters in
    let below : pivot < c.args.table.now.parameters.k = c.pivot_again-pivot.ensures.below in
    let none : get_or d.left.coeffs pivot 0 ≡ 0 = sym (ap (λ (l : List ℕ). get_or l pivot 0) (c.as_slice.ensures ∙ ap (λ (left : Packet). left.coeffs) kept))
    ∙ c.if-as_slice-pivot-eq0.true in
    ap vector_of kept
    ∙ nothing_left_there c.field.ensures d.left (get_or (rows_seen d.seat.view) c.args.n row) pivot (omega arith) (c.pivot_again-pivot.ensures.pivot row) none
