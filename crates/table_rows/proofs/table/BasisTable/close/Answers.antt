use Rattle.std.proofs.Common.{◌≡◌, ℕ, List, length, drop, sym, ap, ◌∙◌, subst}
use Rattle.std.proofs.Math.Seq.{drop-append_seam}
use Rattle.std.specs.Slots.{slots_items}
use mathlib.Core.Option.{some}
use Rattle.table_rows.specs.declared.view.FounderView.{FounderView}
use Rattle.table_rows.specs.declared.view.Parameters.{Parameters}
use Rattle.table_rows.specs.Closing.{IsClosed}
use Rattle.table_rows.specs.Seats.{SeatValue, TableValue}
use Rattle.table_rows.specs.Rule.{TableRule}
use Rattle.table_rows.specs.Views.{as_founder}
use Rattle.table_rows.proofs.Calls.{Here}
use Rattle.table_rows.proofs.Closed.{closes}
use Rattle.table_rows.proofs.table.BasisTable.close.Goals as goal

pub returns-clause-closed : goal.returns-clause-closed
returns-clause-closed c =
    let key : Parameters = c.self.inside.table.shared.key in
    let f : FounderView = as_founder c.founder.inside.seat.me.0 in
    let last = c.close_with-closed.ensures.values.2 in
    let words : List ℕ = slots_items c.close_with-closed.result.words in
    let rule : TableRule key words last.0.views = subst (λ (ws : List ℕ). TableRule key ws last.0.views) last.2 last.1.0 in
    let done : IsClosed key f words = closes key f words last.0.views c.founder.inside.seat.id rule
    (last.1.1 ∙ ap (λ (m : Here). some m.0) c.founder.invariant.0) in
    let all : drop (length c.args.out.now.items) c.copy_words.new.out.items ≡ words =
    ap (λ (l : List ℕ). drop (length c.args.out.now.items) l) c.copy_words.ensures.items ∙ drop-append_seam c.args.out.now.items words in
    subst (λ (l : List ℕ). IsClosed c.args.self.parameters c.args.founder.view l) (sym all)
    (subst (λ (z : SeatValue FounderView). IsClosed c.args.self.parameters z.view words) c.founder.view_is
    (subst (λ (t : TableValue). IsClosed t.parameters f words) c.self.view_is done))
