use Rattle.std.proofs.Common.{◌≡◌, ◌<◌, length, sym, ap, subst}
use Rattle.table_rows.specs.declared.view.FounderView.{FounderView}
use Rattle.table_rows.specs.declared.view.Parameters.{Parameters}
use Rattle.table_rows.specs.Seats.{SeatValue, TableValue}
use Rattle.table_rows.specs.Views.{as_founder}
use Rattle.table_rows.proofs.Calls.{founder_at, number_allowed, some_words}
use Rattle.table_rows.proofs.table.BasisTable.number.Goals as goal

pub split_seat-seat-requires : goal.split_seat-seat-requires
split_seat-seat-requires c =
    let key : Parameters = c.self.inside.table.shared.key in
    let f : FounderView = as_founder c.founder.inside.seat.me.0 in
    let one = founder_at _ _ _ _ key f c.self.view_is c.founder.view_is c.requires.seat in
    let ours : c.args.self.now.parameters ≡ key = sym (ap (λ (t : TableValue). t.parameters) c.self.view_is) in
    let seen : c.args.founder.now.view ≡ f = sym (ap (λ (z : SeatValue FounderView). z.view) c.founder.view_is) in
    let fewer : length f.joined < key.passes = subst (λ (q : Parameters). length f.joined < q.passes) ours (subst (λ (u : FounderView). length u.joined < c.args.self.now.parameters.passes) seen c.requires.left) in
    (one.0, some_words key c.self.inside.k c.self.inside.s _ c.self.invariant.words c.self.invariant.some_passes, number_allowed key _ c.founder.inside.seat.me c.founder.invariant.0 one.1 fewer)
