use Rattle.std.proofs.Common.{◌≡◌, ℕ, ◌<◌, length, sym, ap, ◌∙◌, subst}
use Rattle.table_rows.specs.declared.view.CallerView.{CallerView}
use Rattle.table_rows.specs.declared.view.Parameters.{Parameters}
use Rattle.table_rows.specs.Seats.{SeatValue, TableValue}
use Rattle.table_rows.specs.Steps.{after_empty, after_found}
use Rattle.table_rows.specs.Views.{as_caller}
use Rattle.table_rows.proofs.Calls.{caller_at, at_caller, directory_inside, look_allowed, looked_parameters}
use Rattle.table_rows.proofs.table.BasisTable.look.Goals as goal

pub load-requires : goal.load-requires
load-requires c =
    let key : Parameters = c.self.inside.table.shared.key in
    let one = caller_at _ _ _ _ key (as_caller c.seat.inside.seat.me.0) c.self.view_is c.seat.view_is c.requires.seat in
    let next : c.from-at.result ≡ length (as_caller c.seat.inside.seat.me.0).sight.front.known =
    c.from-at.ensures ∙ (c.requires.next.0 ∙ sym (ap (λ (z : SeatValue CallerView). length z.view.sight.front.known) c.seat.view_is)) in
    let small : c.from-at.result < key.k = subst (λ (n : ℕ). n < key.k) (sym c.from-at.ensures) (subst (λ (t : TableValue). c.args.n < t.parameters.k) (sym c.self.view_is) c.requires.next.1) in (
      one.0,
      directory_inside key c.self.inside.k c.self.inside.s _ c.from-at.result c.self.invariant.same_k c.self.invariant.words small,
      look_allowed key _ _ c.from-at.result c.seat.inside.seat.me c.seat.invariant.0 one.1 next small,
    )

pub invariant_of-seat : goal.invariant_of-seat
invariant_of-seat c = (c.load.ensures.2.0, c.load.ensures.2.2.shaped)

pub returns-clause-seat : goal.returns-clause-seat
returns-clause-seat c =
    let one = caller_at _ _ _ _ c.self.inside.table.shared.key (as_caller c.seat.inside.seat.me.0) c.self.view_is c.seat.view_is c.requires.seat in
    at_caller _ _ _ c.self.inside.table.shared.key (as_caller c.load.new.seat.me.0) c.self.view_is (c.load.ensures.0 ∙ one.0)
    (looked_parameters (as_caller c.seat.inside.seat.me.0) (as_caller c.load.new.seat.me.0) c.load.result c.load.ensures.2.1.0 c.load.ensures.2.1.1 ∙ one.1)

pub returns-clause-found : goal.returns-clause-found
returns-clause-found c = λ some. c.load.ensures.2.1.1 some ∙ ap (λ (z : SeatValue CallerView). after_found z.view c.load.result) c.seat.view_is

pub returns-clause-empty : goal.returns-clause-empty
returns-clause-empty c = λ none. c.load.ensures.2.1.0 none ∙ ap (λ (z : SeatValue CallerView). after_empty z.view) c.seat.view_is

pub returns-clause-sound : goal.returns-clause-sound
returns-clause-sound c = c.load.ensures.2.2
