use Rattle.std.proofs.Common.{sym, ap, ◌∙◌}
use Rattle.table_rows.specs.declared.view.Parameters.{Parameters}
use Rattle.table_rows.specs.Steps.{after_join_caller}
use Rattle.table_rows.specs.Views.{as_caller, as_founder}
use Rattle.table_rows.proofs.Calls.{Here, caller_at, founder_at, caller_joined, join_caller_allowed, some_words}
use Rattle.table_rows.proofs.table.BasisTable.join_caller.Goals as goal

pub join_seat-requires : goal.join_seat-requires
join_seat-requires c =
    let key : Parameters = c.self.inside.table.shared.key in
    let one = founder_at _ _ _ _ key (as_founder c.founder.inside.seat.me.0) c.self.view_is c.founder.view_is c.requires.founder in
    let two = caller_at _ _ _ _ key (as_caller c.seat.inside.seat.me.0) c.self.view_is c.seat.view_is c.requires.seat in (
      one.0,
      two.0,
      ap (λ (m : Here). m.1) c.seat.invariant.0,
      some_words key c.self.inside.k c.self.inside.s _ c.self.invariant.words c.self.invariant.some_passes,
      join_caller_allowed key _ _ c.founder.inside.seat.me c.seat.inside.seat.me c.founder.invariant.0 c.seat.invariant.0 one.1,
    )

pub invariant_of-founder : goal.invariant_of-founder
invariant_of-founder c =
    let key : Parameters = c.self.inside.table.shared.key in
    let one = founder_at _ _ _ _ key (as_founder c.founder.inside.seat.me.0) c.self.view_is c.founder.view_is c.requires.founder in
    let two = caller_at _ _ _ _ key (as_caller c.seat.inside.seat.me.0) c.self.view_is c.seat.view_is c.requires.seat in
    let after = caller_joined c.founder.inside.seat.me c.seat.inside.seat.me c.join_seat.new.seat.me c.founder.invariant.0 (two.1 ∙ sym one.1) c.founder.invariant.1 c.seat.invariant.1.sight c.join_seat.ensures.2 in
    (after.0, after.1)

pub returns-clause-joined : goal.returns-clause-joined
returns-clause-joined c =
    let key : Parameters = c.self.inside.table.shared.key in
    let one = founder_at _ _ _ _ key (as_founder c.founder.inside.seat.me.0) c.self.view_is c.founder.view_is c.requires.founder in
    let two = caller_at _ _ _ _ key (as_caller c.seat.inside.seat.me.0) c.self.view_is c.seat.view_is c.requires.seat in
    let after = caller_joined c.founder.inside.seat.me c.seat.inside.seat.me c.join_seat.new.seat.me c.founder.invariant.0 (two.1 ∙ sym one.1) c.founder.invariant.1 c.seat.invariant.1.sight c.join_seat.ensures.2 in
    after.2 ∙ (λ i. after_join_caller (c.founder.view_is i).view (c.seat.view_is i).view)
