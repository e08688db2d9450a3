use Rattle.std.proofs.Common.{sym, ap, ◌∙◌}
use Rattle.table_rows.specs.declared.view.Parameters.{Parameters}
use Rattle.table_rows.specs.Steps.{after_join_note}
use Rattle.table_rows.specs.Views.{as_caller, as_sight}
use Rattle.table_rows.proofs.Calls.{Here, caller_at, note_at, join_note_allowed, note_joined, some_words}
use Rattle.table_rows.proofs.table.BasisTable.join_note.Goals as goal

pub join_seat-requires : goal.join_seat-requires
join_seat-requires c =
    let key : Parameters = c.self.inside.table.shared.key in
    let one = caller_at _ _ _ _ key (as_caller c.seat.inside.seat.me.0) c.self.view_is c.seat.view_is c.requires.seat in
    let two = note_at _ _ _ _ key (as_sight c.note.inside.seat.me.0) c.self.view_is c.note.view_is c.requires.note in (
      one.0,
      two.0,
      ap (λ (m : Here). m.1) c.note.invariant.0,
      some_words key c.self.inside.k c.self.inside.s _ c.self.invariant.words c.self.invariant.some_passes,
      join_note_allowed key _ _ c.seat.inside.seat.me c.note.inside.seat.me c.seat.invariant.0 c.note.invariant.0 one.1,
    )

pub invariant_of-seat : goal.invariant_of-seat
invariant_of-seat c =
    let key : Parameters = c.self.inside.table.shared.key in
    let one = caller_at _ _ _ _ key (as_caller c.seat.inside.seat.me.0) c.self.view_is c.seat.view_is c.requires.seat in
    let two = note_at _ _ _ _ key (as_sight c.note.inside.seat.me.0) c.self.view_is c.note.view_is c.requires.note in
    let after = note_joined c.seat.inside.seat.me c.note.inside.seat.me c.join_seat.new.seat.me c.seat.invariant.0 (two.1 ∙ sym one.1) c.seat.invariant.1 c.note.invariant.1 c.join_seat.ensures.2 in
    (after.0, after.1)

pub returns-clause-joined : goal.returns-clause-joined
returns-clause-joined c =
    let key : Parameters = c.self.inside.table.shared.key in
    let one = caller_at _ _ _ _ key (as_caller c.seat.inside.seat.me.0) c.self.view_is c.seat.view_is c.requires.seat in
    let two = note_at _ _ _ _ key (as_sight c.note.inside.seat.me.0) c.self.view_is c.note.view_is c.requires.note in
    let after = note_joined c.seat.inside.seat.me c.note.inside.seat.me c.join_seat.new.seat.me c.seat.invariant.0 (two.1 ∙ sym one.1) c.seat.invariant.1 c.note.invariant.1 c.join_seat.ensures.2 in
    after.2 ∙ (λ i. after_join_note (c.seat.view_is i).view (c.note.view_is i).view)
