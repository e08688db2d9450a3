use Rattle.table_rows.specs.declared.view.Parameters.{Parameters}
use Rattle.table_rows.specs.Views.{as_caller}
use Rattle.table_rows.proofs.Calls.{caller_at, note_allowed, some_words}
use Rattle.table_rows.proofs.table.BasisTable.note.Goals as goal

pub split_seat-seat-requires : goal.split_seat-seat-requires
split_seat-seat-requires c =
    let key : Parameters = c.self.inside.table.shared.key in
    let one = caller_at _ _ _ _ key (as_caller c.seat.inside.seat.me.0) c.self.view_is c.seat.view_is c.requires in
    (one.0, some_words key c.self.inside.k c.self.inside.s _ c.self.invariant.words c.self.invariant.some_passes, note_allowed key _ c.seat.inside.seat.me c.seat.invariant.0 one.1)
