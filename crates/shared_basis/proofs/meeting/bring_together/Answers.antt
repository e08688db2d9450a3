use Rattle.std.proofs.Common.{◌≡◌, sym, ◌∙◌}
use Rattle.table_rows.specs.declared.view.CallerView.{CallerView}
use Rattle.table_rows.specs.Steps.{after_join_note, after_write}
use Rattle.table_rows.specs.Views.{noted}
use Rattle.shared_basis.proofs.MeetLemmas.{HaveMet, brought_first, brought_second, met_views}
use Rattle.shared_basis.proofs.meeting.bring_together.Goals as goal

-- what the second caller's view is when it has taken in the first one's note
abbrev second : CallerView → CallerView → CallerView
second a b = after_join_note b (noted a.sight)

-- what the two views are at the end
met : (c : goal.After-write-2) → HaveMet c.args.a.now.seat.view c.args.b.now.seat.view c.write.new.seat.view c.write-2.new.seat.view
    × (c.write.new.seat.view ≡ after_write (after_join_note c.args.a.now.seat.view (noted (second c.args.a.now.seat.view c.args.b.now.seat.view).sight)) 0 0)
    × (c.write-2.new.seat.view ≡ after_write (second c.args.a.now.seat.view c.args.b.now.seat.view) 0 0)
met c =
    met_views c.meeting.ensures _ _ (c.requires.b.1.parameters ∙ sym c.requires.a.1.parameters) c.requires.a.0.sound c.requires.b.0.sound
    c.requires.a.0.whole c.requires.b.0.whole _ _ _ _ _ _ _ _
    c.note-note.ensures.seat.1 c.note-note.ensures.note.1 c.join_note.ensures.joined c.note-note-2.ensures.seat.1 c.note-note-2.ensures.note.1
    c.join_note-2.ensures.joined c.write.ensures.written c.write-2.ensures.written c.write.ensures.sound c.write-2.ensures.sound

pub returns-clause-one_front : goal.returns-clause-one_front
returns-clause-one_front c = (met c).0.one

pub returns-clause-a : goal.returns-clause-a
returns-clause-a c = (
  brought_first c.args.a.now c.args.b.now c.write.new.seat c.write-2.new.seat (met c).0 (noted (second c.args.a.now.seat.view c.args.b.now.seat.view).sight)
      (c.write.ensures.seat.table ∙ sym c.requires.a.1.table) c.write.ensures.sound (met c).1,
  c.write.ensures.seat,
)

pub returns-clause-b : goal.returns-clause-b
returns-clause-b c = (
  brought_second c.args.a.now c.args.b.now c.write.new.seat c.write-2.new.seat (met c).0 (noted c.args.a.now.seat.view.sight)
      (c.write-2.ensures.seat.table ∙ sym c.requires.b.1.table) c.write-2.ensures.sound (met c).2,
  c.write-2.ensures.seat,
)
