use Rattle.shared_basis.specs.declared.desk.Desk.{Desk}
use Rattle.shared_basis.proofs.LookLemmas.{Filled, as_wide, is_read, learnt, still_desk}
use Rattle.shared_basis.proofs.looking.look_once.Goals as goal

pub returns-clause-found : goal.returns-clause-found
returns-clause-found c =
    let d : Desk = c.args.desk.now in
    let e : Desk = c.learn.new.desk in
    let filled : Filled = record { row = c.filling.ensures.row; back = c.filling.ensures.back; whole = c.filling.ensures.whole } in
    learnt filled d.seat.view e.seat.view c.look-region.result e.words.items c.requires.desk.sound.shaped (as_wide d e c.requires.desk c.learn.ensures.words)
    (is_read d e c.look-region.new.seat.view c.look-region.result c.requires.desk (c.look-region.ensures.found c.if-region-eq0.false) c.learn.ensures.view)

pub returns-clause-desk : goal.returns-clause-desk
returns-clause-desk c =
    let d : Desk = c.args.desk.now in
    let e : Desk = c.learn.new.desk in
    let filled : Filled = record { row = c.filling.ensures.row; back = c.filling.ensures.back; whole = c.filling.ensures.whole } in
    still_desk filled d e c.look-region.result c.requires.desk c.learn.ensures.sound
    (is_read d e c.look-region.new.seat.view c.look-region.result c.requires.desk (c.look-region.ensures.found c.if-region-eq0.false) c.learn.ensures.view)
    c.learn.ensures.known c.learn.ensures.room c.learn.ensures.words c.learn.ensures.draft c.learn.ensures.left c.learn.ensures.row
