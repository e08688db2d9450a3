use Rattle.std.proofs.Common.{◌<◌, [], ◌∷◌, ◌++◌, length, arith}
use Rattle.shared_basis.proofs.RivalLemmas.{found_more, found_none, found_others, known_more, settled_after}
use Rattle.shared_basis.proofs.offering.race.Goals as goal

pub loop-reply-init : goal.loop-reply-init
loop-reply-init c = record {
  desk = c.requires.desk;
  seat = c.requires.seat;
  found = ([], found_none c.args.desk.now.seat.view);
  left = c.requires.left;
}

pub attempt-requires-clause-number : goal.attempt-requires-clause-number
attempt-requires-clause-number c = let found = c.loop-reply.invariant.found.1.number in (cc c.requires.number)

pub returns-in-Some-clause-view : goal.returns-in-Some-clause-view
returns-in-Some-clause-view c =
    let more = c.loop-reply.invariant.found.0 in
    let found = c.loop-reply.invariant.found.1 in
    let v = c.args.desk.now.seat.view in
    let u = c.loop-reply.desk.seat.view in
    settled_after c.args.call c.args.packet.now c.in-Some.reply more v u c.attempt.new.desk.seat.view found
    (found_others more v u c.requires.desk.sound c.requires.desk.whole c.loop-reply.invariant.desk.sound c.loop-reply.invariant.desk.whole found)
    c.in-Some.ensures.settled

pub loop-reply-smaller : goal.loop-reply-smaller
loop-reply-smaller c =
    let lost = c.in_default.ensures.lost in
    let more = known_more c.loop-reply.desk c.attempt.new.desk lost.0 c.loop-reply.invariant.desk c.attempt.ensures.desk lost.1 in
    let room : length c.loop-reply.desk.known.items < c.args.table.now.parameters.k = c.in_default.ensures.room in
    omega arith

pub loop-reply-preserved : goal.loop-reply-preserved
loop-reply-preserved c =
    let before = c.loop-reply.invariant.found in
    let lost = c.in_default.ensures.lost in
    record {
      desk = c.attempt.ensures.desk;
      seat = c.attempt.ensures.seat;
      found = (
        before.0 ++ lost.0 ∷ [],
        found_more before.0 (lost.0 ∷ []) c.args.desk.now.seat.view c.loop-reply.desk.seat.view c.attempt.new.desk.seat.view before.1 lost.1,
      );
      left = lost.2;
    }
