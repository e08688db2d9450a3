use Rattle.std.proofs.Common.{arith}
use Rattle.shared_reception.proofs.Senders.{drawn_more}
use Rattle.shared_reception.proofs.drawing.draw_all.Goals as goal

pub loop-place-preserved : goal.loop-place-preserved
loop-place-preserved c =
    let p = c.args.basis.now.parameters in record {
      drawn = drawn_more p.k p.s c.args.sending.now p.generation _ c.loop-place.place c.args.sender.now c.loop-place.sender c.draw_one.new.sender
          c.in_ok-draw_one.field-0 c.loop-place.sent.items c.push.new.self.items c.loop-place.invariant.drawn c.in_ok-draw_one.ensures.sees c.in_ok-draw_one.ensures.drawn
          c.in_ok-draw_one.ensures.call c.in_ok-draw_one.ensures.generation c.in_ok-draw_one.ensures.number c.in_ok-draw_one.ensures.packet c.in_ok-push.ensures.ok;
      room = let called = c.in_ok-draw_one.ensures.call in let before = c.loop-place.invariant.room in omega arith;
    }
