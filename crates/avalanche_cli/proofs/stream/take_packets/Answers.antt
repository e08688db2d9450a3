use Rattle.std.proofs.Common.{List, [], ◌∷◌, length, reverse, sym, subst, ap, ◌∙◌, arith, length-append}
use Rattle.linear_spec.specs.declared.packet.Packet.{Packet}
use Rattle.packet_wire.specs.declared.frame.Frame.{Frame}
use Rattle.avalanche_cli.proofs.FrameLemmas.{IsTakenFrom, all_apart, is_packet, none_taken, reversed, take_more, taken_off}
use Rattle.avalanche_cli.proofs.stream.take_packets.Goals as goal

pub loop-packets-init : goal.loop-packets-init
loop-packets-init c = record {
  taken = none_taken c.requires.0 _ _ c.requires.1 (c.in_ok-reserve.ensures.items ∙ c.new-packets.ensures);
  room = omega (arith, c.in_ok-reserve.ensures.room, c.len.ensures);
}

pub packet_of-requires : goal.packet_of-requires
packet_of-requires c =
    is_packet _ _ c.pop.new.self.items c.loop-packets.packets.items c.unwrap.result c.loop-packets.invariant.taken (omega (arith, c.loop-packets-test.true, c.len-in-loop-packets.ensures))
    (taken_off _ _ c.pop.result c.unwrap.result c.pop.ensures.items c.unwrap.ensures)

pub put-requires : goal.put-requires
put-requires c = omega (arith, c.loop-packets.invariant.room, c.loop-packets-test.true, c.len-in-loop-packets.ensures)

pub loop-packets-preserved : goal.loop-packets-preserved
loop-packets-preserved c =
    let off = taken_off _ _ c.pop.result c.unwrap.result c.pop.ensures.items c.unwrap.ensures in
    let counted = ap (λ (l : List Frame). length l) off in
    let two = length-append c.pop.new.self.items (c.unwrap.result ∷ []) in
    record {
      taken = subst (λ (l : List Packet). IsTakenFrom c.args.frames.now.items c.pop.new.self.items l) (sym c.put.ensures.items)
          (take_more _ _ _ c.loop-packets.packets.items c.unwrap.result c.packet_of.result c.loop-packets.invariant.taken (omega (arith, c.loop-packets-test.true, c.len-in-loop-packets.ensures)) off c.packet_of.ensures);
      room = omega (arith, c.loop-packets.invariant.room, c.put.ensures.spare, counted, two);
    }

pub returns : goal.returns
returns c =
    all_apart _ _ c.loop-packets.packets.items _ c.loop-packets.invariant.taken (omega (arith, c.loop-packets-test.false, c.len-in-loop-packets.ensures)) (reversed c.loop-packets.packets.items c.reverse.new.self (c.reverse.ensures.after ∙ ap reverse c.as_mut_slice.ensures.value))
