use Rattle.std.proofs.Common.{refl, arith}
use Rattle.shared_reception.proofs.Dealt.{dealt_more}
use Rattle.shared_reception.proofs.Lists.{popped_next}
use Rattle.shared_reception.proofs.dealing.deal_out.Goals as goal

pub loop-tag-preserved : goal.loop-tag-preserved
loop-tag-preserved c =
    let packets = c.args.packets.items in
    let tag = c.loop-tag.tag in
    let packet = c.unwrap-packet.result in
    let next = popped_next packets c.loop-tag.packets.items c.pop.new.self.items tag c.pop.result packet packet c.loop-tag.invariant.left c.pop.ensures.items c.unwrap-packet.ensures in
    record {
      left = next.0;
      dealt = dealt_more c.args.receivers tag packets packet c.loop-tag.workers _ c.index-workers-receiver.result c.requires.some (omega arith) c.loop-tag.invariant.dealt next.2 next.1 c.in_ok-push.ensures.ok refl;
    }
