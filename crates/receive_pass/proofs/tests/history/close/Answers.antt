use Rattle.std.proofs.Common.{arith}
use Rattle.receive_pass.proofs.Made.{all_passes, popped_last}
use Rattle.receive_pass.proofs.tests.history.close.Goals as goal

pub close-requires : goal.close-requires
close-requires c =
    let counted = c.len.ensures in
    let eight = c.if-len-ne8.false in
    all_passes c.args.bases.items c.pop.new.self.items c.in_ok-basis.basis c.args.passes.items 8 c.requires.one
    (popped_last c.args.bases.items c.pop.new.self.items c.pop.result c.in_ok-basis.basis c.pop.ensures.items c.in_ok-basis.ensures.ok_part)
    c.requires.count c.requires.passes (omega arith)
