use Rattle.std.proofs.Common.{◌<◌, length, get_or, set, ap, ◌∙◌, arith}
use Rattle.gf16.specs.Field.{sum_of}
use Rattle.gf16.proofs.PlusScaled.{plus_scaled-none, plus_scaled_more}
use Rattle.gf16.proofs.kernel.add_scaled.Goals as goal

pub loop-i-init : goal.loop-i-init
loop-i-init c = plus_scaled-none c.args.factor.0 c.args.dst.now c.args.src.now

pub loop-i-preserved : goal.loop-i-preserved
loop-i-preserved c =
    let within : c.loop-i.i < length c.args.dst.now = omega arith in
    let there : c.loop-i.i < length c.args.src.now = omega arith in
    ap (set c.loop-i.dst c.loop-i.i) (c.add.ensures ∙ ap (sum_of (get_or c.loop-i.dst c.loop-i.i 0)) c.mul.ensures)
    ∙ plus_scaled_more c.args.factor.0 c.loop-i.i c.args.dst.now c.args.src.now c.loop-i.dst within there c.loop-i.invariant
