use Rattle.std.proofs.Common.{◌<◌, length, set, ap, ◌∙◌, arith}
use Rattle.gf16.proofs.Scaled.{scaled_more}
use Rattle.gf16.proofs.kernel.scale.Goals as goal

pub loop-symbol-preserved : goal.loop-symbol-preserved
loop-symbol-preserved c =
    let within : c.loop-symbol.symbol-index < length c.args.dst.now = omega arith in
    ap (set c.loop-symbol.dst c.loop-symbol.symbol-index) c.mul.ensures
    ∙ scaled_more c.args.factor.0 c.loop-symbol.symbol-index c.args.dst.now c.loop-symbol.dst within c.loop-symbol.invariant
