use Rattle.std.proofs.Common.{◌<◌, length, get_or, ap, ◌∙◌, arith}
use Rattle.gf16.specs.Field.{sum_of, product_of}
use Rattle.gf16.proofs.DotLemmas.{dot_more}
use Rattle.gf16.proofs.kernel.dot.Goals as goal

pub loop-i-preserved : goal.loop-i-preserved
loop-i-preserved c =
    let product = product_of (get_or c.args.a.now c.loop-i.i 0) (get_or c.args.b.now c.loop-i.i 0) in
    let within : c.loop-i.i < length c.args.a.now = omega arith in
    let there : c.loop-i.i < length c.args.b.now = omega arith in
    c.add-sum.ensures
    ∙ ap (sum_of c.loop-i.sum.0) c.mul.ensures
    ∙ ap (λ sum. sum_of sum product) c.loop-i.invariant
    ∙ dot_more c.loop-i.i c.args.a.now c.args.b.now within there
