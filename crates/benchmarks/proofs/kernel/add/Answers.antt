use Rattle.std.proofs.Common.{◌<◌, length, arith}
use Rattle.benchmarks.proofs.Sums.{sums_of-none, sums_of_more}
use Rattle.benchmarks.proofs.kernel.add.Goals as goal

pub loop-i-init : goal.loop-i-init
loop-i-init c = sums_of-none c.args.dst.now c.args.src.now

pub loop-i-preserved : goal.loop-i-preserved
loop-i-preserved c =
    let within : c.loop-i.i < length c.args.dst.now = omega arith in
    let there : c.loop-i.i < length c.args.src.now = omega arith in
    sums_of_more c.loop-i.i c.args.dst.now c.args.src.now c.loop-i.dst within there c.loop-i.invariant
