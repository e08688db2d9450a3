use Rattle.std.proofs.Common.{◌∙◌, length, ap}
use Rattle.gf16.specs.Field.{total_of}
use Rattle.benchmarks.proofs.Sums.{total_zeros}
use Rattle.benchmarks.proofs.zeros.overwritten_sum.Goals as goal

pub returns : goal.returns
returns c = c.total.ensures ∙ ap total_of c.overwrite.ensures ∙ total_zeros (length c.args.symbols.now)
