use Rattle.std.proofs.Common.{◌≡◌, take}
use Rattle.gf16.specs.Field.{total_of}
use Rattle.benchmarks.proofs.work.total.Given as goal

-- the symbols so far were added up
abbrev pub invariant-loop-symbol : goal.invariant-loop-symbol
invariant-loop-symbol l = l.sum ≡ total_of (take l.symbol-index l.symbols)
