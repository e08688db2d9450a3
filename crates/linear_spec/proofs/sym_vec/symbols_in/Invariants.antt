use Rattle.std.proofs.Common.{◌≡◌, ◌++◌, length}
use Rattle.linear_spec.specs.Symbols.{symbols_of}
use Rattle.linear_spec.proofs.sym_vec.symbols_in.Given as goal

-- the symbols so far and those of the rest are all
abbrev pub invariant-loop-rest : goal.invariant-loop-rest
invariant-loop-rest l = l.symbols.items ++ symbols_of l.rest ≡ symbols_of l.bytes

abbrev pub decreases-loop-rest : goal.decreases-loop-rest
decreases-loop-rest l = length l.rest
