use Rattle.std.proofs.Common.{◌≡◌, ◌<◌, length, replicate}
use Rattle.benchmarks.proofs.zeros.overwrite.Given as goal

-- after the first turn all symbols are zeros
abbrev pub invariant-loop-turn : goal.invariant-loop-turn
invariant-loop-turn l = record {
  len : length l.symbols ≡ length l.fn.symbols;
  zeros : 0 < l._turn → l.symbols ≡ replicate (length l.fn.symbols) 0;
}
