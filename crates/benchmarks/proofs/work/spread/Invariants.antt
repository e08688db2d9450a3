use Rattle.std.proofs.Common.{◌≡◌, length}
use Rattle.benchmarks.specs.Turns.{spread_symbols}
use Rattle.benchmarks.proofs.work.spread.Given as goal

-- the places so far have their symbols
abbrev pub invariant-loop-place : goal.invariant-loop-place
invariant-loop-place l = record {
  symbols : l.symbols.items ≡ spread_symbols l.factor l.place;
  len : length l.symbols.items ≡ l.place;
}
