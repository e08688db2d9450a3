use Rattle.std.proofs.Common.{◌≡◌, length}
use Rattle.std.specs.List.{All}
use Rattle.linear_spec.specs.Symbols.{IsVector}
use Rattle.digest_file.proofs.tests.blocks_of_one_symbol.Given as goal

abbrev pub invariant-loop-symbol : goal.invariant-loop-symbol
invariant-loop-symbol l = record {
  count : length l.blocks.items ≡ l.symbol-index;
  vectors : All (IsVector 1) l.blocks.items;
}
