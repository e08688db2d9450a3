use Rattle.std.proofs.Common.{◌≡◌, map}
use Rattle.std.specs.List.{All, range_with_len}
use Rattle.linear_spec.specs.Symbols.{IsVector}
use Rattle.generation.specs.Shape.{symbols_per_block}
use Rattle.generation.specs.Blocks.{block_of}
use Rattle.src_check.proofs.ticket.generation_blocks.Given as goal

-- the blocks so far
abbrev pub invariant-loop-i : goal.invariant-loop-i
invariant-loop-i l = record {
  blocks : l.blocks.items ≡ map (block_of l.shape l.file l.g) (range_with_len 0 l.i);
  vectors : All (IsVector (symbols_per_block l.shape)) l.blocks.items;
}
