use Rattle.std.proofs.Common.{◌≡◌, take}
use Rattle.std.specs.List.{flat_map}
use Rattle.linear_spec.specs.Symbols.{be_bytes_of}
use Rattle.generation.proofs.shape.Shape.join_blocks.Given as goal

-- the file so far is that of the blocks so far
abbrev pub invariant-loop-block : goal.invariant-loop-block
invariant-loop-block l =
    l.file.items ≡ take l.len (flat_map be_bytes_of (take l.block-index l.block-items))
