use Rattle.std.proofs.Common.{◌≡◌, ◌-◌, take, length}
use Rattle.std.specs.List.{flat_map}
use Rattle.sha2.specs.Hashers.{Holds256}
use Rattle.linear_spec.specs.Symbols.{be_bytes_of}
use Rattle.digest_file.proofs.check.digest_of_blocks.Given as goal

-- the bytes of the blocks so far were fed, and this is what is left of the file's length
abbrev pub invariant-loop-block : goal.invariant-loop-block
invariant-loop-block l = record {
  fed : Holds256 l.hasher (take l.len (flat_map be_bytes_of (take l.block-index l.blocks)));
  left : l.left ≡ l.len - length (flat_map be_bytes_of (take l.block-index l.blocks));
}
