use Rattle.std.proofs.Common.{◌≡◌, ◌++◌, take}
use Rattle.std.specs.List.{flat_map}
use Rattle.linear_spec.specs.Symbols.{be_bytes_of}
use Rattle.avalanche_cli.proofs.reception.append_solved.Given as goal

-- the bytes of the blocks so far were appended
abbrev pub invariant-loop-block : goal.invariant-loop-block
invariant-loop-block g l = l.bytes.items ≡ l.fn.bytes.items ++ flat_map be_bytes_of (take l.block-index l.block-items)
