use Rattle.std.proofs.Common.{◌≡◌, ◌*◌, take}
use Rattle.linear_spec.specs.Symbols.{be_bytes_of}
use Rattle.digest_file.proofs.feed.spell.Given as goal

-- the symbols so far are spelled
abbrev pub invariant-loop-i : goal.invariant-loop-i
invariant-loop-i l = take (2 * l.i) l.bytes ≡ be_bytes_of (take l.i l.piece)
