use Rattle.std.proofs.Common.{ℕ, ◌*◌, List, ◌++◌, take}
use Rattle.sha2.specs.Hashers.{Holds256}
use Rattle.linear_spec.specs.Symbols.{be_bytes_of}
use Rattle.digest_file.proofs.feed.feed.Given as goal

-- the bytes of the pieces so far were added
abbrev pub invariant-loop-number : goal.invariant-loop-number
invariant-loop-number l = (message : List ℕ) → Holds256 l.fn.hasher message
    → Holds256 l.hasher (message ++ take l.limit (be_bytes_of (take (32 * l.number) l.symbols)))
