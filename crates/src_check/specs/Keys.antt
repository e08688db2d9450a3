-- The keys of random words (docs/FORMATS.md): 32 bytes, which begin with numbers of 8 bytes, the high byte first.
use Rattle.std.specs.Prelude.{ℕ, List, ◌++◌, replicate}
use Rattle.std.specs.Int.{w64, to_be_bytes}

-- the key of a number: 8 bytes of it, filled up with zeros
abbrev pub key_of_number : ℕ → List ℕ
key_of_number number = to_be_bytes w64 number ++ replicate 24 0

-- the key of a number and a peer, from which the peer's ticket is made: 8 bytes of each, filled up with zeros
abbrev pub key_of_ticket : ℕ → ℕ → List ℕ
key_of_ticket number peer = to_be_bytes w64 number ++ (to_be_bytes w64 peer ++ replicate 16 0)
