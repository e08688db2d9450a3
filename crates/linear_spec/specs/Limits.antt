-- The limits of the product (docs/FORMATS.md), as definitions name them.
use Rattle.std.specs.Prelude.{ℕ}

-- K, the blocks of a generation
abbrev pub most_blocks : ℕ
most_blocks = 64

-- the bytes of a block
abbrev pub most_block_bytes : ℕ
most_block_bytes = 4096

-- G, the generations of a file
abbrev pub most_generations : ℕ
most_generations = 256

-- the bytes of a file
abbrev pub most_file_bytes : ℕ
most_file_bytes = 16777216

-- T, the checks of a ticket
abbrev pub most_checks : ℕ
most_checks = 8

-- the bytes of a stream that is read whole
abbrev pub most_stream_bytes : ℕ
most_stream_bytes = 67108864
