-- The blocks of a file, and the file of its blocks (docs/DEFINITIONS.md).
use Rattle.std.specs.Prelude.{ℕ, ◌≡◌, ◌+◌, ◌*◌, List, ◌++◌, length, take, drop, map, replicate}
use Rattle.std.specs.List.{All, flat_map, range_with_len}
use Rattle.linear_spec.specs.Symbols.{AreBytes, IsVector, be_bytes_of, symbols_of}
use Rattle.generation.specs.Shape.{Dimensions, generations_of, symbols_per_block}

-- the first n bytes, with zeros for those that there are not
unfoldable pub zero_padded : ℕ → List ℕ → List ℕ
zero_padded n bytes = take n (bytes ++ replicate n 0)

-- block number n of the file, counted over all generations: its bytes, zero past the end of the file, as symbols
unfoldable pub block_at : Dimensions → List ℕ → ℕ → List ℕ
block_at d file n = symbols_of (zero_padded d.block (drop (n * d.block) file))

-- block i of generation g
abbrev pub block_of : Dimensions → List ℕ → ℕ → ℕ → List ℕ
block_of d file g i = block_at d file (g * d.k + i)

-- the blocks of all generations in order
unfoldable pub blocks_of : Dimensions → List ℕ → List (List ℕ)
blocks_of d file = map (block_at d file) (range_with_len 0 (generations_of d * d.k))

-- a file of the shape: as many bytes as it has
pub record IsFile (d : Dimensions) (file : List ℕ) : Type 0 where
  pub len : length file ≡ d.len
  pub bytes : AreBytes file

-- as many vectors as all generations have blocks, each of a block's symbols
pub record AreBlocks (d : Dimensions) (blocks : List (List ℕ)) : Type 0 where
  pub count : length blocks ≡ generations_of d * d.k
  pub vectors : All (IsVector (symbols_per_block d)) blocks

-- the file of blocks: their bytes in order, cut to its length
unfoldable pub file_of : Dimensions → List (List ℕ) → List ℕ
file_of d blocks = take d.len (flat_map be_bytes_of blocks)

-- the bytes of the blocks past the end of their file are zero
abbrev pub AreZeroPadded : Dimensions → List (List ℕ) → Type 0
AreZeroPadded d blocks = All (λ byte. byte ≡ 0) (drop d.len (flat_map be_bytes_of blocks))
