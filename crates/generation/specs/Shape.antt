-- How a file is cut: into generations of k blocks of equal length (docs/DEFINITIONS.md).
use Rattle.std.specs.Prelude.{ℕ, ◌≡◌, ◌≤◌, ◌*◌, ◌/◌, ◌%◌}
use Rattle.std.specs.Int.{div_ceil}

-- the bytes of the file, the blocks of a generation, and the bytes of a block
pub record Dimensions : Type 0 where
  pub len : ℕ
  pub k : ℕ
  pub block : ℕ

-- the symbols of a block, of two bytes each
abbrev pub symbols_per_block : Dimensions → ℕ
symbols_per_block d = d.block / 2

-- the generations that the file fills, the last one perhaps in part: none where the file is empty
unfoldable pub generations_of : Dimensions → ℕ
generations_of d = div_ceil d.len (d.k * d.block)

-- a generation may have this many blocks
abbrev pub IsBlockCount : ℕ → Type 0
IsBlockCount k = (1 ≤ k) × (k ≤ 64)

-- a block may have this many bytes
abbrev pub IsBlockLength : ℕ → Type 0
IsBlockLength block = (block % 2 ≡ 0) × (2 ≤ block) × (block ≤ 4096)

-- the limits that each shape keeps
pub record IsShape (d : Dimensions) : Type 0 where
  pub k : IsBlockCount d.k
  pub block : IsBlockLength d.block
  pub len : d.len ≤ 16777216
  pub generations : generations_of d ≤ 256
