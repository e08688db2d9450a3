-- The blocks of a shape have bytes enough for its file.
use Rattle.std.proofs.Common.{ℕ, ◌≡◌, ◌*◌, ◌<◌, ◌≤◌, List, [], ◌∷◌, length, arith, length-append}
use Rattle.std.proofs.Math.Nat.{mul_assoc}
use Rattle.std.specs.List.{All, flat_map}
use Rattle.std.proofs.lemmas.Grind.{div_ceil_times}
use Rattle.std.proofs.lemmas.List.{length-take-le}
use Rattle.std.proofs.lemmas.List.Elements.{All-head, All-tail}
use Rattle.linear_spec.specs.SymbolLaws.{SymbolLaws}
use Rattle.linear_spec.specs.Symbols.{IsVector, be_bytes_of}
use Rattle.generation.specs.Shape.{Dimensions, IsShape, generations_of, symbols_per_block}
use Rattle.generation.specs.Blocks.{AreBlocks, file_of}

-- the generations hold the file
pub len-le-blocks : (d : Dimensions) → IsShape d → d.len ≤ generations_of d * d.k * d.block
unfolding generations_of
len-le-blocks d shape =
    let room : 0 < d.k * d.block = grind arith in
    let enough = div_ceil_times d.len (d.k * d.block) room in
    rw (mul_assoc (generations_of d) d.k d.block) enough.0

module _ (laws : SymbolLaws) where
  -- the bytes of vectors of s symbols
  length-flat_map-be_bytes_of : (s : ℕ) (vectors : List (List ℕ)) → All (IsVector s) vectors → length (flat_map be_bytes_of vectors) ≡ length vectors * (2 * s)
  length-flat_map-be_bytes_of s [] all = omega arith
  length-flat_map-be_bytes_of s (v ∷ vs) all =
      let first = All-head (IsVector s) v vs all in
      omega (arith, length-append (be_bytes_of v) (flat_map be_bytes_of vs), laws.length v, first.count, length-flat_map-be_bytes_of s vs (All-tail (IsVector s) v vs all))

  -- the bytes of a shape's blocks
  pub length-block_bytes : (d : Dimensions) (blocks : List (List ℕ)) → IsShape d → AreBlocks d blocks → length (flat_map be_bytes_of blocks) ≡ generations_of d * d.k * d.block
  length-block_bytes d blocks shape are =
      let even : 2 * symbols_per_block d ≡ d.block = omega arith in
      let whole = length-flat_map-be_bytes_of (symbols_per_block d) blocks are.vectors in
      rw (are.count, even) at whole

  pub length-file_of : (d : Dimensions) (blocks : List (List ℕ)) → IsShape d → AreBlocks d blocks → length (file_of d blocks) ≡ d.len
  unfolding file_of
  length-file_of d blocks shape are =
      length-take-le d.len (flat_map be_bytes_of blocks) (omega (arith, len-le-blocks d shape, length-block_bytes d blocks shape are))
