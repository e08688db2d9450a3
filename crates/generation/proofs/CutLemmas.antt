-- Cutting a file into blocks and joining them give each other back.
use Rattle.std.proofs.Common.{ℕ, zero, suc, ◌≡◌, ◌+◌, ◌-◌, ◌*◌, ◌<◌, List, [], ◌∷◌, ◌++◌, Some, length, take, drop, map, replicate, get_or, slice_get, refl, ap, sym, ◌∙◌, arith}
use Rattle.std.proofs.Math.Nat.{zero-mul}
use Rattle.std.specs.List.{All, flat_map, range_with_len}
use Rattle.std.proofs.lemmas.List.{drop-drop, drop_at, take_all, take_at}
use Rattle.std.proofs.lemmas.List.Elements.{All-head, All-map, All-replicate, All-same, All-tail}
use Rattle.std.proofs.lemmas.List.FromFn.{get_or-map-range_with_len, length-map-range_with_len}
use Rattle.std.proofs.lemmas.Nat.{mul-add-lt}
use Rattle.std.proofs.lemmas.Option.{slice_get-get_or}
use Rattle.linear_spec.specs.SymbolLaws.{SymbolLaws}
use Rattle.linear_spec.specs.Symbols.{IsVector, be_bytes_of, symbols_of}
use Rattle.generation.specs.Shape.{Dimensions, IsShape, generations_of, symbols_per_block}
use Rattle.generation.specs.Blocks.{AreBlocks, AreZeroPadded, IsFile, block_at, block_of, blocks_of, file_of, zero_padded}
use Rattle.generation.proofs.BlockLemmas.{IsVector-block_at, be_bytes_of-block_at}
use Rattle.generation.proofs.FileLemmas.{len-le-blocks, length-block_bytes}
use Rattle.generation.proofs.PaddingLemmas.{length-zero_padded, zero_padded-add, zero_padded-split, zero_padded-take}

-- padding one block further
zero_padded-next : (block m s : ℕ) (file : List ℕ) → zero_padded (suc m * block) (drop (s * block) file) ≡ zero_padded block (drop (s * block) file) ++ zero_padded (m * block) (drop ((s + 1) * block) file)
zero_padded-next block m s file =
    let whole : suc m * block ≡ block + m * block = omega arith in
    let parts = zero_padded-add block (m * block) (drop (s * block) file) in
    let further = drop-drop block (s * block) file in
    let place : s * block + block ≡ (s + 1) * block = omega arith in
    cc

zero_padded-zero : (block : ℕ) (bytes : List ℕ) → zero_padded (0 * block) bytes ≡ []
unfolding zero_padded
zero_padded-zero block bytes = rw (zero-mul block) refl

module _ (d : Dimensions) (shape : IsShape d) where
  -- the bytes of m blocks from block s on
  flat_map-blocks : SymbolLaws → (file : List ℕ) → IsFile d file → (s m : ℕ) → flat_map be_bytes_of (map (block_at d file) (range_with_len s m)) ≡ zero_padded (m * d.block) (drop (s * d.block) file)
  flat_map-blocks laws file is s zero = sym (zero_padded-zero d.block (drop (s * d.block) file))
  flat_map-blocks laws file is s (suc m) =
      let first = be_bytes_of-block_at d shape file is.bytes laws s in
      let rest = flat_map-blocks laws file is (s + 1) m in
      let next = zero_padded-next d.block m s file in
      cc

  -- the bytes of all blocks of a file are the file and zeros
  flat_map-blocks_of : SymbolLaws → (file : List ℕ) → IsFile d file → flat_map be_bytes_of (blocks_of d file) ≡ file ++ replicate (generations_of d * d.k * d.block - length file) 0
  unfolding blocks_of
  flat_map-blocks_of laws file is =
      let count = generations_of d * d.k in
      let all = flat_map-blocks laws file is 0 count in
      let split = zero_padded-split (count * d.block) file in
      let whole = take_all (count * d.block) file (omega (arith, len-le-blocks d shape, is.len)) in
      rw (zero-mul d.block) at all ∙ split ∙ ap (λ there. there ++ replicate (count * d.block - length file) 0) whole

  pub file_of-blocks_of : SymbolLaws → (file : List ℕ) → IsFile d file → file_of d (blocks_of d file) ≡ file
  unfolding file_of
  file_of-blocks_of laws file is =
      ap (take d.len) (flat_map-blocks_of laws file is) ∙ take_at file (replicate (generations_of d * d.k * d.block - length file) 0) d.len is.len

  pub AreZeroPadded-blocks_of : SymbolLaws → (file : List ℕ) → IsFile d file → AreZeroPadded d (blocks_of d file)
  AreZeroPadded-blocks_of laws file is =
      let zeros = replicate (generations_of d * d.k * d.block - length file) 0 in
      let P : ℕ → Type 0 = λ byte. byte ≡ 0 in
      All-same P _ zeros (ap (drop d.len) (flat_map-blocks_of laws file is) ∙ drop_at file zeros d.len is.len) (All-replicate P _ 0 refl)

  pub AreBlocks-blocks_of : SymbolLaws → (file : List ℕ) → IsFile d file → AreBlocks d (blocks_of d file)
  unfolding blocks_of
  AreBlocks-blocks_of laws file is =
      let count = generations_of d * d.k in
      record {
        count = length-map-range_with_len (block_at d file) 0 count;
        vectors = All-map (IsVector (symbols_per_block d)) (block_at d file) (range_with_len 0 count) (λ k e below. IsVector-block_at d shape file is.bytes laws (get_or (range_with_len 0 count) k e));
      }

  -- blocks whose bytes are those of the file from block s on, with zeros past its end
  same_blocks : SymbolLaws → (file : List ℕ) (s : ℕ) (blocks : List (List ℕ)) → All (IsVector (symbols_per_block d)) blocks → flat_map be_bytes_of blocks ≡ zero_padded (length blocks * d.block) (drop (s * d.block) file) → map (block_at d file) (range_with_len s (length blocks)) ≡ blocks
  unfolding block_at
  same_blocks laws file s [] are same = refl
  same_blocks laws file s (b ∷ bs) are same =
      let vector = All-head (IsVector (symbols_per_block d)) b bs are in
      let long : length (be_bytes_of b) ≡ d.block = omega (arith, laws.length b, vector.count, shape.block.0) in
      let here = zero_padded d.block (drop (s * d.block) file) in
      let after = zero_padded (length bs * d.block) (drop ((s + 1) * d.block) file) in
      let joined : be_bytes_of b ++ flat_map be_bytes_of bs ≡ here ++ after = same ∙ zero_padded-next d.block (length bs) s file in
      let long_here = length-zero_padded d.block (drop (s * d.block) file) in
      let first : be_bytes_of b ≡ here = sym (take_at (be_bytes_of b) (flat_map be_bytes_of bs) d.block long) ∙ ap (take d.block) joined ∙ take_at here after d.block long_here in
      let others : flat_map be_bytes_of bs ≡ after = sym (drop_at (be_bytes_of b) (flat_map be_bytes_of bs) d.block long) ∙ ap (drop d.block) joined ∙ drop_at here after d.block long_here in
      let rest = same_blocks laws file (s + 1) bs (All-tail (IsVector (symbols_per_block d)) b bs are) others in
      let read : symbols_of here ≡ b = ap symbols_of (sym first) ∙ laws.symbols b vector.symbols in
      cc

  pub blocks_of-file_of : SymbolLaws → (blocks : List (List ℕ)) → AreBlocks d blocks → AreZeroPadded d blocks → blocks_of d (file_of d blocks) ≡ blocks
  unfolding blocks_of file_of
  blocks_of-file_of laws blocks are padded =
      let bytes = flat_map be_bytes_of blocks in
      let whole : length bytes ≡ length blocks * d.block = rw are.count (length-block_bytes laws d blocks shape are) in
      let padding = zero_padded-take (length blocks * d.block) d.len bytes whole padded in
      let same : bytes ≡ zero_padded (length blocks * d.block) (drop (0 * d.block) (take d.len bytes)) = rw (zero-mul d.block) (sym padding) in
      rw (← are.count) (same_blocks laws (take d.len bytes) 0 blocks are.vectors same)

-- the blocks stand in order
pub slice_get-blocks_of : (d : Dimensions) (file : List ℕ) (g i : ℕ) → g < generations_of d → i < d.k → slice_get (blocks_of d file) (g * d.k + i) ≡ Some (block_of d file g i)
unfolding blocks_of
slice_get-blocks_of d file g i is_generation is_block =
    let count = generations_of d * d.k in
    let place = g * d.k + i in
    let below : place < count = omega (arith, mul-add-lt g d.k i (generations_of d) is_generation is_block) in
    let read = slice_get-get_or (map (block_at d file) (range_with_len 0 count)) place [] (omega (arith, length-map-range_with_len (block_at d file) 0 count)) in
    read ∙ ap Some (get_or-map-range_with_len (block_at d file) 0 count place place [] below (omega arith))
