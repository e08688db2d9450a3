-- The blocks of a file.
use Rattle.std.proofs.Common.{ℕ, ◌≡◌, ◌*◌, ◌-◌, ◌%◌, ◌<◌, ◌^◌, List, Result, Ok, Err, IfOk, length, take, drop, min, ap, ◌∙◌, arith}
use Rattle.std.proofs.lemmas.List.{drop_min, take_rest}
use Rattle.std.proofs.lemmas.List.Elements.{All-drop}
use Rattle.linear_spec.specs.SymbolLaws.{SymbolLaws}
use Rattle.linear_spec.specs.Symbols.{AreBytes, AreSymbols, IsVector, be_bytes_of, symbols_of}
use Rattle.generation.specs.Shape.{Dimensions, IsShape, symbols_per_block}
use Rattle.generation.specs.Blocks.{block_at, zero_padded}
use Rattle.generation.proofs.PaddingLemmas.{AreBytes-zero_padded, length-zero_padded}

-- a vector that was read, by its count and its symbols
pub IfOk-vector : {E : Type 0} (n : ℕ) (r : Result (List ℕ) E) → IfOk r (λ v. length v ≡ n) → IfOk r AreSymbols → IfOk r (IsVector n)
IfOk-vector n (Ok v) count symbols = record { count = count; symbols = symbols }
IfOk-vector n (Err e) count symbols = tt

-- the bytes from a place on that is at most the file's end
pub block_at-from : (d : Dimensions) (file bytes : List ℕ) (n start : ℕ) → start ≡ min (n * d.block) (length file) → bytes ≡ zero_padded d.block (take (length file - start) (drop start file)) → symbols_of bytes ≡ block_at d file n
unfolding block_at
block_at-from d file bytes n start is_start is_bytes =
    let rest = take_rest file start in
    let from_place = drop_min (n * d.block) file in
    cc

module _ (d : Dimensions) (shape : IsShape d) (file : List ℕ) (are : AreBytes file) where
  -- the bytes of block n are bytes
  AreBytes-piece : (n : ℕ) → AreBytes (zero_padded d.block (drop (n * d.block) file))
  AreBytes-piece n = AreBytes-zero_padded d.block _ (All-drop (λ byte. byte < 2 ^ 8) (n * d.block) file are)

  even-piece : (n : ℕ) → length (zero_padded d.block (drop (n * d.block) file)) % 2 ≡ 0
  even-piece n = rw (length-zero_padded d.block (drop (n * d.block) file)) shape.block.0

  pub be_bytes_of-block_at : SymbolLaws → (n : ℕ) → be_bytes_of (block_at d file n) ≡ zero_padded d.block (drop (n * d.block) file)
  unfolding block_at
  be_bytes_of-block_at laws n = laws.bytes _ (AreBytes-piece n) (even-piece n)

  pub IsVector-block_at : SymbolLaws → (n : ℕ) → IsVector (symbols_per_block d) (block_at d file n)
  unfolding block_at
  IsVector-block_at laws n =
      let piece = zero_padded d.block (drop (n * d.block) file) in
      let whole = ap length (be_bytes_of-block_at laws n) ∙ length-zero_padded d.block (drop (n * d.block) file) in
      record { count = omega (arith, laws.length (symbols_of piece), whole); symbols = laws.are_symbols piece (AreBytes-piece n) }
