-- The laws of symbols and their bytes.
use Rattle.std.specs.Prelude.{◌≡◌, ◌*◌, ◌%◌, ℕ, List, length}
use Rattle.linear_spec.specs.Symbols.{AreBytes, AreSymbols, be_bytes_of, symbols_of}

-- symbols and their bytes determine each other
pub record SymbolLaws : Type 0 where
  -- the bytes of symbols spell these symbols
  pub symbols : (symbols : List ℕ) → AreSymbols symbols → symbols_of (be_bytes_of symbols) ≡ symbols
  -- an even number of bytes is that of the symbols they spell
  pub bytes : (bytes : List ℕ) → AreBytes bytes → length bytes % 2 ≡ 0 → be_bytes_of (symbols_of bytes) ≡ bytes
  -- bytes spell symbols
  pub are_symbols : (bytes : List ℕ) → AreBytes bytes → AreSymbols (symbols_of bytes)
  -- two bytes a symbol
  pub length : (symbols : List ℕ) → length (be_bytes_of symbols) ≡ 2 * length symbols
