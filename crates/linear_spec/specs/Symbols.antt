-- Symbols of the field and their bytes: two bytes each, the high one first (docs/FORMATS.md).
use Rattle.std.specs.Prelude.{ℕ, ◌≡◌, ◌<◌, ◌^◌, ◌+◌, ◌*◌, List, [], ◌∷◌, length}
use Rattle.std.specs.List.{All, flat_map}
use Rattle.std.specs.Int.{w16, to_be_bytes}
use Rattle.gf16.specs.Field.{IsSymbol}

-- each number is a byte
abbrev pub AreBytes : List ℕ → Type 0
AreBytes bytes = All (λ byte. byte < 2 ^ 8) bytes

-- each number is a symbol
abbrev pub AreSymbols : List ℕ → Type 0
AreSymbols symbols = All IsSymbol symbols

-- the bytes of symbols
unfoldable pub be_bytes_of : List ℕ → List ℕ
be_bytes_of symbols = flat_map (to_be_bytes w16) symbols

-- the symbols that bytes spell; a last odd byte spells none
unfoldable pub symbols_of : List ℕ → List ℕ
symbols_of [] = []
symbols_of (last ∷ []) = []
symbols_of (high ∷ low ∷ bytes) = (high * 256 + low) ∷ symbols_of bytes

-- a vector of n symbols
pub record IsVector (n : ℕ) (vector : List ℕ) : Type 0 where
  pub count : length vector ≡ n
  pub symbols : AreSymbols vector
