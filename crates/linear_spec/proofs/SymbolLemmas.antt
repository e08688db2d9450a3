-- Symbols and their bytes determine each other.
use Rattle.std.proofs.Common.{◌≡◌, ℕ, ◌+◌, ◌*◌, ◌/◌, ◌%◌, ◌<◌, ◌^◌, List, [], ◌∷◌, length, refl, arith}
use Rattle.std.proofs.lemmas.List.Elements.{All-nil, All-cons, All-head, All-tail}
use Rattle.linear_spec.specs.Symbols.{AreBytes, AreSymbols, be_bytes_of, symbols_of}

pub symbols_of-be_bytes_of : (symbols : List ℕ) → AreSymbols symbols → symbols_of (be_bytes_of symbols) ≡ symbols
unfolding be_bytes_of symbols_of
symbols_of-be_bytes_of [] fit = refl
symbols_of-be_bytes_of (x ∷ xs) fit =
    let first : x < 2 ^ 16 = All-head (λ symbol. symbol < 2 ^ 16) x xs fit in
    let whole : x / 256 % 256 * 256 + x % 256 ≡ x = omega arith in
    let rest = symbols_of-be_bytes_of xs (All-tail (λ symbol. symbol < 2 ^ 16) x xs fit) in
    cc

pub be_bytes_of-symbols_of : (bytes : List ℕ) → AreBytes bytes → length bytes % 2 ≡ 0 → be_bytes_of (symbols_of bytes) ≡ bytes
unfolding be_bytes_of symbols_of
be_bytes_of-symbols_of [] fit even = refl
be_bytes_of-symbols_of (x ∷ []) fit even = absurd (omega arith)
be_bytes_of-symbols_of (x ∷ y ∷ bytes) fit even =
    let tail = All-tail (λ byte. byte < 2 ^ 8) x (y ∷ bytes) fit in
    let high : x < 2 ^ 8 = All-head (λ byte. byte < 2 ^ 8) x (y ∷ bytes) fit in
    let low : y < 2 ^ 8 = All-head (λ byte. byte < 2 ^ 8) y bytes tail in
    let first : (x * 256 + y) / 256 % 256 ≡ x = omega arith in
    let second : (x * 256 + y) % 256 ≡ y = omega arith in
    let rest = be_bytes_of-symbols_of bytes (All-tail (λ byte. byte < 2 ^ 8) y bytes tail) (omega arith) in
    cc

pub AreSymbols-symbols_of : (bytes : List ℕ) → AreBytes bytes → AreSymbols (symbols_of bytes)
unfolding symbols_of
AreSymbols-symbols_of [] fit = All-nil (λ symbol. symbol < 2 ^ 16)
AreSymbols-symbols_of (x ∷ []) fit = All-nil (λ symbol. symbol < 2 ^ 16)
AreSymbols-symbols_of (x ∷ y ∷ bytes) fit =
    let tail = All-tail (λ byte. byte < 2 ^ 8) x (y ∷ bytes) fit in
    let high : x < 2 ^ 8 = All-head (λ byte. byte < 2 ^ 8) x (y ∷ bytes) fit in
    let low : y < 2 ^ 8 = All-head (λ byte. byte < 2 ^ 8) y bytes tail in
    All-cons (λ symbol. symbol < 2 ^ 16) (x * 256 + y) (symbols_of bytes) (omega arith) (AreSymbols-symbols_of bytes (All-tail (λ byte. byte < 2 ^ 8) y bytes tail))

pub length-be_bytes_of : (symbols : List ℕ) → length (be_bytes_of symbols) ≡ 2 * length symbols
unfolding be_bytes_of
length-be_bytes_of [] = refl
length-be_bytes_of (x ∷ xs) = omega (arith, length-be_bytes_of xs)

pub length-symbols_of : (bytes : List ℕ) → length (symbols_of bytes) ≡ length bytes / 2
unfolding symbols_of
length-symbols_of [] = refl
length-symbols_of (x ∷ []) = refl
length-symbols_of (x ∷ y ∷ bytes) = omega (arith, length-symbols_of bytes)
