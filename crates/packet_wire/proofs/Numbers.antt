-- Numbers of a list of bytes, and the bytes of numbers.
use Rattle.std.proofs.Common.{◌≡◌, ℕ, ◌+◌, ◌*◌, ◌/◌, ◌%◌, ◌<◌, ◌≤◌, ◌^◌, List, [], ◌∷◌, ◌++◌, length, get_or, drop, refl, ap, sym, ◌∙◌, arith}
use Rattle.std.specs.Int.{w16, w32, w64, to_be_bytes}
use Rattle.std.proofs.lemmas.List.{drop_more}
use Rattle.std.proofs.lemmas.List.Elements.{All-get_or}
use Rattle.linear_spec.specs.Symbols.{AreBytes}
use Rattle.packet_wire.specs.Judgements.{number16_at, number32_at, number64_at}

-- ---- what is read at a place spells the bytes there

cell_below : (s : List ℕ) (i : ℕ) → AreBytes s → i < length s → get_or s i 0 < 256
cell_below s i bytes there = All-get_or (λ byte. byte < 2 ^ 8) s i 0 there bytes

pair_spelled : (a b : ℕ) → a < 256 → b < 256 → to_be_bytes w16 (a * 256 + b) ≡ a ∷ b ∷ []
pair_spelled a b a-fits b-fits =
    let high : (a * 256 + b) / 256 % 256 ≡ a = omega arith in
    let low : (a * 256 + b) % 256 ≡ b = omega arith in
    rw (high, low) refl

pub spells16 : (s : List ℕ) (i : ℕ) → AreBytes s → i + 2 ≤ length s → drop i s ≡ to_be_bytes w16 (number16_at s i) ++ drop (i + 2) s
spells16 s i bytes there =
    let first = drop_more s i 0 (omega arith) in
    let second = drop_more s (i + 1) 0 (omega arith) in
    let spelled = pair_spelled (get_or s i 0) (get_or s (i + 1) 0) (cell_below s i bytes (omega arith)) (cell_below s (i + 1) bytes (omega arith)) in
    first ∙ ap (λ (x : List ℕ). get_or s i 0 ∷ x) (second ∙ ap (λ (n : ℕ). get_or s (i + 1) 0 ∷ drop n s) (omega arith))
    ∙ ap (λ (x : List ℕ). x ++ drop (i + 2) s) (sym spelled)

four_bytes : (a b : ℕ) → a < 65536 → b < 65536 → to_be_bytes w32 (a * 65536 + b) ≡ to_be_bytes w16 a ++ to_be_bytes w16 b
four_bytes a b a-fits b-fits =
    let first : (a * 65536 + b) / 16777216 % 256 ≡ a / 256 % 256 = omega arith in
    let second : (a * 65536 + b) / 65536 % 256 ≡ a % 256 = omega arith in
    let third : (a * 65536 + b) / 256 % 256 ≡ b / 256 % 256 = omega arith in
    let fourth : (a * 65536 + b) % 256 ≡ b % 256 = omega arith in
    rw (first, second, third, fourth) refl

pub number16_below : (s : List ℕ) (i : ℕ) → AreBytes s → i + 2 ≤ length s → number16_at s i < 65536
number16_below s i bytes there = omega (arith, cell_below s i bytes (omega arith), cell_below s (i + 1) bytes (omega arith))

pub spells32 : (s : List ℕ) (i : ℕ) → AreBytes s → i + 4 ≤ length s → drop i s ≡ to_be_bytes w32 (number32_at s i) ++ drop (i + 4) s
spells32 s i bytes there =
    let first = spells16 s i bytes (omega arith) in
    let second = spells16 s (i + 2) bytes (omega arith) in
    let a = number16_at s i in
    let b = number16_at s (i + 2) in
    let joined = four_bytes a b (number16_below s i bytes (omega arith)) (number16_below s (i + 2) bytes (omega arith)) in
    first ∙ ap (λ (x : List ℕ). to_be_bytes w16 a ++ x) (second ∙ ap (λ (n : ℕ). to_be_bytes w16 b ++ drop n s) (omega arith))
    ∙ ap (λ (x : List ℕ). x ++ drop (i + 4) s) (sym joined)

eight_bytes : (a b : ℕ) → a < 4294967296 → b < 4294967296 → to_be_bytes w64 (a * 4294967296 + b) ≡ to_be_bytes w32 a ++ to_be_bytes w32 b
eight_bytes a b a-fits b-fits =
    let first : (a * 4294967296 + b) / 72057594037927936 % 256 ≡ a / 16777216 % 256 = omega arith in
    let second : (a * 4294967296 + b) / 281474976710656 % 256 ≡ a / 65536 % 256 = omega arith in
    let third : (a * 4294967296 + b) / 1099511627776 % 256 ≡ a / 256 % 256 = omega arith in
    let fourth : (a * 4294967296 + b) / 4294967296 % 256 ≡ a % 256 = omega arith in
    let fifth : (a * 4294967296 + b) / 16777216 % 256 ≡ b / 16777216 % 256 = omega arith in
    let sixth : (a * 4294967296 + b) / 65536 % 256 ≡ b / 65536 % 256 = omega arith in
    let seventh : (a * 4294967296 + b) / 256 % 256 ≡ b / 256 % 256 = omega arith in
    let eighth : (a * 4294967296 + b) % 256 ≡ b % 256 = omega arith in
    rw (first, second, third, fourth, fifth, sixth, seventh, eighth) refl

pub number32_below : (s : List ℕ) (i : ℕ) → AreBytes s → i + 4 ≤ length s → number32_at s i < 4294967296
number32_below s i bytes there = omega (arith, number16_below s i bytes (omega arith), number16_below s (i + 2) bytes (omega arith))

pub spells64 : (s : List ℕ) (i : ℕ) → AreBytes s → i + 8 ≤ length s → drop i s ≡ to_be_bytes w64 (number64_at s i) ++ drop (i + 8) s
spells64 s i bytes there =
    let first = spells32 s i bytes (omega arith) in
    let second = spells32 s (i + 4) bytes (omega arith) in
    let a = number32_at s i in
    let b = number32_at s (i + 4) in
    let joined = eight_bytes a b (number32_below s i bytes (omega arith)) (number32_below s (i + 4) bytes (omega arith)) in
    first ∙ ap (λ (x : List ℕ). to_be_bytes w32 a ++ x) (second ∙ ap (λ (n : ℕ). to_be_bytes w32 b ++ drop n s) (omega arith))
    ∙ ap (λ (x : List ℕ). x ++ drop (i + 8) s) (sym joined)

-- ---- and what is spelled is read again

pub read16 : (n : ℕ) (rest : List ℕ) → n < 2 ^ 16 → number16_at (to_be_bytes w16 n ++ rest) 0 ≡ n
read16 n rest fits = omega arith

pub read32 : (n : ℕ) (rest : List ℕ) → n < 2 ^ 32 → number32_at (to_be_bytes w32 n ++ rest) 0 ≡ n
read32 n rest fits = omega arith

pub read64 : (n : ℕ) (rest : List ℕ) → n < 2 ^ 64 → number64_at (to_be_bytes w64 n ++ rest) 0 ≡ n
read64 n rest fits = omega arith
