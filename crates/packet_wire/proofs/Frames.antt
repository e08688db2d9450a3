-- No frame begins another: two spellings that agree are of one kind and one body.
use Rattle.std.proofs.Common.{◌≡◌, ℕ, ◌/◌, ◌%◌, ◌<◌, ◌^◌, List, [], ◌∷◌, ◌++◌, length, refl, arith}
use Rattle.packet_wire.specs.Frame.{head, frame}

-- lists of one length that begin a list are one
pub fronts_of_one_length : (a b x y : List ℕ) → length a ≡ length b → a ++ x ≡ b ++ y → (a ≡ b) × (x ≡ y)
fronts_of_one_length [] [] x y len same = (refl, same)
fronts_of_one_length [] (d ∷ b) x y len same = absurd (omega arith)
fronts_of_one_length (c ∷ a) [] x y len same = absurd (omega arith)
fronts_of_one_length (c ∷ a) (d ∷ b) x y len same =
    let heads : c ≡ d = cc in
    let tails : a ++ x ≡ b ++ y = cc in
    let rest = fronts_of_one_length a b x y (omega arith) tails in
    let fronts : a ≡ b = rest.0 in
    (cc, rest.1)

pub record SameFrame (kind kind' : ℕ) (body body' rest rest' : List ℕ) : Type 0 where
  pub kinds : kind ≡ kind'
  pub bodies : body ≡ body'
  pub rests : rest ≡ rest'

-- what the cells of a head say
cells_of_length : (m n : ℕ) → m < 2 ^ 32 → n < 2 ^ 32 → m / 16777216 % 256 ≡ n / 16777216 % 256 → m / 65536 % 256 ≡ n / 65536 % 256 → m / 256 % 256 ≡ n / 256 % 256 → m % 256 ≡ n % 256 → m ≡ n
cells_of_length m n m-fits n-fits a b c d = omega arith

pub frame_unique : (kind kind' : ℕ) (a b x y : List ℕ) → length a < 2 ^ 32 → length b < 2 ^ 32 → frame kind a ++ x ≡ frame kind' b ++ y → SameFrame kind kind' a b x y
unfolding head frame
frame_unique kind kind' a b x y a-fits b-fits same =
    let kinds : kind ≡ kind' = cc in
    let first : length a / 16777216 % 256 ≡ length b / 16777216 % 256 = cc in
    let second : length a / 65536 % 256 ≡ length b / 65536 % 256 = cc in
    let third : length a / 256 % 256 ≡ length b / 256 % 256 = cc in
    let fourth : length a % 256 ≡ length b % 256 = cc in
    let len = cells_of_length (length a) (length b) a-fits b-fits first second third fourth in
    let tails : a ++ x ≡ b ++ y = cc in
    let parts = fronts_of_one_length a b x y len tails in
    record { kinds = kinds; bodies = parts.0; rests = parts.1 }
