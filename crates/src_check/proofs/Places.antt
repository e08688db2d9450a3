-- Where the pieces of lists stand.
use Rattle.std.proofs.Common.{◌≡◌, ◌⊎◌, ℕ, zero, suc, ◌+◌, ◌*◌, ◌<◌, ◌≤◌, List, [], ◌∷◌, ◌++◌, length, take, drop, map, ap, ap₂, sym, refl, ◌∙◌, ⊎_elim, append-nil, add-one, length-append, length-drop, arith}
use Rattle.std.specs.List.{flat_map, range_with_len}
use Rattle.std.proofs.lemmas.Grind.{flat_map-append}
use Rattle.std.proofs.lemmas.List.{drop-append-le, take-append-le, take_all}
use Rattle.std.proofs.lemmas.List.Folds.{flat_map-map}
use Rattle.std.proofs.lemmas.List.FromFn.{map-range_with_len_more}
use Rattle.std.proofs.Math.Nat.{mul-le-mul_left}
use Rattle.std.proofs.Math.Seq.{drop-append_seam}

-- the pieces of a generation and a check end within all of them
pub sums_within : (generations checks k g check : ℕ) → g < generations → check < checks
    → (g * checks + check) * k + k ≤ generations * checks * k
sums_within generations checks k g check below within =
    let more : g + 1 ≤ generations = omega arith in
    let lines : checks * (g + 1) ≤ checks * generations = mul-le-mul_left checks more in
    let line : g * checks + check + 1 ≤ generations * checks = omega arith in
    let sums : k * (g * checks + check + 1) ≤ k * (generations * checks) = mul-le-mul_left k line in
    omega arith

-- one piece more, at the end
pub pieces_more : {X : Type 0} (f : ℕ → List X) (n : ℕ)
    → flat_map f (range_with_len 0 (n + 1)) ≡ flat_map f (range_with_len 0 n) ++ f n
pieces_more {X = X} f n =
    let own = λ (piece : List X). piece in
    sym (flat_map-map own f (range_with_len 0 (n + 1)))
    ∙ ap (flat_map own) (map-range_with_len_more f 0 n n (omega arith))
    ∙ flat_map-append own (map f (range_with_len 0 n)) (f n ∷ [])
    ∙ ap₂ (λ a b. a ++ b) (flat_map-map own f (range_with_len 0 n)) (append-nil (f n))

-- as many pieces of one length
pub length_pieces : (f : ℕ → List ℕ) (size n : ℕ) → ((i : ℕ) → length (f i) ≡ size)
    → length (flat_map f (range_with_len 0 n)) ≡ n * size
length_pieces f size zero each = omega arith
length_pieces f size (suc n) each =
    ap (λ k. length (flat_map f (range_with_len 0 k))) (sym (add-one n)) ∙ ap length (pieces_more f n)
    ∙ length-append (flat_map f (range_with_len 0 n)) (f n)
    ∙ ap₂ (λ a b. a + b) (length_pieces f size n each) (each n)
    ∙ omega arith

-- pieces that are equal one by one
pub pieces_same : (f h : ℕ → List ℕ) (n : ℕ) → ((i : ℕ) → i < n → f i ≡ h i)
    → flat_map f (range_with_len 0 n) ≡ flat_map h (range_with_len 0 n)
pieces_same f h zero same = refl
pieces_same f h (suc n) same =
    ap (λ k. flat_map f (range_with_len 0 k)) (sym (add-one n)) ∙ pieces_more f n
    ∙ ap₂ (λ a b. a ++ b) (pieces_same f h n (λ i below. same i (omega arith))) (same n (omega arith))
    ∙ sym (pieces_more h n) ∙ ap (λ k. flat_map h (range_with_len 0 k)) (add-one n)

-- a part of a list that ends within its front
pub take_within : (size at : ℕ) (front back : List ℕ) → at + size ≤ length front
    → take size (drop at (front ++ back)) ≡ take size (drop at front)
take_within size at front back within =
    ap (take size) (drop-append-le at front back (omega arith))
    ∙ take-append-le size (drop at front) back (omega (arith, length-drop at front))

-- the piece at its place
pub piece_at : (f : ℕ → List ℕ) (size n i : ℕ) → ((j : ℕ) → length (f j) ≡ size) → i < n
    → take size (drop (i * size) (flat_map f (range_with_len 0 n))) ≡ f i
piece_at f size zero i each below = absurd (omega arith)
piece_at f size (suc n) i each below =
    let pieces = flat_map f (range_with_len 0 n) in
    let count = length_pieces f size n each in
    ap (λ k. take size (drop (i * size) (flat_map f (range_with_len 0 k)))) (sym (add-one n))
    ∙ ap (λ xs. take size (drop (i * size) xs)) (pieces_more f n)
    ∙ ⊎_elim
    (λ earlier. take_within size (i * size) pieces (f n) (ends_within earlier count) ∙ piece_at f size n i each earlier)
    (λ last.
    ap (λ k. take size (drop (k * size) (pieces ++ f n))) last
    ∙ ap (λ k. take size (drop k (pieces ++ f n))) (sym count)
    ∙ ap (take size) (drop-append_seam pieces (f n))
    ∙ take_all size (f n) (omega (arith, each n)) ∙ ap f (sym last))
    (earlier_or_last i n below)
  where
    ends_within : i < n → length (flat_map f (range_with_len 0 n)) ≡ n * size
        → i * size + size ≤ length (flat_map f (range_with_len 0 n))
    ends_within earlier count =
        let next : i + 1 ≤ n = omega arith in
        let more : size * (i + 1) ≤ size * n = mul-le-mul_left size next in
        omega arith

    earlier_or_last : (a b : ℕ) → a < suc b → (a < b) ⊎ (a ≡ b)
    earlier_or_last a b h = grind arith
