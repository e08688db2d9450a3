-- Bytes of symbols, cut to a length.
use Rattle.std.proofs.Common.{◌≡◌, ℕ, zero, suc, min, ◌+◌, ◌-◌, ◌*◌, ◌<◌, ◌≤◌, List, [], ◌∷◌, ◌++◌, length, take, drop, get_or, length-append, refl, ap, sym, ◌∙◌, arith}
use Rattle.std.specs.Int.{w16, to_be_bytes}
use Rattle.std.specs.List.{flat_map}
use Rattle.std.proofs.lemmas.List.{append-nil, length-take-le, take-append-drop, take-take, drop-take, take_min, take_more}
use Rattle.std.proofs.lemmas.List.Concat.{flat_map-append}
use Rattle.linear_spec.specs.Symbols.{be_bytes_of}

-- the cut of two lists joined
pub take-append : (n rest : ℕ) (xs ys : List ℕ) → rest ≡ n - length xs → take n (xs ++ ys) ≡ take n xs ++ take rest ys
take-append zero rest [] ys is = let e : 0 ≡ rest = omega arith in ap (λ k. take k ys) e
take-append (suc n) rest [] ys is = let e : suc n ≡ rest = omega arith in ap (λ k. take k ys) e
take-append zero rest (x ∷ xs) ys is = let e : 0 ≡ rest = omega arith in ap (λ k. take k ys) e
take-append (suc n) rest (x ∷ xs) ys is = ap (λ l. x ∷ l) (take-append n rest xs ys (omega arith))

-- a longer front of a list
take-add : (k m : ℕ) (xs : List ℕ) → take (k + m) xs ≡ take k xs ++ take m (drop k xs)
take-add k m xs =
    let parts = take-append-drop k (take (k + m) xs) in
    let front = take-take k (k + m) xs (omega arith) in
    let rest = drop-take k m xs in
    cc

be_bytes_of-append : (xs ys : List ℕ) → be_bytes_of (xs ++ ys) ≡ be_bytes_of xs ++ be_bytes_of ys
unfolding be_bytes_of
be_bytes_of-append xs ys = flat_map-append (to_be_bytes w16) xs ys

length-be_bytes_of : (symbols : List ℕ) → length (be_bytes_of symbols) ≡ 2 * length symbols
unfolding be_bytes_of
length-be_bytes_of [] = refl
length-be_bytes_of (x ∷ xs) = omega (arith, length-be_bytes_of xs)

-- the bytes of symbols from start to end, cut to what the earlier ones leave
pub piece_fed : (limit start end rest n : ℕ) (symbols : List ℕ)
    → start ≡ 32 * n → start ≤ length symbols → end ≡ min (length symbols) (start + 32) → rest ≡ limit - 2 * start
    → take limit (be_bytes_of (take start symbols)) ++ take rest (be_bytes_of (take (end - start) (drop start symbols)))
    ≡ take limit (be_bytes_of (take (32 * (n + 1)) symbols))
piece_fed limit start end rest n symbols is within ends leaves =
    let before = take start symbols in
    let piece = take (end - start) (drop start symbols) in
    let reached : min (32 * (n + 1)) (length symbols) ≡ start + (end - start) = omega arith in
    let further = sym (take_min (32 * (n + 1)) symbols)
    ∙ ap (λ k. take k symbols) reached
    ∙ take-add start (end - start) symbols in
    let bytes = be_bytes_of-append before piece in
    let left : rest ≡ limit - length (be_bytes_of (take start symbols)) =
    omega (arith, length-be_bytes_of before, length-take-le start symbols within) in
    let cut = take-append limit rest (be_bytes_of before) (be_bytes_of piece) left in
    cc

pub nothing_fed : (limit : ℕ) (message : List ℕ) → message ++ take limit (be_bytes_of []) ≡ message
unfolding be_bytes_of
nothing_fed zero message = append-nil message
nothing_fed (suc limit) message = append-nil message

-- the bytes of one block more
flat_map-be_bytes_of-more : (i : ℕ) (blocks : List (List ℕ)) (block : List ℕ)
    → i < length blocks → block ≡ get_or blocks i block
    → flat_map be_bytes_of (take (i + 1) blocks) ≡ flat_map be_bytes_of (take i blocks) ++ be_bytes_of block
flat_map-be_bytes_of-more i blocks block within is =
    let next : take (i + 1) blocks ≡ take i blocks ++ block ∷ [] =
    take_more blocks i block within ∙ ap (λ b. take i blocks ++ b ∷ []) (sym is) in
    ap (flat_map be_bytes_of) next
    ∙ flat_map-append be_bytes_of (take i blocks) (block ∷ [])
    ∙ ap (λ bytes. flat_map be_bytes_of (take i blocks) ++ bytes) (append-nil (be_bytes_of block))

-- the bytes of a block, cut to what the earlier ones leave
pub block_fed : (len left i : ℕ) (blocks : List (List ℕ)) (block : List ℕ)
    → i < length blocks → block ≡ get_or blocks i block
    → left ≡ len - length (flat_map be_bytes_of (take i blocks))
    → take len (flat_map be_bytes_of (take i blocks)) ++ take left (be_bytes_of block)
    ≡ take len (flat_map be_bytes_of (take (i + 1) blocks))
block_fed len left i blocks block within is leaves =
    let next = flat_map-be_bytes_of-more i blocks block within is in
    let cut = take-append len left (flat_map be_bytes_of (take i blocks)) (be_bytes_of block) leaves in
    sym (ap (take len) next ∙ cut)

-- what is left after it
pub left_after : (len left i : ℕ) (blocks : List (List ℕ)) (block : List ℕ)
    → i < length blocks → block ≡ get_or blocks i block
    → left ≡ len - length (flat_map be_bytes_of (take i blocks))
    → left - 2 * length block ≡ len - length (flat_map be_bytes_of (take (i + 1) blocks))
left_after len left i blocks block within is leaves =
    let before = flat_map be_bytes_of (take i blocks) in
    let next = flat_map-be_bytes_of-more i blocks block within is in
    let longer = ap length next ∙ length-append before (be_bytes_of block) in
    omega (arith, longer, length-be_bytes_of block)
