-- The blocks of a generation.
use Rattle.std.proofs.Common.{◌≡◌, ℕ, zero, suc, ◌+◌, ◌*◌, ◌<◌, List, [], ◌∷◌, ◌++◌, map, ap, sym, subst, ◌∙◌, add-one, append-nil, append_assoc, arith}
use Rattle.std.specs.Prelude.{Some, slice_get}
use Rattle.std.specs.List.{All, flat_map, range_with_len}
use Rattle.std.proofs.lemmas.List.Elements.{All-from_get_or, All-get_or}
use Rattle.std.proofs.lemmas.List.FromFn.{get_or-map-range_with_len, length-map-range_with_len, map-range_with_len_more}
use Rattle.std.proofs.lemmas.Option.{get_or_from_slice_get, slice_get_within}
use Rattle.linear_spec.specs.Symbols.{IsVector}
use Rattle.generation.specs.Shape.{Dimensions, generations_of, symbols_per_block}
use Rattle.generation.specs.Blocks.{AreBlocks, block_at, block_of, blocks_of}
use Rattle.src_check.specs.Tickets.{generation_blocks_of}
use Rattle.src_check.proofs.Places.{pieces_more}

-- a map over places, cut after some of them
map_cut : (f : ℕ → List ℕ) (n k : ℕ)
    → map f (range_with_len 0 (n + k)) ≡ map f (range_with_len 0 n) ++ map (λ i. f (n + i)) (range_with_len 0 k)
map_cut f n zero = ap (λ m. map f (range_with_len 0 m)) (omega arith) ∙ sym (append-nil (map f (range_with_len 0 n)))
map_cut f n (suc k) =
    let next : n + suc k ≡ n + k + 1 = omega arith in
    let rest = λ (i : ℕ). f (n + i) in
    ap (λ m. map f (range_with_len 0 m)) next
    ∙ map-range_with_len_more f 0 (n + k) (n + k) (omega arith)
    ∙ ap (λ xs. xs ++ f (n + k) ∷ []) (map_cut f n k)
    ∙ append_assoc (map f (range_with_len 0 n)) (map rest (range_with_len 0 k)) (f (n + k) ∷ [])
    ∙ ap (λ xs. map f (range_with_len 0 n) ++ xs)
    (sym (map-range_with_len_more rest 0 k k (omega arith)) ∙ ap (λ m. map rest (range_with_len 0 m)) (add-one k))

-- a map over places, cut into pieces of k
map_pieces : (f : ℕ → List ℕ) (k n : ℕ)
    → map f (range_with_len 0 (n * k)) ≡ flat_map (λ g. map (λ i. f (g * k + i)) (range_with_len 0 k)) (range_with_len 0 n)
map_pieces f k zero =
    let none : 0 * k ≡ 0 = omega arith in
    ap (λ m. map f (range_with_len 0 m)) none
map_pieces f k (suc n) =
    let more : suc n * k ≡ n * k + k = omega arith in
    let piece = λ (g : ℕ). map (λ i. f (g * k + i)) (range_with_len 0 k) in
    ap (λ m. map f (range_with_len 0 m)) more ∙ map_cut f (n * k) k
    ∙ ap (λ xs. xs ++ piece n) (map_pieces f k n)
    ∙ sym (pieces_more piece n) ∙ ap (λ m. flat_map piece (range_with_len 0 m)) (add-one n)

-- the blocks of the file are those of its generations in turn
pub blocks_in_order : (d : Dimensions) (file : List ℕ)
    → blocks_of d file ≡ flat_map (generation_blocks_of d file) (range_with_len 0 (generations_of d))
unfolding blocks_of generation_blocks_of
blocks_in_order d file = map_pieces (block_at d file) d.k (generations_of d)

-- a member of a list of vectors
vector_at : (n at : ℕ) (vectors : List (List ℕ)) (vector : List ℕ) → All (IsVector n) vectors
    → slice_get vectors at ≡ Some vector → IsVector n vector
vector_at n at vectors vector all there =
    subst (IsVector n) (get_or_from_slice_get vectors at vector [] there)
    (All-get_or (IsVector n) vectors at [] (slice_get_within vectors at vector there) all)

-- the blocks of a generation are vectors
pub generation_vectors : (d : Dimensions) (file : List ℕ) (g : ℕ) → AreBlocks d (blocks_of d file)
    → ((i : ℕ) → i < d.k → slice_get (blocks_of d file) (g * d.k + i) ≡ Some (block_of d file g i))
    → All (IsVector (symbols_per_block d)) (generation_blocks_of d file g)
unfolding generation_blocks_of
generation_vectors d file g are at =
    All-from_get_or (IsVector (symbols_per_block d)) (map (block_of d file g) (range_with_len 0 d.k)) []
    (λ i within.
    let below : i < d.k = omega (arith, length-map-range_with_len (block_of d file g) 0 d.k) in
    subst (IsVector (symbols_per_block d))
    (sym (get_or-map-range_with_len (block_of d file g) 0 d.k i i [] below (omega arith)))
    (vector_at (symbols_per_block d) (g * d.k + i) (blocks_of d file) (block_of d file g i) are.vectors (at i below)))
