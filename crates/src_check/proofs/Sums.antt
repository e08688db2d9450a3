-- The sums of a file: how many there are, and that those made of all weights are they.
use Rattle.std.proofs.Common.{◌≡◌, ℕ, ◌*◌, ◌<◌, List, length, take, drop, map, ap, ◌∙◌, arith}
use Rattle.std.specs.List.{flat_map, range_with_len}
use Rattle.std.proofs.lemmas.List.{length-map}
use Rattle.std.proofs.lemmas.List.FromFn.{length-map-range_with_len}
use Rattle.gf16.specs.Sums.{dot_of}
use Rattle.generation.specs.Shape.{Dimensions, generations_of, symbols_per_block}
use Rattle.generation.specs.Blocks.{block_of}
use Rattle.src_check.specs.Tickets.{check_sums_of, file_sums_of, generation_blocks_of, generation_sums_of}
use Rattle.src_check.specs.Weights.{check_weights_of, sums_by, weighted_sum_of, weights_of_checks}
use Rattle.src_check.proofs.Places.{length_pieces, piece_at, pieces_same}
use Rattle.src_check.proofs.WeightCounts.{length_check_weights}

pub length_generation_blocks : (d : Dimensions) (file : List ℕ) (g : ℕ) → length (generation_blocks_of d file g) ≡ d.k
unfolding generation_blocks_of
length_generation_blocks d file g = length-map-range_with_len (block_of d file g) 0 d.k

pub length_check_sums : (d : Dimensions) (file key : List ℕ) (g check : ℕ) → length (check_sums_of d file key g check) ≡ d.k
length_check_sums d file key g check =
    length-map (generation_blocks_of d file g) (weighted_sum_of key (symbols_per_block d) check)
    ∙ length_generation_blocks d file g

pub length_generation_sums : (d : Dimensions) (file key : List ℕ) (checks g : ℕ)
    → length (generation_sums_of d file key checks g) ≡ checks * d.k
unfolding generation_sums_of
length_generation_sums d file key checks g =
    length_pieces (check_sums_of d file key g) d.k checks (length_check_sums d file key g)

pub length_file_sums : (d : Dimensions) (file key : List ℕ) (checks : ℕ)
    → length (file_sums_of d file key checks) ≡ generations_of d * checks * d.k
unfolding file_sums_of
length_file_sums d file key checks =
    length_pieces (generation_sums_of d file key checks) (checks * d.k) (generations_of d)
    (length_generation_sums d file key checks)
    ∙ omega arith

-- the weights of a check, among those of all checks
pub weights_at : (key : List ℕ) (s checks check : ℕ) → check < checks
    → take s (drop (check * s) (weights_of_checks key s checks)) ≡ check_weights_of key s check
unfolding weights_of_checks
weights_at key s checks check below = piece_at (check_weights_of key s) s checks check (length_check_weights key s) below

-- sums by the weights of all checks are those of the generation
pub sums_by_weights : (d : Dimensions) (file key weights : List ℕ) (blocks : List (List ℕ)) (s checks g : ℕ)
    → weights ≡ weights_of_checks key s checks → s ≡ symbols_per_block d → blocks ≡ generation_blocks_of d file g
    → flat_map (sums_by weights s blocks) (range_with_len 0 checks) ≡ generation_sums_of d file key checks g
unfolding sums_by generation_sums_of
sums_by_weights d file key weights blocks s checks g weights_are s_is blocks_are =
    pieces_same (sums_by weights s blocks) (check_sums_of d file key g) checks
    (λ check below.
    let part = ap (λ ws. take s (drop (check * s) ws)) weights_are ∙ weights_at key s checks check below
    ∙ ap (λ n. check_weights_of key n check) s_is in
    ap (λ ws. map (dot_of ws) blocks) part
    ∙ ap (map (dot_of (check_weights_of key (symbols_per_block d) check))) blocks_are)
