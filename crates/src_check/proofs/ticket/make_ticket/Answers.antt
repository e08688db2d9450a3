use Rattle.std.proofs.Common.{◌≡◌, ℕ, ◌+◌, List, ◌++◌, length, ap, ap₂, sym, ◌∙◌, arith}
use Rattle.std.specs.List.{flat_map, range_with_len}
use Rattle.generation.specs.Shape.{Dimensions, generations_of}
use Rattle.src_check.specs.Tickets.{file_sums_of, generation_sums_of}
use Rattle.src_check.proofs.Places.{pieces_more}
use Rattle.src_check.proofs.Sums.{length_file_sums, sums_by_weights}
use Rattle.src_check.proofs.ticket.make_ticket.Goals as goal

-- the sums of a generation more, at the end
generations_more : (d : Dimensions) (file key items more : List ℕ) (checks g : ℕ)
    → items ≡ flat_map (generation_sums_of d file key checks) (range_with_len 0 g)
    → more ≡ generation_sums_of d file key checks g
    → items ++ more ≡ flat_map (generation_sums_of d file key checks) (range_with_len 0 (g + 1))
generations_more d file key items more checks g so_far is =
    ap₂ (λ a b. a ++ b) so_far is ∙ sym (pieces_more (generation_sums_of d file key checks) g)

-- the sums of all generations
all_sums : (d : Dimensions) (file key items : List ℕ) (checks g : ℕ)
    → items ≡ flat_map (generation_sums_of d file key checks) (range_with_len 0 g) → g ≡ generations_of d
    → items ≡ file_sums_of d file key checks
unfolding file_sums_of
all_sums d file key items checks g so_far end =
    so_far ∙ ap (λ n. flat_map (generation_sums_of d file key checks) (range_with_len 0 n)) end

pub loop-g-preserved : goal.loop-g-preserved
loop-g-preserved c =
    c.in_ok-append_generation_sums.ensures
    ∙ generations_more c.args.shape.now c.args.file.now c.args.key c.loop-g.sums.items _ c.args.checks c.loop-g.g
    c.loop-g.invariant
    (sums_by_weights c.args.shape.now c.args.file.now c.args.key c.as_slice.result.now c.in_ok-blocks.blocks.items
    c.symbols_per_block-s.result c.args.checks c.loop-g.g
    (c.as_slice.ensures ∙ c.in_ok-weights.ensures.value) c.symbols_per_block-s.ensures.value c.in_ok-blocks.ensures.blocks)

file_sums : (c : goal.After-drop-weights-inside-2)
    → c.in_ok-sums.sums ≡ file_sums_of c.args.shape.now c.args.file.now c.args.key c.args.checks
file_sums c =
    let end : c.loop-g.g ≡ generations_of c.args.shape.now =
    omega (arith, c.generations-g-end.ensures.value, c.loop-g.auto.g-end) in
    c.in_ok-sums.ensures ∙ c.as_slice-2.ensures
    ∙ all_sums c.args.shape.now c.args.file.now c.args.key c.loop-g.sums.items c.args.checks c.loop-g.g c.loop-g.invariant
    end

pub returns-clause-sums : goal.returns-clause-sums
returns-clause-sums c = file_sums c

pub returns-clause-vector : goal.returns-clause-vector
returns-clause-vector c =
    let count = ap length (file_sums c) ∙ length_file_sums c.args.shape.now c.args.file.now c.args.key c.args.checks in
    record { count = count; symbols = c.is_vector.ensures.symbols }
