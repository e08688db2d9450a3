use Rattle.std.proofs.Common.{◌≡◌, ℕ, ◌+◌, ◌*◌, List, ◌++◌, take, drop, map, ap, ap₂, sym, ◌∙◌, append_assoc}
use Rattle.std.specs.List.{flat_map, range_with_len}
use Rattle.gf16.specs.Sums.{dot_of}
use Rattle.src_check.specs.Weights.{sums_by}
use Rattle.src_check.proofs.Places.{pieces_more}
use Rattle.src_check.proofs.ticket.append_generation_sums.Goals as goal

-- the sums of a check more, at the end
sums_more : (weights piece before items : List ℕ) (s check : ℕ) (blocks : List (List ℕ))
    → items ≡ before ++ flat_map (sums_by weights s blocks) (range_with_len 0 check)
    → piece ≡ take s (drop (check * s) weights)
    → items ++ map (dot_of piece) blocks ≡ before ++ flat_map (sums_by weights s blocks) (range_with_len 0 (check + 1))
unfolding sums_by
sums_more weights piece before items s check blocks so_far is =
    ap₂ (λ xs ws. xs ++ map (dot_of ws) blocks) so_far is
    ∙ append_assoc before (flat_map (sums_by weights s blocks) (range_with_len 0 check)) (sums_by weights s blocks check)
    ∙ ap (λ xs. before ++ xs) (sym (pieces_more (sums_by weights s blocks) check))

pub loop-check-preserved : goal.loop-check-preserved
loop-check-preserved c =
    let piece_is = rw (c.from.ensures, c.from-in-loop-check.ensures) at c.piece-check_weights.ensures.value in
    c.in_ok-append_check_sums.ensures
    ∙ sums_more c.args.weights.now c.piece-check_weights.result.now c.args.sums.now.items c.loop-check.sums.items c.args.s
    c.loop-check.check
    c.args.blocks.now.items c.loop-check.invariant piece_is
