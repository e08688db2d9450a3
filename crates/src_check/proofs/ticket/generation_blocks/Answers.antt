use Rattle.std.proofs.Common.{◌≡◌, ℕ, ◌+◌, List, [], ◌∷◌, ◌++◌, map, ap₂, sym, subst, ◌∙◌, arith}
use Rattle.std.specs.List.{All, range_with_len}
use Rattle.std.proofs.lemmas.List.Elements.{All-nil, All-cons, All-append}
use Rattle.std.proofs.lemmas.List.FromFn.{map-range_with_len_more}
use Rattle.linear_spec.specs.Symbols.{IsVector}
use Rattle.generation.specs.Shape.{Dimensions, symbols_per_block}
use Rattle.generation.specs.Blocks.{block_of}
use Rattle.src_check.proofs.ticket.generation_blocks.Goals as goal

-- a block more, at the end
blocks_more : (d : Dimensions) (file : List ℕ) (g i : ℕ) (items : List (List ℕ)) (block : List ℕ)
    → items ≡ map (block_of d file g) (range_with_len 0 i) → block ≡ block_of d file g i
    → items ++ block ∷ [] ≡ map (block_of d file g) (range_with_len 0 (i + 1))
blocks_more d file g i items block so_far is =
    ap₂ (λ xs x. xs ++ x ∷ []) so_far is ∙ sym (map-range_with_len_more (block_of d file g) 0 i i (omega arith))

vectors_more : (n : ℕ) (after items : List (List ℕ)) (block : List ℕ) → after ≡ items ++ block ∷ []
    → All (IsVector n) items → IsVector n block → All (IsVector n) after
vectors_more n after items block is vectors vector =
    subst (All (IsVector n)) (sym is)
    (All-append (IsVector n) items (block ∷ []) vectors (All-cons (IsVector n) block [] vector (All-nil (IsVector n))))

pub loop-i-preserved : goal.loop-i-preserved
loop-i-preserved c = record {
  blocks =
      c.in_ok-push.ensures.ok
      ∙ blocks_more c.args.shape.now c.args.file.now c.args.g c.loop-i.i c.loop-i.blocks.items c.in_ok-block.block
      c.loop-i.invariant.blocks c.in_ok-block.ensures.value;
  vectors =
      vectors_more (symbols_per_block c.args.shape.now) c.push.new.self.items c.loop-i.blocks.items c.in_ok-block.block
      c.in_ok-push.ensures.ok
      c.loop-i.invariant.vectors c.in_ok-block.ensures.vector;
}
