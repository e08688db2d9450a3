use Rattle.std.proofs.Common.{◌≡◌, ℕ, ◌+◌, ◌%◌, ◌^◌, ◌<◌, ◌++◌, List, [], ◌∷◌, ap, ap₂, sym, ◌∙◌, map, append_assoc, arith}
use Rattle.std.specs.List.{range_with_len}
use Rattle.std.proofs.lemmas.List.FromFn.{map-range_with_len_more}
use Rattle.rand_chacha.specs.ChaCha.{ChaCha, key_of, next_word, word_at}
use Rattle.src_check.specs.Weights.{weight_of}
use Rattle.src_check.proofs.weights.append_check_weights.Goals as goal

-- the word at a place, and the place after it
word_drawn : (word place stream : ℕ) (key : List ℕ) (words after : ChaCha) → place < 2 ^ 16
    → (word, after) ≡ next_word 10 words
    → words ≡ record { key = key; stream = stream; word_pos = place }
    → (word ≡ word_at 10 key stream place) × (after ≡ record { key = key; stream = stream; word_pos = place + 1 })
word_drawn word place stream key words after below drawn at =
    let next : (place + 1) % 2 ^ 68 ≡ place + 1 = omega arith in
    let whole = drawn ∙ ap (next_word 10) at in (
      ap (λ p. p.0) whole,
      ap (λ p. p.1) whole ∙ ap (λ n. record { key = key; stream = stream; word_pos = n }) next,
    )

-- a weight more, at the end
weights_more : (key before weights : List ℕ) (check place word weight : ℕ)
    → weights ≡ before ++ map (weight_of key check) (range_with_len 0 place)
    → word ≡ word_at 10 (key_of key) check place → weight ≡ word % 2 ^ 16
    → weights ++ weight ∷ [] ≡ before ++ map (weight_of key check) (range_with_len 0 (place + 1))
unfolding weight_of
weights_more key before weights check place word weight so_far at low =
    ap₂ (λ ws w. ws ++ w ∷ []) so_far (low ∙ ap (λ w. w % 2 ^ 16) at)
    ∙ append_assoc before (map (weight_of key check) (range_with_len 0 place)) (weight_of key check place ∷ [])
    ∙ ap (λ ws. before ++ ws) (sym (map-range_with_len_more (weight_of key check) 0 place place (omega arith)))

pub loop-place-preserved : goal.loop-place-preserved
loop-place-preserved c =
    let place = c.loop-place.place in
    let below : place < 2 ^ 16 = omega (arith, c.ranges.s) in
    let drawn = word_drawn c.next_word.result place c.args.check (key_of c.args.key.now) c.loop-place.words
    c.next_word.new.self below c.next_word.ensures c.loop-place.invariant.words in
    record {
      weights =
          c.put.ensures.items
          ∙ weights_more c.args.key.now c.args.weights.now.items c.loop-place.weights.items c.args.check place
          c.next_word.result c.low_symbol-weight.result.0
          c.loop-place.invariant.weights drawn.0 c.low_symbol-weight.ensures;
      words = drawn.1;
      room = omega (arith, c.put.ensures.spare, c.loop-place.invariant.room);
    }
