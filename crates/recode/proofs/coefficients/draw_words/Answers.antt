use Rattle.std.proofs.Common.{◌≡◌, ℕ, ◌+◌, ◌*◌, ◌%◌, ◌^◌, ◌<◌, ◌≤◌, ◌++◌, List, [], ◌∷◌, length, map, take, set, ap, ap₂, sym, ◌∙◌, arith}
use Rattle.std.specs.List.{range_with_len}
use Rattle.std.proofs.lemmas.List.{take_more_set}
use Rattle.std.proofs.lemmas.List.FromFn.{map-range_with_len_more}
use Rattle.rand_chacha.specs.ChaCha.{ChaCha, key_of, next_word, word_at}
use Rattle.recode.specs.Draws.{draw_word}
use Rattle.recode.proofs.coefficients.draw_words.Goals as goal

-- the word at a place, and the place after it
word_drawn : (word place next stream : ℕ) (key : List ℕ) (rng after : ChaCha) → place < 2 ^ 41 → place + 1 ≡ next
    → (word, after) ≡ next_word 10 rng
    → rng ≡ record { key = key; stream = stream; word_pos = place }
    → (word ≡ word_at 10 key stream place) × (after ≡ record { key = key; stream = stream; word_pos = next })
word_drawn word place next stream key rng after below follows drawn at =
    let wrapped : (place + 1) % 2 ^ 68 ≡ next = omega arith in
    let whole = drawn ∙ ap (next_word 10) at in (
      ap (λ p. p.0) whole,
      ap (λ p. p.1) whole ∙ ap (λ n. record { key = key; stream = stream; word_pos = n }) wrapped,
    )

-- a word more
words_more : (key words : List ℕ) (link q i word : ℕ) → i < length words
    → take i words ≡ map (draw_word key link q) (range_with_len 0 i) → word ≡ draw_word key link q i
    → take (i + 1) (set words i word) ≡ map (draw_word key link q) (range_with_len 0 (i + 1))
words_more key words link q i word within so_far is =
    take_more_set words i word within ∙ ap₂ (λ ws w. ws ++ w ∷ []) so_far is
    ∙ sym (map-range_with_len_more (draw_word key link q) 0 i i (omega arith))

pub loop-word-preserved : goal.loop-word-preserved
unfolding draw_word
loop-word-preserved c =
    let i = c.loop-word.word-index in
    let place = 256 * c.args.q + i in
    let few : length c.args.words.now ≤ 64 = c.requires in
    let below : place < 2 ^ 41 = omega (arith, c.ranges.q) in
    let drawn = word_drawn c.next_word.result place (256 * c.args.q + (i + 1)) (16 + c.args.link) (key_of c.args.key.now) c.loop-word.rng
    c.next_word.new.self below (omega arith) c.next_word.ensures c.loop-word.invariant.rng in
    record {
      words = words_more c.args.key.now c.loop-word.words c.args.link c.args.q i c.next_word.result (omega arith) c.loop-word.invariant.words drawn.0;
      rng = drawn.1;
    }
