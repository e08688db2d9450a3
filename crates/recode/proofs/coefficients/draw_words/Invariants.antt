use Rattle.std.proofs.Common.{◌≡◌, ◌+◌, ◌*◌, map, take}
use Rattle.std.specs.List.{range_with_len}
use Rattle.rand_chacha.specs.ChaCha.{key_of}
use Rattle.recode.specs.Draws.{draw_word}
use Rattle.recode.proofs.coefficients.draw_words.Given as goal

-- the words so far, and the place of the next one
abbrev pub invariant-loop-word : goal.invariant-loop-word
invariant-loop-word l = record {
  words : take l.word-index l.words ≡ map (draw_word l.key l.link l.q) (range_with_len 0 l.word-index);
  rng : l.rng ≡ record { key = key_of l.key; stream = 16 + l.link; word_pos = 256 * l.q + l.word-index };
}
