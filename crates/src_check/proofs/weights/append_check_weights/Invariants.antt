use Rattle.std.proofs.Common.{◌≡◌, ◌+◌, ◌≤◌, ◌++◌, map}
use Rattle.std.specs.List.{range_with_len}
use Rattle.rand_chacha.specs.ChaCha.{key_of}
use Rattle.src_check.specs.Weights.{weight_of}
use Rattle.src_check.proofs.weights.append_check_weights.Given as goal

-- the weights at the places so far, the next word's place, and room for the rest
abbrev pub invariant-loop-place : goal.invariant-loop-place
invariant-loop-place l = record {
  weights : l.weights.items ≡ l.fn.weights.items ++ map (weight_of l.key l.check) (range_with_len 0 l.place);
  words : l.words ≡ record { key = key_of l.key; stream = l.check; word_pos = l.place };
  room : l.s ≤ l.place + l.weights.spare;
}
