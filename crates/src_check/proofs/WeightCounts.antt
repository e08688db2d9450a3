-- How many weights there are.
use Rattle.std.proofs.Common.{◌≡◌, ℕ, ◌*◌, List, length}
use Rattle.std.proofs.lemmas.List.FromFn.{length-map-range_with_len}
use Rattle.src_check.specs.Weights.{check_weights_of, weight_of, weights_of_checks}
use Rattle.src_check.proofs.Places.{length_pieces}

pub length_check_weights : (key : List ℕ) (s check : ℕ) → length (check_weights_of key s check) ≡ s
unfolding check_weights_of
length_check_weights key s check = length-map-range_with_len (weight_of key check) 0 s

pub length_weights : (key : List ℕ) (s checks : ℕ) → length (weights_of_checks key s checks) ≡ checks * s
unfolding weights_of_checks
length_weights key s checks = length_pieces (check_weights_of key s) s checks (length_check_weights key s)
