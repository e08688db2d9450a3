-- The random weights of the checks, from ChaCha20 words (RFC 8439), and the weighted sums of blocks (docs/FORMATS.md).
-- key: the 32 bytes of a ticket's key. check: the number of a check, from 0, and of its stream of random words.
-- place: that of a symbol in a block, from 0, and of its word in the stream. s: the symbols of a block.
use Rattle.std.specs.Prelude.{ℕ, ◌*◌, ◌%◌, ◌^◌, List, map, take, drop}
use Rattle.std.specs.List.{flat_map, range_with_len}
use Rattle.rand_chacha.specs.ChaCha.{word_at, key_of}
use Rattle.gf16.specs.Sums.{dot_of}

-- the weight of a check at a place: the low half of the ChaCha20 word there, which takes ten double rounds
unfoldable pub weight_of : List ℕ → ℕ → ℕ → ℕ
weight_of key check place = word_at 10 (key_of key) check place % 2 ^ 16

-- the weights of a check at each symbol of a block
unfoldable pub check_weights_of : List ℕ → ℕ → ℕ → List ℕ
check_weights_of key s check = map (weight_of key check) (range_with_len 0 s)

-- the weights of checks, check after check
unfoldable pub weights_of_checks : List ℕ → ℕ → ℕ → List ℕ
weights_of_checks key s checks = flat_map (check_weights_of key s) (range_with_len 0 checks)

-- the weighted sum of a block of s symbols: each symbol times the weight of its place, added up
abbrev pub weighted_sum_of : List ℕ → ℕ → ℕ → List ℕ → ℕ
weighted_sum_of key s check block = dot_of (check_weights_of key s check) block

-- the weighted sums of blocks of s symbols, by the weights of a check among weights that stand check after check
unfoldable pub sums_by : List ℕ → ℕ → List (List ℕ) → ℕ → List ℕ
sums_by weights s blocks check = map (dot_of (take s (drop (check * s) weights))) blocks
