-- Draws: packets combined by the random words of a key (ChaCha20 of RFC 8439 with 64 bits for the counter and 64 for the
-- stream; docs/FORMATS.md).
-- key: 32 bytes. link: the number of a link, whose draws have a stream of words of their own. q: the number of a draw on its
-- link, from 0. front: the packets that there are to combine. k, s: the numbers of coefficients and of payload symbols of each
-- packet. generation: that of them all. coded: how many draws a link makes of each generation.
use Rattle.std.specs.Prelude.{ℕ, ◌+◌, ◌-◌, ◌*◌, ◌%◌, ◌^◌, ◌==◌, if◌then◌else◌, List, map, length, slice_index, slice_set}
use Rattle.std.specs.List.{list_all, range_with_len}
use Rattle.rand_chacha.specs.ChaCha.{word_at, key_of}
use Rattle.gf16.specs.Field.{sum_of}
use Rattle.linear_spec.specs.declared.packet.Packet.{Packet}
use Rattle.linear_spec.specs.declared.record.Drawn.{Drawn}
use Rattle.linear_spec.specs.declared.record.Drawn.TheVariants.{Sent, Nothing}
use Rattle.linear_spec.specs.Combination.{combination_of}
use Rattle.linear_spec.specs.Packet.{coefficients_of, payloads_of}

-- the symbol of a word: its low half
abbrev pub symbol_of_word : ℕ → ℕ
symbol_of_word word = word % 2 ^ 16

-- the symbols, or where all are zero the same with 1 as the last
abbrev pub with_last_one : List ℕ → List ℕ
with_last_one symbols =
    if list_all (λ symbol. symbol == 0) symbols then slice_set symbols (length symbols - 1) 1 else symbols

-- a coefficient for each word: its symbol, and the last is 1 where all would be zero
unfoldable pub coefficients_of_words : List ℕ → List ℕ
coefficients_of_words words = with_last_one (map symbol_of_word words)

-- the word at a place of a draw: the streams from 16 on are those of links, and a draw has 256 places of its link's. A word takes
-- ten double rounds
unfoldable pub draw_word : List ℕ → ℕ → ℕ → ℕ → ℕ
draw_word key link q place = word_at 10 (key_of key) (16 + link) (256 * q + place)

-- the coefficients of a draw over n packets: those of its first n words
unfoldable pub draw_coefficients : List ℕ → ℕ → ℕ → ℕ → List ℕ
draw_coefficients key link q n = coefficients_of_words (map (draw_word key link q) (range_with_len 0 n))

-- the packet drawn over a front: the combination of its packets with the draw's coefficients
abbrev pub drawn_packet : ℕ → ℕ → ℕ → List ℕ → ℕ → ℕ → List Packet → Packet
drawn_packet k s generation key link q front =
    let coefficients = draw_coefficients key link q (length front) in record {
      generation = generation;
      coeffs = combination_of k coefficients (coefficients_of front);
      payload = combination_of s coefficients (payloads_of front);
    }

-- what a polluted draw adds: the symbol of its last word, or 1 where that is zero
unfoldable pub pollution_of : List ℕ → ℕ → ℕ → ℕ
pollution_of key link q =
    let symbol = symbol_of_word (draw_word key link q 255) in if symbol == 0 then 1 else symbol

-- a packet with a draw's pollution added to the first symbol of its payload
abbrev pub polluted_packet : List ℕ → ℕ → ℕ → Packet → Packet
polluted_packet key link q packet =
    record packet { payload = slice_set packet.payload 0 (sum_of (slice_index packet.payload 0) (pollution_of key link q)) }

-- the answer of a draw over n packets
abbrev pub drawn_over : ℕ → Drawn
drawn_over n = if n == 0 then Nothing else Sent n

-- what a draw leaves in a packet that was handed in: the packet drawn, or at Nothing the packet as it was
abbrev pub left_by : Drawn → Packet → Packet → Packet
left_by (Sent front) drawn before = drawn
left_by Nothing drawn before = before

-- the numbers of a generation's draws: each generation has as many, one generation after another
abbrev pub numbers_of : ℕ → ℕ → List ℕ
numbers_of coded generation = range_with_len (generation * coded) coded

-- the tag of a draw as a call: it tells the link and the number of the draw
abbrev pub tag_of_draw : ℕ → ℕ → ℕ
tag_of_draw link q = link * 2 ^ 32 + q
