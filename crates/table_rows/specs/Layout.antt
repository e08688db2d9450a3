-- How the words of a basis are laid out (docs/FORMATS.md).
-- k, s: the numbers of coefficients and of payload symbols of each packet. passes: the number of callers. words: all words
-- of a basis. region: the words of one region, or its number where a number is meant.
use Rattle.std.specs.Prelude.{ℕ, ◌+◌, ◌-◌, ◌*◌, ◌/◌, ◌%◌, ◌^◌, ◌==◌, List, [], ◌∷◌, ◌++◌, map, take, drop, length, slice_index}
use Rattle.std.specs.List.{flat_map, position_or_len, range_with_len}
use Rattle.linear_spec.specs.declared.packet.Packet.{Packet}
use Rattle.linear_spec.specs.declared.record.Record.{Record}

-- how many words n symbols take: four stand in each
abbrev pub words_for : ℕ → ℕ
words_for n = (n + 3) / 4

-- the number of words of a region: two, then packet and row, coefficients and payload each by themselves
abbrev pub region_length : ℕ → ℕ → ℕ
region_length k s = 2 + 2 * (words_for k + words_for s)

-- the number of words of a basis: the directory, then the regions
abbrev pub basis_length : ℕ → ℕ → ℕ → ℕ
basis_length k s passes = k + (passes + k) * region_length k s

-- the place of a word of a region; regions are numbered from 1
abbrev pub place_of : ℕ → ℕ → ℕ → ℕ → ℕ
place_of k s region place = k + (region - 1) * region_length k s + place

-- the word of up to four symbols, the first in the highest 16 bits
abbrev pub packed_of : List ℕ → ℕ
packed_of symbols = slice_index symbols 0 * 2 ^ 48 + slice_index symbols 1 * 2 ^ 32 + slice_index symbols 2 * 2 ^ 16 + slice_index symbols 3

-- the four symbols of a word
abbrev pub symbols_in : ℕ → List ℕ
symbols_in word = (word / 2 ^ 48 % 2 ^ 16) ∷ (word / 2 ^ 32 % 2 ^ 16) ∷ (word / 2 ^ 16 % 2 ^ 16) ∷ (word % 2 ^ 16) ∷ []

-- the words of symbols, four after four
abbrev pub packed_words_of : List ℕ → List ℕ
packed_words_of symbols = map (λ at. packed_of (drop (4 * at) symbols)) (range_with_len 0 (words_for (length symbols)))

-- the first n symbols of words
abbrev pub unpacked_of : ℕ → List ℕ → List ℕ
unpacked_of n words = take n (flat_map symbols_in words)

-- how many words of the directory stand before its first 0
abbrev pub length_of : ℕ → List ℕ → ℕ
length_of k words = position_or_len (λ word. word == 0) (take k words)

-- the words of the region of a number
abbrev pub region_of : ℕ → ℕ → List ℕ → ℕ → List ℕ
region_of k s words region = take (region_length k s) (drop (place_of k s region 0) words)

-- the caller and the call that a region names
abbrev pub caller_in : List ℕ → ℕ
caller_in region = slice_index region 0 / 2 ^ 32

abbrev pub call_in : List ℕ → ℕ
call_in region = slice_index region 0 % 2 ^ 32

-- the pivot that a region names
abbrev pub pivot_in : List ℕ → ℕ
pivot_in region = slice_index region 1

-- the packet in a region
abbrev pub packet_in : ℕ → ℕ → ℕ → List ℕ → Packet
packet_in generation k s region = record {
  generation = generation;
  coeffs = unpacked_of k (drop 2 region);
  payload = unpacked_of s (drop (2 + words_for k) region);
}

-- the row in a region
abbrev pub row_in : ℕ → ℕ → ℕ → List ℕ → Packet
row_in generation k s region = record {
  generation = generation;
  coeffs = unpacked_of k (drop (2 + words_for k + words_for s) region);
  payload = unpacked_of s (drop (2 + words_for k + words_for s + words_for k) region);
}

-- the record in a region
abbrev pub record_in : ℕ → ℕ → ℕ → List ℕ → Record
record_in generation k s region = record { caller = caller_in region; call = call_in region; packet = packet_in generation k s region }

-- the regions that the directory names, in order
abbrev pub regions_of : ℕ → ℕ → List ℕ → List (List ℕ)
regions_of k s words = map (region_of k s words) (take (length_of k words) words)

-- the records of the words: what stands in the regions that the directory names
abbrev pub records_of_words : ℕ → ℕ → ℕ → List ℕ → List Record
records_of_words generation k s words = map (record_in generation k s) (regions_of k s words)

-- the rows of the words, and their pivots
abbrev pub rows_of_words : ℕ → ℕ → ℕ → List ℕ → List Packet
rows_of_words generation k s words = map (row_in generation k s) (regions_of k s words)

abbrev pub pivots_of_words : ℕ → ℕ → List ℕ → List ℕ
pivots_of_words k s words = map pivot_in (regions_of k s words)

-- the words of a region for a record, its row, and the row's pivot
abbrev pub region_for : Record → ℕ → Packet → List ℕ
region_for r pivot row =
    (r.caller * 2 ^ 32 + r.call) ∷ pivot
    ∷ (packed_words_of r.packet.coeffs ++ (packed_words_of r.packet.payload ++ (packed_words_of row.coeffs ++ packed_words_of row.payload)))
