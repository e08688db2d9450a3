-- The statements of the laws of the words of regions and of the records in them, of rows that are filled, and of fronts that are
-- brought together.
use Rattle.std.specs.Prelude.{◌≡◌, ◌+◌, ◌*◌, ◌^◌, ◌<◌, ◌≤◌, ℕ, Some, Option, List, [], ◌∷◌, ◌++◌, length, map, take, drop, slice_index, slice_index_or, slice_set}
use Rattle.std.specs.List.{All}
use Rattle.linear_spec.specs.declared.packet.Packet.{Packet}
use Rattle.linear_spec.specs.declared.record.Record.{Record}
use Rattle.linear_spec.specs.Cases.{IsFresh}
use Rattle.linear_spec.specs.Packet.{Fits}
use Rattle.linear_spec.specs.Passing.{Passes}
use Rattle.linear_spec.specs.Rows.{StandForAll}
use Rattle.linear_spec.specs.Symbols.{AreSymbols}
use Rattle.table_rows.specs.declared.view.CallerView.{CallerView}
use Rattle.table_rows.specs.declared.view.Front.{Front}
use Rattle.table_rows.specs.declared.view.Parameters.{Parameters}
use Rattle.table_rows.specs.declared.view.Sight.{Sight}
use Rattle.table_rows.specs.Good.{HasRecord, IsGood, IsNextRegion, packet_at, row_at}
use Rattle.table_rows.specs.Layout.{call_in, caller_in, packed_of, packed_words_of, packet_in, pivot_in, region_for, region_length, row_in, symbols_in, unpacked_of, words_for}
use Rattle.table_rows.specs.Steps.{IsSight, after_read, after_reads, after_write, after_writes}
use Rattle.table_rows.specs.Views.{IsPartOf, IsReadWhole, IsWhole, joined_sight, row_with, with_word, with_words, word_read, words_of_row}

-- packing and unpacking
pub record PackingLaws : Type 0 where
  -- symbols that are packed, with any words behind them, come back
  pub back : (n : ℕ) (symbols rest : List ℕ) → AreSymbols symbols → length symbols ≡ n → unpacked_of n (packed_words_of symbols ++ rest) ≡ symbols
  -- they take as many words as are said
  pub count : (symbols : List ℕ) → length (packed_words_of symbols) ≡ words_for (length symbols)
  -- each word has four of them
  pub word : (symbols : List ℕ) (at : ℕ) → at < words_for (length symbols)
      → slice_index (packed_words_of symbols) at ≡ packed_of (take 4 (drop (4 * at) symbols))
  -- unpacking goes word by word
  pub more : (words : List ℕ) (word n : ℕ) → unpacked_of (4 * length words + n) (words ++ word ∷ [])
      ≡ unpacked_of (4 * length words) words ++ take n (symbols_in word)

-- a record, its row and the row's pivot come back from the words of their region
pub record RegionLaws : Type 0 where
  -- the words are as many as a region has
  pub count : (k s : ℕ) (r : Record) (pivot : ℕ) (row : Packet) → Fits k s r.packet → Fits k s row
      → length (region_for r pivot row) ≡ region_length k s
  -- caller, call and pivot come back
  pub caller : (r : Record) (pivot : ℕ) (row : Packet) → r.call < 2 ^ 32 → caller_in (region_for r pivot row) ≡ r.caller
  pub call : (r : Record) (pivot : ℕ) (row : Packet) → r.call < 2 ^ 32 → call_in (region_for r pivot row) ≡ r.call
  pub pivot : (r : Record) (pivot : ℕ) (row : Packet) → pivot_in (region_for r pivot row) ≡ pivot
  -- so do the packet and its row
  pub packet : (k s : ℕ) (r : Record) (pivot : ℕ) (row : Packet) → Fits k s r.packet → Fits k s row
      → packet_in r.packet.generation k s (region_for r pivot row) ≡ r.packet
  pub row : (k s : ℕ) (r : Record) (pivot : ℕ) (row : Packet) → Fits k s r.packet → Fits k s row
      → row_in row.generation k s (region_for r pivot row) ≡ row

-- good regions, whose records may come one after another
pub record RecordLaws : Type 0 where
  -- what a next region has
  pub next : (p : Parameters) (before : List (List ℕ)) (region : List ℕ) → HasRecord p before region → IsNextRegion p before region
  pub has : (p : Parameters) (before : List (List ℕ)) (region : List ℕ) → IsNextRegion p before region → HasRecord p before region
  -- the first of good regions are good
  pub front : (p : Parameters) (regions : List (List ℕ)) (n : ℕ) → n ≤ length regions → IsGood p regions → IsGood p (take n regions)
  -- their packets fit, pass, and are fresh one after another
  pub fit : (p : Parameters) (regions : List (List ℕ)) → IsGood p regions → All (Fits p.k p.s) (map (packet_at p) regions)
  pub pass : (p : Parameters) (regions : List (List ℕ)) → IsGood p regions → All (Passes p.equations.value) (map (packet_at p) regions)
  pub fresh : (p : Parameters) (regions : List (List ℕ)) → IsGood p regions → (n : ℕ) (packet : Packet) → n < length (map (packet_at p) regions)
      → IsFresh p.k (take n (map (packet_at p) regions)) (slice_index_or (map (packet_at p) regions) n packet)
  -- their rows stand for them
  pub stand : (p : Parameters) (regions : List (List ℕ)) → IsGood p regions
      → StandForAll p.k p.s (map (packet_at p) regions) (map (row_at p) regions)

-- two sights that were brought together: where the one that knew as much or more was read whole, and is a part of what they make,
-- the front is its front
pub record MeetingLaws : Type 0 where
  -- the first sight has as many regions or more
  pub first : (a b : Sight) → b.parameters ≡ a.parameters → IsSight a → IsSight b → IsReadWhole a.front
      → IsPartOf a.front (joined_sight a b).front → length b.front.known ≤ length a.front.known → (joined_sight a b).front ≡ a.front
  -- the second has
  pub second : (a b : Sight) → b.parameters ≡ a.parameters → IsSight a → IsSight b → IsReadWhole b.front
      → IsPartOf b.front (joined_sight a b).front → length a.front.known ≤ length b.front.known → (joined_sight a b).front ≡ b.front

-- a word that was read, and is read again, leaves a front as it is
abbrev pub ReadingLaw : Type 0
ReadingLaw = (front : Front) (n place word : ℕ) → word_read front.read n place ≡ Some word → with_word front n place word ≡ front

-- a row that is filled word by word, from its first place on
pub record FillingLaws : Type 0 where
  -- a draft that is written word by word
  pub unwritten : (v : CallerView) → after_writes v [] ≡ v
  pub write : (v : CallerView) (words : List ℕ) (word : ℕ) → length words < length v.written
      → after_write (after_writes v words) (length words) word ≡ after_writes v (words ++ word ∷ [])
  pub written : (v : CallerView) (words : List ℕ) → length words ≡ length v.written
      → after_writes v words ≡ record v { written = map Some words }
  -- a known region that is read word by word
  pub unread : (v : CallerView) (n : ℕ) → after_reads v n [] ≡ v
  pub read : (v : CallerView) (n : ℕ) (words : List ℕ) (word : ℕ) → n < length v.sight.front.read
      → length words < length (slice_index_or v.sight.front.read n [])
      → after_read (after_reads v n words) n (length words) word ≡ after_reads v n (words ++ word ∷ [])
  pub known : (front : Front) (n : ℕ) (words : List ℕ) → length words ≡ length (slice_index_or front.read n [])
      → with_words front n words ≡ record front { read = slice_set front.read n (map Some words) }
  -- a row with all words is whole, and they are its words
  pub row : (row : List (Option ℕ)) (words : List ℕ) → length words ≡ length row
      → row_with row words ≡ map Some words
  pub whole : (words : List ℕ) → IsWhole (map Some words)
  pub back : (words : List ℕ) → words_of_row (map Some words) ≡ words
