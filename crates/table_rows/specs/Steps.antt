-- What each kind of step changes in views, and what it tells.
-- before, after: the view of the seat that steps. found: the word that was loaded or found. draft: the region that the caller
-- writes alone.
use Rattle.std.specs.Prelude.{◌≡◌, ◌≢◌, ℕ, ◌+◌, ◌<◌, ◌≤◌, List, [], ◌∷◌, ◌++◌, length, slice_index, slice_set, Some, None}
use Rattle.std.specs.List.{All}
use Rattle.atomic_table.specs.Table.{Me, Step}
use Rattle.table_rows.specs.declared.view.Sight.{Sight}
use Rattle.table_rows.specs.declared.view.CallerView.{CallerView}
use Rattle.table_rows.specs.declared.view.FounderView.{FounderView}
use Rattle.table_rows.specs.declared.view.View.{View}
use Rattle.table_rows.specs.declared.view.View.TheVariants.{Founder, Caller, Note, Spent}
use Rattle.table_rows.specs.Layout.{place_of, call_in, caller_in}
use Rattle.table_rows.specs.Views.{width_of, blank_row, words_of_row, row_with, with_region, with_word, with_words, new_caller, noted, joined_sight, IsReadWhole, IsPartOf, words_read, word_read, as_sight, as_caller}
use Rattle.table_rows.specs.Good.{IsGood, offers_of}

-- a look or a lost exchange that found this region
abbrev pub after_found : CallerView → ℕ → CallerView
after_found v region = record v {
  sight = record v.sight { front = with_region v.sight.front region (blank_row (width_of v.sight.parameters)) };
  moves = v.moves + 1;
}

-- a look that found no region
abbrev pub after_empty : CallerView → CallerView
after_empty v = record v { empty_looks = v.empty_looks + 1; last_empty = length v.sight.front.known; moves = v.moves + 1 }

-- a read of this word at a place of region n
abbrev pub after_read : CallerView → ℕ → ℕ → ℕ → CallerView
after_read v n place word = record v { sight = record v.sight { front = with_word v.sight.front n place word }; reads = v.reads + 1 }

-- a write of this word at a place of the draft
abbrev pub after_write : CallerView → ℕ → ℕ → CallerView
after_write v place word = record v { written = slice_set v.written place (Some word) }

-- reads of these words at the first places of region n, in their order
abbrev pub after_reads : CallerView → ℕ → List ℕ → CallerView
after_reads v n words = record v { sight = record v.sight { front = with_words v.sight.front n words }; reads = v.reads + length words }

-- writes of these words at the first places of the draft, in their order
abbrev pub after_writes : CallerView → List ℕ → CallerView
after_writes v words = record v { written = row_with v.written words }

-- the words of the draft
abbrev pub draft_words : CallerView → List ℕ
draft_words v = words_of_row v.written

-- an exchange that was won: the draft is the next region of the directory, and known and read
abbrev pub after_win : CallerView → CallerView
after_win v = record v {
  sight = record v.sight { front = with_region v.sight.front v.draft v.written };
  draft = v.sight.parameters.passes + length v.sight.front.known + 1;
  written = blank_row (width_of v.sight.parameters);
  own = v.own ++ (length v.sight.front.known, call_in (draft_words v)) ∷ [];
  moves = v.moves + 1;
}

-- the founder after one number more was given
abbrev pub after_number : FounderView → FounderView
after_number f = record f { joined = f.joined ++ None ∷ [] }

-- the caller that took in a note
abbrev pub after_join_note : CallerView → Sight → CallerView
after_join_note v note = record v { sight = joined_sight v.sight note }

-- the founder that took in a caller
abbrev pub after_join_caller : FounderView → CallerView → FounderView
after_join_caller f v = record { sight = joined_sight f.sight v.sight; joined = slice_set f.joined v.number (Some v.own) }

-- what a sight has, whatever the words are: as many rows as regions, all of one width, and regions that there are
pub record IsSight (s : Sight) : Type 0 where
  pub count : length s.front.known ≤ s.parameters.k
  pub regions : All (λ region. (1 ≤ region) × (region ≤ s.parameters.passes + s.parameters.k)) s.front.known
  pub rows : length s.front.read ≡ length s.front.known
  pub wide : All (λ row. length row ≡ width_of s.parameters) s.front.read

-- the same of a caller's view
pub record IsCaller (v : CallerView) : Type 0 where
  pub sight : IsSight v.sight
  pub draft : (1 ≤ v.draft) × (v.draft ≤ v.sight.parameters.passes + v.sight.parameters.k)
  pub written : length v.written ≡ width_of v.sight.parameters

-- what a step tells of a sight: fronts that were brought together are parts of its own; and where all its regions were read,
-- their records are good, the own list is that of the caller's records, and each names a caller that has a number
pub record IsSoundView (v : CallerView) : Type 0 where
  pub shaped : IsCaller v
  pub olds : All (λ old. IsPartOf old v.sight.front) v.sight.olds
  pub good : IsReadWhole v.sight.front → IsGood v.sight.parameters (words_read v.sight.front)
  pub own : IsReadWhole v.sight.front → v.own ≡ offers_of v.number (words_read v.sight.front)
  pub callers : IsReadWhole v.sight.front
      → All (λ region. caller_in region < v.sight.parameters.passes) (words_read v.sight.front)

-- the words that a caller may load, store or exchange: the next of the directory, a word of a region that it knows, of its draft
abbrev pub IsNextWord : CallerView → ℕ → Type 0
IsNextWord v word = (word ≡ length v.sight.front.known) × (word < v.sight.parameters.k)

pub record IsKnownWord (v : CallerView) (word : ℕ) : Type 0 where
  pub n : ℕ
  pub place : ℕ
  pub known : n < length v.sight.front.known
  pub within : place < width_of v.sight.parameters
  pub word_is : word ≡ place_of v.sight.parameters.k v.sight.parameters.s (slice_index v.sight.front.known n) place

pub record IsDraftWord (v : CallerView) (word : ℕ) : Type 0 where
  pub place : ℕ
  pub within : place < width_of v.sight.parameters
  pub word_is : word ≡ place_of v.sight.parameters.k v.sight.parameters.s v.draft place

module _ {S : Type 0} where
  -- a step of a caller: it is a caller afterwards, its view changed in a way that this allows, and is sound; and its word is one
  -- that it may access
  abbrev pub CallerSteps : Me S View → Me S View → (CallerView → CallerView → Type 0) → (CallerView → Type 0) → Type 0
  CallerSteps before after next access =
      (after ≡ (Caller (as_caller after.0), [])) × next (as_caller before.0) (as_caller after.0) × IsSoundView (as_caller after.0)
      × access (as_caller before.0)

  abbrev pub looked : Step S → Me S View → ℕ → Me S View → Type 0
  looked step before found after = CallerSteps before after (λ v w.
      (found ≡ 0 → w ≡ after_empty v) × (found ≢ 0 → w ≡ after_found v found)) (λ v. IsNextWord v step.word)

  abbrev pub was_read : Step S → Me S View → ℕ → Me S View → Type 0
  was_read step before found after = CallerSteps before after (λ v w.
      (n place : ℕ) → n < length v.sight.front.known → place < width_of v.sight.parameters
      → step.word ≡ place_of v.sight.parameters.k v.sight.parameters.s (slice_index v.sight.front.known n) place
      → (w ≡ after_read v n place found) × ((word : ℕ) → word_read v.sight.front.read n place ≡ Some word → found ≡ word))
      (λ v. IsKnownWord v step.word)

  abbrev pub wrote : Step S → Me S View → ℕ → Me S View → Type 0
  wrote step before found after = CallerSteps before after (λ v w.
      (place : ℕ) → place < width_of v.sight.parameters
      → step.word ≡ place_of v.sight.parameters.k v.sight.parameters.s v.draft place → w ≡ after_write v place found)
      (λ v. IsDraftWord v step.word)

  -- from 0 to the own draft
  abbrev pub exchanged : Step S → Me S View → ℕ → Me S View → Type 0
  exchanged step before found after = CallerSteps before after (λ v w.
      (found ≡ 0 → w ≡ after_win v) × (found ≢ 0 → w ≡ after_found v found))
      (λ v. IsNextWord v step.word × (step.first ≡ 0) × (step.second ≡ v.draft))

-- how a view is cut in two, and how two are made one
abbrev pub number_left : View → View
number_left (Founder f) = Founder (after_number f)
number_left (Caller v) = Caller v
number_left (Note s) = Note s
number_left Spent = Spent

abbrev pub number_right : View → View
number_right (Founder f) = Caller (new_caller f.sight.parameters (length f.joined))
number_right (Caller v) = Spent
number_right (Note s) = Spent
number_right Spent = Spent

abbrev pub note_left : View → View
note_left v = v

abbrev pub note_right : View → View
note_right (Caller v) = Note (noted v.sight)
note_right (Founder f) = Spent
note_right (Note s) = Spent
note_right Spent = Spent

abbrev pub join_note_both : View → View → View
join_note_both (Caller v) other = Caller (after_join_note v (as_sight other))
join_note_both (Founder f) other = Founder f
join_note_both (Note s) other = Note s
join_note_both Spent other = Spent

abbrev pub join_caller_both : View → View → View
join_caller_both (Founder f) other = Founder (after_join_caller f (as_caller other))
join_caller_both (Caller v) other = Caller v
join_caller_both (Note s) other = Note s
join_caller_both Spent other = Spent
