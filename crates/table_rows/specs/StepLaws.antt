-- The statements of the laws on words: that each kind of step keeps the rule and accesses its own word, and what the rule says
-- of the words at the end.
use Rattle.std.specs.Prelude.{◌==◌, ◌≡◌, ℕ, ◌<◌, List, [], ◌∷◌, length, slice_index, replicate}
use mathlib.Core.Option.{none, some}
use prog.Atomic.{either}
use lib.ListN.{get_elem?}
use Rattle.atomic_table.specs.Table.{Me, Step, step, Allows, Joins, Splits}
use Rattle.table_rows.specs.declared.view.CallerView.{CallerView}
use Rattle.table_rows.specs.declared.view.FounderView.{FounderView}
use Rattle.table_rows.specs.declared.view.Parameters.{Parameters}
use Rattle.table_rows.specs.declared.view.Sight.{Sight}
use Rattle.table_rows.specs.declared.view.View.{View}
use Rattle.table_rows.specs.declared.view.View.TheVariants.{Caller, Founder, Note, Spent}
use Rattle.table_rows.specs.Closing.{IsClosed}
use Rattle.table_rows.specs.Good.{IsNextRegion}
use Rattle.table_rows.specs.Layout.{basis_length, caller_in, place_of}
use Rattle.table_rows.specs.Rule.{TableRule, holds}
use Rattle.table_rows.specs.Steps.{IsDraftWord, IsKnownWord, IsNextWord, draft_words, exchanged, join_caller_both, join_note_both, looked, note_left, note_right, number_left, number_right, was_read, wrote}
use Rattle.table_rows.specs.Views.{IsReadWhole, IsWhole, as_caller, first_founder, width_of, words_read}

-- words that are all 0 and the view of a founder that has given no number meet the rule
abbrev pub OpeningLaw : Type 0
OpeningLaw = (p : Parameters) → TableRule p (replicate (basis_length p.k p.s p.passes) 0) (Founder (first_founder p) ∷ [])

-- a load of the next word of the directory
abbrev pub LookLaw : Type 0
LookLaw = (slots seat n : ℕ) (v : CallerView) → n ≡ length v.sight.front.known → n < v.sight.parameters.k
    → Allows {S = Unit {0}} (holds v.sight.parameters) slots seat (Caller v, []) n (λ x. x) (looked (step slots n 0 0 none) (Caller v, []))

-- a load of a word of a region that is known
abbrev pub ReadLaw : Type 0
ReadLaw = (slots seat at n place : ℕ) (v : CallerView) → n < length v.sight.front.known → place < width_of v.sight.parameters
    → at ≡ place_of v.sight.parameters.k v.sight.parameters.s (slice_index v.sight.front.known n) place
    → Allows {S = Unit {0}} (holds v.sight.parameters) slots seat (Caller v, []) at (λ x. x) (was_read (step slots at 0 0 none) (Caller v, []))

-- a store to the own draft
abbrev pub WriteLaw : Type 0
WriteLaw = (slots seat at place x : ℕ) (v : CallerView) → place < width_of v.sight.parameters
    → at ≡ place_of v.sight.parameters.k v.sight.parameters.s v.draft place
    → Allows {S = Unit {0}} (holds v.sight.parameters) slots seat (Caller v, []) at (λ _. x) (λ _. wrote (step slots at x 0 none) (Caller v, []) x)

-- an exchange of the next word of the directory from 0 to the own draft, which has a whole record of this caller, such that it
-- may come next after those that were read
abbrev pub ExchangeLaw : Type 0
ExchangeLaw = (slots seat n : ℕ) (v : CallerView) → n ≡ length v.sight.front.known → n < v.sight.parameters.k → IsWhole v.written
    → caller_in (draft_words v) ≡ v.number → IsReadWhole v.sight.front → IsNextRegion v.sight.parameters (words_read v.sight.front) (draft_words v)
    → Allows {S = Unit {0}} (holds v.sight.parameters) slots seat (Caller v, []) n (λ x. either (x == 0) v.draft x) (exchanged (step slots n 0 v.draft none) (Caller v, []))

-- no step accesses a word besides its own, and an exchange is from 0 to the own draft
pub record AccessLaws : Type 0 where
  pub look : (by : Step (Unit {0})) (before after : Me (Unit {0}) View) (found : ℕ) → looked by before found after → IsNextWord (as_caller before.0) by.word
  pub read : (by : Step (Unit {0})) (before after : Me (Unit {0}) View) (found : ℕ) → was_read by before found after → IsKnownWord (as_caller before.0) by.word
  pub write : (by : Step (Unit {0})) (before after : Me (Unit {0}) View) (found : ℕ) → wrote by before found after → IsDraftWord (as_caller before.0) by.word
  pub exchange : (by : Step (Unit {0})) (before after : Me (Unit {0}) View) (found : ℕ) → exchanged by before found after
      → IsNextWord (as_caller before.0) by.word × (by.first ≡ 0) × (by.second ≡ (as_caller before.0).draft)

-- a new caller is cut off the founder
abbrev pub NumberLaw : Type 0
NumberLaw = (seat : ℕ) (f : FounderView) → length f.joined < f.sight.parameters.passes
    → Splits {S = Unit {0}} (holds f.sight.parameters) seat (Founder f) (number_left (Founder f)) (number_right (Founder f))

-- a note of what a caller knows is cut off it
abbrev pub NoteLaw : Type 0
NoteLaw = (seat : ℕ) (v : CallerView) → Splits {S = Unit {0}} (holds v.sight.parameters) seat (Caller v) (note_left (Caller v)) (note_right (Caller v))

-- a note is taken into a caller
abbrev pub JoinNoteLaw : Type 0
JoinNoteLaw = (seat : ℕ) (v : CallerView) (other : ℕ) (note : Sight)
    → Joins {S = Unit {0}} (holds v.sight.parameters) seat (Caller v) other (Note note) (join_note_both (Caller v) (Note note)) Spent

-- a caller is taken into the founder
abbrev pub JoinCallerLaw : Type 0
JoinCallerLaw = (seat : ℕ) (f : FounderView) (other : ℕ) (v : CallerView)
    → Joins {S = Unit {0}} (holds f.sight.parameters) seat (Founder f) other (Caller v) (join_caller_both (Founder f) (Caller v)) Spent

-- words that meet the rule with the founder's view hold what it brought together
abbrev pub ClosingLaw : Type 0
ClosingLaw = (p : Parameters) (f : FounderView) (words : List ℕ) (views : List View) (seat : ℕ)
    → TableRule p words views → get_elem? views seat ≡ some (Founder f) → IsClosed p f words
