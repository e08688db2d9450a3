-- The rule of the table: what its words and its views have to do with one another, between any two steps.
-- p: the parameters. dir: the regions that the directory names. log: the words of each of them. use: what a region is used for.
-- seat: the number of a seat, which is the place of its view.
use Rattle.std.specs.Prelude.{◌≡◌, ℕ, ◌+◌, ◌<◌, ◌≤◌, List, [], ◌++◌, length, slice_index, slice_index_or, Option, Some, None}
use Rattle.std.specs.List.{All}
use mathlib.Core.Option as maybe
use lib.ListN.{get_elem?}
use Rattle.atomic_table.specs.Table.{State}
use Rattle.table_rows.specs.declared.view.Parameters.{Parameters}
use Rattle.table_rows.specs.declared.view.Front.{Front}
use Rattle.table_rows.specs.declared.view.Sight.{Sight}
use Rattle.table_rows.specs.declared.view.CallerView.{CallerView}
use Rattle.table_rows.specs.declared.view.FounderView.{FounderView}
use Rattle.table_rows.specs.declared.view.View.{View}
use Rattle.table_rows.specs.declared.view.View.TheVariants.{Founder, Caller, Note, Spent}
use Rattle.table_rows.specs.Layout.{basis_length, place_of}
use Rattle.table_rows.specs.Views.{width_of, at_place, word_read}
use Rattle.table_rows.specs.Views.{IsPartOf}
use Rattle.table_rows.specs.Good.{IsGood, offers_of}

-- what a region is used for
pub data Use : Type 0 where
  nothing : Use
  draft_of : ℕ → Use
  record_at : ℕ → Use

-- what stands behind the words and the views
pub record World : Type 0 where
  pub dir : List ℕ
  pub log : List (List ℕ)
  pub uses : ℕ → Use
  -- the seat of the caller with a number
  pub owner : ℕ → ℕ
  -- the founder's seat
  pub desk : ℕ
  -- for each number given, the own list of the caller, once that was joined into the founder
  pub joined : List (Option (List (ℕ × ℕ)))

-- (the words) the directory is as long as the log and 0 after that; its words name regions, where the words of the log stand
pub record AreLaidOut (p : Parameters) (w : World) (words : List ℕ) : Type 0 where
  pub count : length words ≡ basis_length p.k p.s p.passes
  pub named : (n : ℕ) → n < length w.dir → slice_index words n ≡ slice_index w.dir n
  pub empty : (n : ℕ) → length w.dir ≤ n → n < p.k → slice_index words n ≡ 0
  pub regions : (n place : ℕ) → n < length w.dir → place < width_of p
      → slice_index words (place_of p.k p.s (slice_index w.dir n) place) ≡ slice_index (slice_index_or w.log n []) place

-- (the counts) regions of the directory differ and are at most the passes plus the length; regions that no seat has reached
-- are used for nothing; the records are good; the joined lists are those of the records, and a number not given has none
pub record AreCounted (p : Parameters) (w : World) : Type 0 where
  pub short : length w.dir ≤ p.k
  pub logged : length w.log ≡ length w.dir
  pub wide : All (λ region. length region ≡ width_of p) w.log
  pub within : (n : ℕ) → n < length w.dir → (1 ≤ slice_index w.dir n) × (slice_index w.dir n ≤ p.passes + length w.dir)
  pub placed : (n : ℕ) → n < length w.dir → w.uses (slice_index w.dir n) ≡ record_at n
  pub later : (region : ℕ) → p.passes + length w.dir < region → w.uses region ≡ nothing
  pub not_given : (m : ℕ) → length w.joined ≤ m → m < p.passes → w.uses (m + 1) ≡ nothing
  pub given : length w.joined ≤ p.passes
  pub good : IsGood p w.log
  pub silent : (m : ℕ) → length w.joined ≤ m → offers_of m w.log ≡ []
  pub joined_own : (m : ℕ) (own : List (ℕ × ℕ)) → slice_index_or w.joined m None ≡ Some own → own ≡ offers_of m w.log

-- (a front) what is known is a prefix of the directory, and the words that were read stand there
pub record StandsIn (p : Parameters) (w : World) (front : Front) : Type 0 where
  pub prefix : (later : List ℕ) × (w.dir ≡ front.known ++ later)
  pub rows : length front.read ≡ length front.known
  pub wide : All (λ row. length row ≡ width_of p) front.read
  pub words : (n place word : ℕ) → word_read front.read n place ≡ Some word → word ≡ slice_index (slice_index_or w.log n []) place

-- (a sight) it has the parameters, its front stands, and so do its olds, each a part of its front
pub record Sees (p : Parameters) (w : World) (s : Sight) : Type 0 where
  pub parameters : s.parameters ≡ p
  pub front : StandsIn p w s.front
  pub olds : All (λ old. StandsIn p w old × IsPartOf old s.front) s.olds

-- (a caller) its number is given and its own; its draft is used by it alone and has the words that it wrote; its own list is
-- that of the records with its number, all of which it knows
pub record CallerKnows (p : Parameters) (w : World) (words : List ℕ) (seat : ℕ) (v : CallerView) : Type 0 where
  pub sight : Sees p w v.sight
  pub number : v.number < length w.joined
  pub not_joined : slice_index_or w.joined v.number None ≡ None
  pub owner : w.owner v.number ≡ seat
  pub draft : w.uses v.draft ≡ draft_of seat
  pub draft_from : 1 ≤ v.draft
  pub draft_to : v.draft ≤ p.passes + length w.dir
  pub row : length v.written ≡ width_of p
  pub written : (place word : ℕ) → place < width_of p → at_place v.written place ≡ Some word
      → slice_index words (place_of p.k p.s v.draft place) ≡ word
  pub own : v.own ≡ offers_of v.number w.log
  pub own_known : All (λ offer. offer.0 < length v.sight.front.known) v.own

-- (the founder) there is one, and it knows what was joined
pub record FounderKnows (p : Parameters) (w : World) (seat : ℕ) (f : FounderView) : Type 0 where
  pub sight : Sees p w f.sight
  pub desk : seat ≡ w.desk
  pub joined : f.joined ≡ w.joined

-- what each kind of seat knows; a spent one knows nothing
abbrev pub Knows : Parameters → World → List ℕ → ℕ → View → Type 0
Knows p w words seat (Founder f) = FounderKnows p w seat f
Knows p w words seat (Caller v) = CallerKnows p w words seat v
Knows p w words seat (Note s) = Sees p w s
Knows p w words seat Spent = Unit {0}

-- (the views) each seat knows what its kind knows; one is the founder's; and each number given is a caller's or was joined
pub record AreSeated (p : Parameters) (w : World) (words : List ℕ) (views : List View) : Type 0 where
  pub founded : (f : FounderView) × (get_elem? views w.desk ≡ maybe.some (Founder f))
  pub owned : (m : ℕ) → m < length w.joined → slice_index_or w.joined m None ≡ None
      → (v : CallerView) × (get_elem? views (w.owner m) ≡ maybe.some (Caller v)) × (v.number ≡ m)
  pub each : (seat : ℕ) (view : View) → get_elem? views seat ≡ maybe.some view → Knows p w words seat view

-- the rule
pub record TableRule (p : Parameters) (words : List ℕ) (views : List View) : Type 0 where
  pub world : World
  pub laid : AreLaidOut p world words
  pub counted : AreCounted p world
  pub seated : AreSeated p world words views

abbrev pub holds : {S : Type 0} → Parameters → State S View → Type 0
holds p s = TableRule p s.words s.views
