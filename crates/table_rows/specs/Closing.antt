-- What the words of a table are when it is closed: they meet the rule with the founder's view, and so hold all that was seen.
use Rattle.std.specs.Prelude.{◌≡◌, ℕ, ◌+◌, ◌<◌, ◌≤◌, List, [], ◌++◌, length, take, slice_index, slice_index_or, Some, None}
use Rattle.std.specs.List.{All}
use mathlib.Core.Option as maybe
use lib.ListN.{get_elem?}
use Rattle.table_rows.specs.declared.view.Parameters.{Parameters}
use Rattle.table_rows.specs.declared.view.Front.{Front}
use Rattle.table_rows.specs.declared.view.FounderView.{FounderView}
use Rattle.table_rows.specs.declared.view.View.{View}
use Rattle.table_rows.specs.declared.view.View.TheVariants.{Founder}
use Rattle.table_rows.specs.Layout.{basis_length, length_of, regions_of}
use Rattle.table_rows.specs.Good.{IsGood, offers_of}
use Rattle.table_rows.specs.Views.{IsReadWhole, words_read}
use Rattle.table_rows.specs.Rule.{TableRule}

-- the front is the first part of what the directory has, and if it was read whole, these are the words of the first regions
pub record StandsAmong (p : Parameters) (words : List ℕ) (front : Front) : Type 0 where
  pub prefix : (later : List ℕ) × (take (length_of p.k words) words ≡ front.known ++ later)
  pub regions : IsReadWhole front → words_read front ≡ take (length front.known) (regions_of p.k p.s words)

-- the words at the end: they meet the rule with the founder's view. So there are as many as a basis has; the directory names
-- regions that there are, of numbers at most the passes plus its length; the records are good; each front that was brought
-- together stands among them; each own list is that of the records of its number; and a number that was not given has none
pub record IsClosed (p : Parameters) (f : FounderView) (words : List ℕ) : Type 0 where
  pub rule : (views : List View) × (seat : ℕ) × TableRule p words views × (get_elem? views seat ≡ maybe.some (Founder f))
  pub count : length words ≡ basis_length p.k p.s p.passes
  pub within : (n : ℕ) → n < length_of p.k words
      → (1 ≤ slice_index words n) × (slice_index words n ≤ p.passes + length_of p.k words)
  pub good : IsGood p (regions_of p.k p.s words)
  pub front : StandsAmong p words f.sight.front
  pub olds : All (StandsAmong p words) f.sight.olds
  pub own : (m : ℕ) (own : List (ℕ × ℕ)) → slice_index_or f.joined m None ≡ Some own → own ≡ offers_of m (regions_of p.k p.s words)
  pub others : (m : ℕ) → length f.joined ≤ m → offers_of m (regions_of p.k p.s words) ≡ []
