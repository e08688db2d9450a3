-- What the views of seats hold, in words of a front: which regions are known, and which of their words were read.
-- n: the place of a region in the directory, so the position of its record. place: the place of a word in its region. row: for
-- each place of a region its word, where it was read or written.
use Rattle.std.specs.Prelude.{◌≡◌, ℕ, ◌+◌, max, List, [], ◌∷◌, ◌++◌, map, drop, length, replicate, slice_index_or, slice_set, cond, nat_lt, Option, Some, None, IsSome, unwrap_or}
use Rattle.std.specs.List.{All, range_with_len}
use Rattle.linear_spec.specs.declared.equations.Equations.{Equations}
use Rattle.table_rows.specs.declared.view.Parameters.{Parameters}
use Rattle.table_rows.specs.declared.view.Front.{Front}
use Rattle.table_rows.specs.declared.view.Sight.{Sight}
use Rattle.table_rows.specs.declared.view.CallerView.{CallerView}
use Rattle.table_rows.specs.declared.view.FounderView.{FounderView}
use Rattle.table_rows.specs.declared.view.View.{View}
use Rattle.table_rows.specs.declared.view.View.TheVariants.{Founder, Caller, Note, Spent}
use Rattle.table_rows.specs.Layout.{region_length}

-- the number of words of a region
abbrev pub width_of : Parameters → ℕ
width_of p = region_length p.k p.s

-- what a row has at a place
abbrev pub at_place : List (Option ℕ) → ℕ → Option ℕ
at_place row place = slice_index_or row place None

-- what was read at a place of region n
abbrev pub word_read : List (List (Option ℕ)) → ℕ → ℕ → Option ℕ
word_read read n place = at_place (slice_index_or read n []) place

-- a row of which nothing was read or written
abbrev pub blank_row : ℕ → List (Option ℕ)
blank_row width = replicate width None

-- the words of a row, with 0 where there is none
abbrev pub words_of_row : List (Option ℕ) → List ℕ
words_of_row row = map (λ word. unwrap_or word 0) row

-- the words read of each region that is known
abbrev pub words_read : Front → List (List ℕ)
words_read front = map words_of_row front.read

-- a row has a word at each of its places
abbrev pub IsWhole : List (Option ℕ) → Type 0
IsWhole row = All IsSome row

-- every word of every known region was read
abbrev pub IsReadWhole : Front → Type 0
IsReadWhole front = All IsWhole front.read

-- one front is a part of another: what it knows is a prefix, and what was read in it was read in the other as the same word
pub record IsPartOf (small large : Front) : Type 0 where
  pub prefix : (later : List ℕ) × (large.known ≡ small.known ++ later)
  pub words : (n place word : ℕ) → word_read small.read n place ≡ Some word → word_read large.read n place ≡ Some word

-- the front with one region more, of which the row was read
abbrev pub with_region : Front → ℕ → List (Option ℕ) → Front
with_region front region row = record { known = front.known ++ region ∷ []; read = front.read ++ row ∷ [] }

-- the front with one word more that was read
abbrev pub with_word : Front → ℕ → ℕ → ℕ → Front
with_word front n place word =
    record front { read = slice_set front.read n (slice_set (slice_index_or front.read n []) place (Some word)) }

-- the row with these words at its first places
abbrev pub row_with : List (Option ℕ) → List ℕ → List (Option ℕ)
row_with row words = map Some words ++ drop (length words) row

-- the front with these words read at the first places of region n
abbrev pub with_words : Front → ℕ → List ℕ → Front
with_words front n words = record front { read = slice_set front.read n (row_with (slice_index_or front.read n []) words) }

-- the longer of two lists, the first where they are of one length
abbrev pub longer_of : List ℕ → List ℕ → List ℕ
longer_of a b = cond (nat_lt (length a) (length b)) b a

-- the first word that there is
abbrev pub first_word : Option ℕ → Option ℕ → Option ℕ
first_word (Some word) other = Some word
first_word None other = other

-- all words that were read in one of two fronts, in regions of this width
abbrev pub joined_read : ℕ → List (List (Option ℕ)) → List (List (Option ℕ)) → List (List (Option ℕ))
joined_read width a b =
    map (λ n. map (λ place. first_word (word_read a n place) (word_read b n place)) (range_with_len 0 width))
    (range_with_len 0 (max (length a) (length b)))

-- of two fronts the longer one, with the words that either has read
abbrev pub joined_front : ℕ → Front → Front → Front
joined_front width a b = record { known = longer_of a.known b.known; read = joined_read width a.read b.read }

-- the sight of a seat that takes in another's: both fronts and the other's olds are among its olds
abbrev pub joined_sight : Sight → Sight → Sight
joined_sight a b = record {
  parameters = a.parameters;
  front = joined_front (width_of a.parameters) a.front b.front;
  olds = a.front ∷ b.front ∷ (a.olds ++ b.olds);
}

-- a sight of nothing
abbrev pub first_sight : Parameters → Sight
first_sight p = record { parameters = p; front = record { known = []; read = [] }; olds = [] }

-- the founder's view when the table is made: it has given no number
abbrev pub first_founder : Parameters → FounderView
first_founder p = record { sight = first_sight p; joined = [] }

-- the view of a new caller: it has seen nothing, and its draft is the region after its number
abbrev pub new_caller : Parameters → ℕ → CallerView
new_caller p number = record {
  sight = first_sight p;
  number = number;
  draft = number + 1;
  written = blank_row (width_of p);
  own = [];
  empty_looks = 0;
  last_empty = 0;
  moves = 0;
  reads = 0;
}

-- the view of a note of a sight: what is known and read
abbrev pub noted : Sight → Sight
noted sight = record { parameters = sight.parameters; front = sight.front; olds = [] }

-- equations, parameters and views that stand in where a view is another kind's
abbrev no_equations : Equations
no_equations = record { checks = 0; k = 0; s = 0; generations = 0; weights = []; sums = [] }

abbrev pub no_parameters : Parameters
no_parameters = record { generation = 0; k = 0; s = 0; passes = 0; equations = record { marker = record {}; value = no_equations } }

-- the caller's view, the founder's view or the note's sight that a view is
abbrev pub as_caller : View → CallerView
as_caller (Founder founder) = new_caller no_parameters 0
as_caller (Caller caller) = caller
as_caller (Note sight) = new_caller no_parameters 0
as_caller Spent = new_caller no_parameters 0

abbrev pub as_founder : View → FounderView
as_founder (Founder founder) = founder
as_founder (Caller caller) = first_founder no_parameters
as_founder (Note sight) = first_founder no_parameters
as_founder Spent = first_founder no_parameters

abbrev pub as_sight : View → Sight
as_sight (Founder founder) = founder.sight
as_sight (Caller caller) = caller.sight
as_sight (Note sight) = sight
as_sight Spent = first_sight no_parameters
