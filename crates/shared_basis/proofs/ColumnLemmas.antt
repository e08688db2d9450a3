-- Columns marked as missing until a row has its pivot there, and the pivots that the regions of a desk name.
use Rattle.std.proofs.Common.{◌≡◌, ⊎_elim, ◌↔◌, ℕ, zero, suc, ◌+◌, ◌<◌, Bool, true, false, not, eqb, ◌||◌, List, [], ◌∷◌, ◌++◌, length, get_or, set, take, Some, refl, sym, ap, ◌∙◌, subst, arith}
use Rattle.std.specs.List.{Contains, filter, list_any, range_with_len}
use Rattle.std.proofs.lemmas.Bool.{cases_eq, eq-eqb, ne_eqb, true≢false}
use Rattle.std.proofs.lemmas.List.{get_or-map, get_or-set_other, get_or-set_same, length-set}
use Rattle.std.proofs.lemmas.List.Elements.{All-contains, filter_passes}
use Rattle.std.proofs.lemmas.List.Folds.{list_any-append}
use Rattle.std.proofs.lemmas.List.FromFn.{length-range_with_len, get_or-range_with_len}
use Rattle.linear_spec.specs.declared.packet.Packet.{Packet}
use Rattle.linear_spec.specs.Rows.{missing_columns_of, pivot_of}
use Rattle.table_rows.specs.declared.view.Front.{Front}
use Rattle.table_rows.specs.declared.view.Parameters.{Parameters}
use Rattle.table_rows.specs.Good.{HasRecord, IsNextRegion, row_at}
use Rattle.table_rows.specs.Layout.{pivot_in}
use Rattle.table_rows.specs.Views.{IsReadWhole, word_read, words_read}
use Rattle.shared_basis.specs.declared.desk.Desk.{Desk}
use Rattle.shared_basis.specs.Desks.{IsDesk}
use Rattle.shared_basis.specs.Regions.{regions_seen, rows_seen}
use Rattle.shared_basis.proofs.FillLemmas.{word_there}

-- whether no row has its pivot at the column
abbrev pub is_missing : List Packet → ℕ → Bool
is_missing rows column = not (list_any (λ row. eqb (pivot_of row) column) rows)

-- a flag for each of k columns tells whether it is missing from the rows
pub record AreMarked (k : ℕ) (rows : List Packet) (flags : List Bool) : Type 0 where
  pub count : length flags ≡ k
  pub each : (column : ℕ) → column < k → get_or flags column false ≡ is_missing rows column

-- an element that passes is among those that pass
Contains-filter : (p : ℕ → Bool) (xs : List ℕ) (x : ℕ) → Contains xs x → p x ≡ true → Contains (filter p xs) x
Contains-filter p xs x found holds = go xs found.0 found.1 found.2
  where
    go : (xs : List ℕ) (i : ℕ) → i < length xs → get_or xs i x ≡ x → Contains (filter p xs) x
    go [] i below e = absurd (omega arith)
    go (y ∷ ys) zero below e = at_first (p y) refl
      where
        at_first : (b : Bool) → p y ≡ b → Contains (filter p (y ∷ ys)) x
        at_first true passes = rw (passes) (0, omega arith, e)
        at_first false fails = absurd (true≢false (sym holds ∙ ap p (sym e) ∙ fails))
    go (y ∷ ys) (suc i) below e = later (p y) refl (go ys i (omega arith) e)
      where
        later : (b : Bool) → p y ≡ b → Contains (filter p ys) x → Contains (filter p (y ∷ ys)) x
        later true passes rest = rw (passes) (suc rest.0, (let inside = rest.1 in omega arith), rest.2)
        later false fails rest = rw (fails) rest

-- the flags are true exactly at the missing columns
pub marked_columns : (k : ℕ) (rows : List Packet) (flags : List Bool) → AreMarked k rows flags → (column : ℕ) → column < k
    → (get_or flags column false ≡ true) ↔ Contains (missing_columns_of k rows) column
marked_columns k rows flags marked column below =
    let same : 0 + column ≡ column = omega arith in
    let inside : Contains (range_with_len 0 k) column = (
      column,
      subst (λ n. column < n) (sym
          (length-range_with_len 0 k)) below,
      get_or-range_with_len 0 k column column below ∙ same,
    ) in (
      (λ told. Contains-filter (is_missing rows) (range_with_len 0 k) column inside (sym (marked.each column below) ∙ told)),
      (λ found. marked.each column below
          ∙ All-contains (λ x. is_missing rows x
          ≡ true) (missing_columns_of k rows) column (filter_passes (is_missing rows) (range_with_len 0 k)) found),
    )

or_true : (b : Bool) → (b || true) ≡ true
or_true true = refl
or_true false = refl

or_false : (b : Bool) → (b || false) ≡ b
or_false true = refl
or_false false = refl

-- before any row all columns are missing
pub marked_none : (k : ℕ) (flags : List Bool) → length flags ≡ k → ((column : ℕ) → column < k
    → get_or flags column false ≡ true) → AreMarked k [] flags
marked_none k flags long all = record { count = long; each = all }

-- one row more: the column of its pivot is no longer missing
pub marked_more : (k : ℕ) (rows : List Packet) (row : Packet) (flags : List Bool) → AreMarked k rows flags
    → AreMarked k (rows ++ row ∷ []) (set flags (pivot_of row) false)
marked_more k rows row flags marked = record {
  count = length-set flags (pivot_of row) false ∙ marked.count;
  each = λ column below.
      let test : Packet → Bool = λ other. eqb (pivot_of other) column in
      let count = marked.count in
      let joined : list_any test (rows ++ row ∷ [])
      ≡ (list_any test rows || list_any test (row ∷ [])) = list_any-append test rows (row ∷ []) in
      ⊎_elim (λ same. subst (λ (place : ℕ). get_or (set flags (pivot_of row) false) place false ≡ false) same
      (get_or-set_same flags (pivot_of row) false false (omega arith))
      ∙ ap not (sym (joined ∙ ap (λ (b : Bool). list_any test rows || (b || false)) (eq-eqb (pivot_of row) column same)
      ∙ or_true (list_any test rows))))
      (λ other. get_or-set_other flags (pivot_of row) column false false (λ e. other (sym e)) ∙ marked.each column below
      ∙ ap not (sym (joined
      ∙ ap (λ (b : Bool). list_any test rows || (b || false)) (ne_eqb (pivot_of row) column other)
      ∙ or_false (list_any test rows))))
      (cases_eq (pivot_of row) column);
}

-- where a front is read whole, the second word of a region is its pivot
pub pivot_read : (front : Front) (n : ℕ) → IsReadWhole front → n < length front.read → 1 < length (get_or front.read n [])
    → word_read front.read n 1 ≡ Some (pivot_in (get_or (words_read front) n []))
pivot_read front n whole within wide = word_there front n 1 whole within wide

module _ (has : (p : Parameters) (before : List (List ℕ)) (region : List ℕ) → IsNextRegion p before region
    → HasRecord p before region)
    (d : Desk) (desk : IsDesk d) (n : ℕ) (within : n < length (regions_seen d.seat.view)) where
  record_there : HasRecord d.seat.view.sight.parameters (take n (regions_seen d.seat.view)) (get_or
      (regions_seen d.seat.view) n [])
  record_there = has d.seat.view.sight.parameters (take n (regions_seen d.seat.view)) (get_or
      (regions_seen d.seat.view) n []) (desk.sound.good desk.whole n within)

  -- the pivot that a region names is that of its row
  pub pivot_is : (row : Packet)
      → pivot_in (get_or (regions_seen d.seat.view) n []) ≡ pivot_of (get_or (rows_seen d.seat.view) n row)
  pivot_is row = record_there.pivot
      ∙ sym (ap pivot_of (get_or-map (row_at d.seat.view.sight.parameters) (regions_seen d.seat.view) n [] row within))

  -- and a column
  pub pivot_below : pivot_in (get_or (regions_seen d.seat.view) n []) < d.seat.view.sight.parameters.k
  pivot_below = subst (λ (m : ℕ). m < d.seat.view.sight.parameters.k)
      (sym record_there.pivot) record_there.stands.pivot_below
