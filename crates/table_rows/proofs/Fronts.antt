-- Fronts as they grow: one region more, one word more.
use Rattle.std.proofs.Common.{◌≡◌, ℕ, ◌+◌, ◌<◌, ◌≤◌, ◌≢◌, ◌⊎◌, List, [], ◌∷◌, ◌++◌, length, get_or, set, sym, ap, ◌∙◌, inl, inr, arith}
use Rattle.std.specs.Prelude.{Option, Some, None}
use Rattle.std.proofs.lemmas.List.{get_or-replicate, get_or_past, get_or_push, get_or_append_left, get_or-set_same, get_or-set_other, length-append, length-replicate}
use mathlib.Core.Logic.{dite}
use native.Mathlib.Decide.{dec_le, ℕ_discrete}
use Rattle.table_rows.specs.Views.{at_place, word_read, blank_row}

abbrev pub Row : Type 0
Row = List (Option ℕ)

pub some_not_none : (word : ℕ) → Some word ≢ None
some_not_none word e = cc

pub some_is : (x y : ℕ) → Some x ≡ Some y → x ≡ y
some_is x y e = cc

-- what was read in a place lies in the list
pub read_within : (read : List Row) (n place word : ℕ) → word_read read n place ≡ Some word → n < length read
read_within read n place word e = dite (dec_le (length read) n)
    (λ past. let none : word_read read n place ≡ None = ap (λ (row : Row). at_place row place) (get_or_past read n [] past) in absurd (some_not_none word (sym e ∙ none)))
    (λ not-le. omega arith)

pub blank_long : (width : ℕ) → length (blank_row width) ≡ width
blank_long width = length-replicate width None

pub blank_none : (width place word : ℕ) → at_place (blank_row width) place ≡ Some word → ⊥
blank_none width place word e = dite (dec_le width place)
    (λ past. let long : length (blank_row width) ≡ width = blank_long width in
    let far : length (blank_row width) ≤ place = omega arith in some_not_none word (sym e ∙ get_or_past (blank_row width) place None far))
    (λ not-le. some_not_none word (sym e ∙ get_or-replicate width place None None (omega arith)))

-- with one row more, a word that was read is one of before, or of the row
pub read_more : (read : List Row) (row : Row) (n place word : ℕ) → word_read (read ++ row ∷ []) n place ≡ Some word
    → (word_read read n place ≡ Some word) ⊎ ((n ≡ length read) × (at_place row place ≡ Some word))
read_more read row n place word e =
    let long : length (read ++ row ∷ []) ≡ length read + 1 = length-append read (row ∷ []) in
    let within : n < length (read ++ row ∷ []) = read_within (read ++ row ∷ []) n place word e in
    dite (ℕ_discrete n (length read))
    (λ last. inr (last, sym (ap (λ (r : Row). at_place r place) (get_or_push read row [] n (sym last))) ∙ e))
    (λ before. let less : n < length read = omega arith in inl (sym (ap (λ (r : Row). at_place r place) (get_or_append_left read (row ∷ []) [] n less)) ∙ e))

pub read_kept : (read rows : List Row) (n place word : ℕ) → word_read read n place ≡ Some word → word_read (read ++ rows) n place ≡ Some word
read_kept read rows n place word e =
    ap (λ (r : Row). at_place r place) (get_or_append_left read rows [] n (read_within read n place word e)) ∙ e

-- with one word more, a word that was read is that one, or one of before
pub read_set : (read : List Row) (n place x m q word : ℕ) → n < length read → place < length (get_or read n [])
    → word_read (set read n (set (get_or read n []) place (Some x))) m q ≡ Some word
    → ((m ≡ n) × (q ≡ place) × (word ≡ x)) ⊎ (word_read read m q ≡ Some word)
read_set read n place x m q word ln lp e =
    let row : Row = get_or read n [] in
    dite (ℕ_discrete m n)
    (λ here. let there : get_or (set read n (set row place (Some x))) m [] ≡ set row place (Some x) = ap (λ (i : ℕ). get_or (set read n (set row place (Some x))) i []) here ∙ get_or-set_same read n (set row place (Some x)) [] ln in
    let e' : at_place (set row place (Some x)) q ≡ Some word = sym (ap (λ (r : Row). at_place r q) there) ∙ e in
    dite (ℕ_discrete q place)
    (λ same. inl (here, same, some_is word x (sym e' ∙ (ap (λ (i : ℕ). at_place (set row place (Some x)) i) same ∙ get_or-set_same row place (Some x) None lp))))
    (λ other. inr (ap (λ (i : ℕ). word_read read i q) here ∙ (sym (get_or-set_other row place q (Some x) None other) ∙ e'))))
    (λ away. inr (sym (ap (λ (r : Row). at_place r q) (get_or-set_other read n m (set row place (Some x)) [] away)) ∙ e))

pub read_set_kept : (read : List Row) (n place x m q word : ℕ) → word_read read m q ≡ Some word → (m ≡ n → q ≡ place → word ≡ x)
    → word_read (set read n (set (get_or read n []) place (Some x))) m q ≡ Some word
read_set_kept read n place x m q word e agrees =
    let row : Row = get_or read n [] in
    let within : m < length read = read_within read m q word e in
    dite (ℕ_discrete m n)
    (λ here. let ln : n < length read = omega arith in
    let there : get_or (set read n (set row place (Some x))) m [] ≡ set row place (Some x) = ap (λ (i : ℕ). get_or (set read n (set row place (Some x))) i []) here ∙ get_or-set_same read n (set row place (Some x)) [] ln in
    let e' : at_place row q ≡ Some word = sym (ap (λ (i : ℕ). word_read read i q) here) ∙ e in
    ap (λ (r : Row). at_place r q) there ∙ dite (ℕ_discrete q place)
    (λ same. dite (dec_le (length row) place)
    (λ past. absurd (some_not_none word (sym e' ∙ (ap (λ (i : ℕ). at_place row i) same ∙ get_or_past row place None past))))
    (λ not-le. ap (λ (i : ℕ). at_place (set row place (Some x)) i) same ∙ (get_or-set_same row place (Some x) None (omega arith) ∙ ap (λ (z : ℕ). Some z) (sym (agrees here same)))))
    (λ other. get_or-set_other row place q (Some x) None other ∙ e'))
    (λ away. ap (λ (r : Row). at_place r q) (get_or-set_other read n m (set row place (Some x)) [] away) ∙ e)
