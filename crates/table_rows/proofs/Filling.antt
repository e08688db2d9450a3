-- Rows that are filled word by word, from the first place on.
use Rattle.std.proofs.Common.{◌≡◌, ℕ, ◌+◌, ◌<◌, List, [], ◌∷◌, ◌++◌, length, map, get_or, set, refl, ap, ◌∙◌, arith}
use Rattle.std.specs.Prelude.{Some, IsSome}
use Rattle.std.proofs.lemmas.List.Elements.{All-cons, All-nil}
use Rattle.std.proofs.lemmas.List.{append-nil, drop_all, length-append, get_or-set_same, set-get_or, set-set}
use Rattle.table_rows.specs.declared.view.Front.{Front}
use Rattle.table_rows.specs.declared.view.CallerView.{CallerView}
use Rattle.table_rows.specs.Steps.{after_read, after_reads, after_write, after_writes}
use Rattle.table_rows.specs.Views.{IsWhole, row_with, with_word, with_words, words_of_row}
use Rattle.table_rows.proofs.Fronts.{Row}

pub words_of_some : (words : List ℕ) → words_of_row (map Some words) ≡ words
words_of_some [] = refl
words_of_some (word ∷ words) = ap (λ (l : List ℕ). word ∷ l) (words_of_some words)

pub whole_some : (words : List ℕ) → IsWhole (map Some words)
whole_some [] = All-nil IsSome
whole_some (word ∷ words) = All-cons IsSome (Some word) (map Some words) refl (whole_some words)

pub filled_more : (row : Row) (words : List ℕ) (word : ℕ) → length words < length row
    → set (row_with row words) (length words) (Some word) ≡ row_with row (words ++ word ∷ [])
filled_more [] words word lt = absurd (omega arith)
filled_more (first ∷ row) [] word lt = refl
filled_more (first ∷ row) (one ∷ words) word lt = ap (λ (l : Row). Some one ∷ l) (filled_more row words word (omega arith))

pub filled_all : (row : Row) (words : List ℕ) → length words ≡ length row → row_with row words ≡ map Some words
filled_all row words long = ap (λ (l : Row). map Some words ++ l) (drop_all (length words) row (omega arith)) ∙ append-nil (map Some words)

none_read : (front : Front) (n : ℕ) → with_words front n [] ≡ front
none_read front n = λ i. record front { read = set-get_or front.read n [] i }

word_read_next : (front : Front) (n : ℕ) (words : List ℕ) (word : ℕ) → n < length front.read → length words < length (get_or front.read n [])
    → with_word (with_words front n words) n (length words) word ≡ with_words front n (words ++ word ∷ [])
word_read_next front n words word within lt =
    let row : Row = get_or front.read n [] in
    let before : Row = row_with row words in
    let there : get_or (set front.read n before) n [] ≡ before = get_or-set_same front.read n before [] within in
    let next : set front.read n (set before (length words) (Some word)) ≡ set front.read n (row_with row (words ++ word ∷ [])) =
    ap (λ (r : Row). set front.read n r) (filled_more row words word lt) in
    let all : set (set front.read n before) n (set (get_or (set front.read n before) n []) (length words) (Some word)) ≡ set front.read n (row_with row (words ++ word ∷ [])) =
    ap (λ (r : Row). set (set front.read n before) n (set r (length words) (Some word))) there ∙ (set-set front.read n before (set before (length words) (Some word)) ∙ next) in
    ap (λ (rows : List Row). record front { read = rows }) all

pub read_all : (front : Front) (n : ℕ) (words : List ℕ) → length words ≡ length (get_or front.read n []) → with_words front n words ≡ record front { read = set front.read n (map Some words) }
read_all front n words long = ap (λ (r : Row). record front { read = set front.read n r }) (filled_all (get_or front.read n []) words long)

pub writes_more : (v : CallerView) (words : List ℕ) (word : ℕ) → length words < length v.written
    → after_write (after_writes v words) (length words) word ≡ after_writes v (words ++ word ∷ [])
writes_more v words word lt = ap (λ (row : Row). record v { written = row }) (filled_more v.written words word lt)

pub writes_all : (v : CallerView) (words : List ℕ) → length words ≡ length v.written → after_writes v words ≡ record v { written = map Some words }
writes_all v words long = ap (λ (row : Row). record v { written = row }) (filled_all v.written words long)

pub reads_none : (v : CallerView) (n : ℕ) → after_reads v n [] ≡ v
reads_none v n = let count : v.reads + 0 ≡ v.reads = omega arith in
    λ i. record v { sight = record v.sight { front = none_read v.sight.front n i }; reads = count i }

pub reads_more : (v : CallerView) (n : ℕ) (words : List ℕ) (word : ℕ) → n < length v.sight.front.read → length words < length (get_or v.sight.front.read n [])
    → after_read (after_reads v n words) n (length words) word ≡ after_reads v n (words ++ word ∷ [])
reads_more v n words word within lt =
    let long : length (words ++ word ∷ []) ≡ length words + length (word ∷ []) = length-append words (word ∷ []) in
    let count : (v.reads + length words) + 1 ≡ v.reads + length (words ++ word ∷ []) = omega arith in
    let front = word_read_next v.sight.front n words word within lt in
    λ i. record v { sight = record v.sight { front = front i }; reads = count i }
