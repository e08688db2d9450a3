-- Words of a region that are read again, one after another.
use Rattle.std.proofs.Common.{◌≡◌, ℕ, ◌+◌, ◌<◌, List, [], ◌∷◌, ◌++◌, length, map, take, drop, get_or, set, refl, sym, ap, ◌∙◌, arith}
use Rattle.std.specs.Prelude.{Option, Some, None, IsSome, unwrap_or}
use Rattle.std.proofs.lemmas.Bool.{true≢false}
use Rattle.std.proofs.lemmas.List.{get_or-map, get_or-drop, get_or-append-add, get_or-set_same, length-map, take_more, take_more_set}
use Rattle.table_rows.specs.declared.view.Front.{Front}
use Rattle.table_rows.specs.Views.{IsReadWhole, row_with, word_read, words_of_row, words_read}

abbrev Row : Type 0
Row = List (Option ℕ)

-- behind words that were put into a row of words stands the next word of the row
next_in_row : (words before : List ℕ) → length words < length before → get_or (row_with (map Some before) words) (length words) None ≡ Some (get_or before (length words) 0)
next_in_row words before lt =
    let n : ℕ = length words in
    let long : length (map Some words) ≡ n = length-map words Some in
    let at : length (map Some words) + 0 ≡ n = omega arith in
    let here : n + 0 ≡ n = omega arith in
    ap (λ (i : ℕ). get_or (map Some words ++ drop n (map Some before)) i None) (sym at)
    ∙ (get_or-append-add (map Some words) (drop n (map Some before)) 0 None
    ∙ (get_or-drop n (map Some before) 0 None
    ∙ (ap (λ (i : ℕ). get_or (map Some before) i None) here
    ∙ get_or-map Some before n 0 None lt)))

-- after the first words of a region that was read whole were read again, its next word is known
pub next_known : (read : List Row) (n : ℕ) (words before : List ℕ) → n < length read → length words < length before → get_or read n [] ≡ map Some before
    → word_read (set read n (row_with (get_or read n []) words)) n (length words) ≡ Some (get_or before (length words) 0)
next_known read n words before within lt e =
    ap (λ (row : Row). get_or row (length words) None) (get_or-set_same read n (row_with (get_or read n []) words) [] within)
    ∙ (ap (λ (row : Row). get_or (row_with row words) (length words) None) e ∙ next_in_row words before lt)

-- a word more that is that of another list
pub same_more : (words before : List ℕ) (place word : ℕ) → place < length words → place < length before → take place words ≡ take place before
    → word ≡ get_or before place 0 → take (place + 1) (set words place word) ≡ take (place + 1) before
same_more words before place word lt lt' so_far here = take_more_set words place word lt
    ∙ ((λ i. so_far i ++ here i ∷ []) ∙ sym (take_more before place 0 lt'))

-- a word that there is
some_is : (word : Option ℕ) → IsSome word → word ≡ Some (unwrap_or word 0)
some_is (Some word) some = refl
some_is None some = absurd (true≢false (sym some))

-- where a front is read whole, each word of a region that it knows is there
pub word_there : (front : Front) (n place : ℕ) → IsReadWhole front → n < length front.read → place < length (get_or front.read n [])
    → word_read front.read n place ≡ Some (get_or (get_or (words_read front) n []) place 0)
word_there front n place whole within wide =
    let row : Row = get_or front.read n [] in
    some_is (get_or row place None) (whole n [] within place None wide)
    ∙ ap (λ (word : ℕ). Some word) (sym (ap (λ (region : List ℕ). get_or region place 0) (get_or-map words_of_row front.read n [] [] within)
    ∙ get_or-map (λ (word : Option ℕ). unwrap_or word 0) row place None 0 wide))

-- and it has as many words as its row has places
pub region_long : (front : Front) (n : ℕ) → n < length front.read → length (get_or (words_read front) n []) ≡ length (get_or front.read n [])
region_long front n within = ap (λ (l : List ℕ). length l) (get_or-map words_of_row front.read n [] [] within)
    ∙ length-map (get_or front.read n []) (λ (word : Option ℕ). unwrap_or word 0)
