-- Two fronts that were read whole and are parts of their joined one: that is the longer of the two.
use Rattle.std.proofs.Common.{◌≡◌, ℕ, ◌+◌, ◌<◌, ◌≤◌, List, [], length, map, max, get_or, sym, ap, ◌∙◌, subst, ⊎_elim, arith, ◌∷◌, ◌++◌}
use Rattle.std.specs.Prelude.{None, All}
use Rattle.std.specs.List.{range_with_len}
use Rattle.std.proofs.lemmas.List.{append-nil, ext_get_or, length-append}
use Rattle.std.proofs.lemmas.List.FromFn.{length-map-range_with_len, get_or-map-range_with_len}
use Rattle.table_rows.specs.declared.view.Front.{Front}
use Rattle.table_rows.specs.Views.{word_read, first_word, joined_front, joined_read, longer_of, IsPartOf, IsReadWhole}
use Rattle.table_rows.proofs.Fronts.{Row}
use Rattle.table_rows.proofs.Sounds.{some_of}
use Rattle.table_rows.proofs.Joined.{longer_is}

-- rows of this width, as many as regions
abbrev Shaped : ℕ → Front → Type 0
Shaped width front = (length front.read ≡ length front.known) × All (λ (row : Row). length row ≡ width) front.read

module _ (width : ℕ) (a b c : Front) where
  abbrev both : List Row
  both = joined_read width a.read b.read

  abbrev row_at : ℕ → Row
  row_at n = map (λ place. first_word (word_read a.read n place) (word_read b.read n place)) (range_with_len 0 width)

  -- a front as long as the joined one, and a part of it
  rows_are : Shaped width c → IsReadWhole c → IsPartOf c (joined_front width a b) → length c.read ≡ max (length a.read) (length b.read) → both ≡ c.read
  rows_are shaped whole part same =
      let long : length both ≡ max (length a.read) (length b.read) = length-map-range_with_len row_at 0 (max (length a.read) (length b.read)) in
      ext_get_or [] both c.read (long ∙ sym same)
      (λ n lt. let ln : n < max (length a.read) (length b.read) = subst (λ (m : ℕ). n < m) long lt in
      let ln' : n < length c.read = omega arith in
      let here : get_or both n [] ≡ row_at n = get_or-map-range_with_len row_at 0 (max (length a.read) (length b.read)) n n [] ln (omega arith) in
      let wide : length (get_or c.read n []) ≡ width = shaped.1 n [] ln' in
      let joined_wide : length (get_or both n []) ≡ width = ap length here
      ∙ length-map-range_with_len (λ q. first_word (word_read a.read n q) (word_read b.read n q)) 0 width in
      ext_get_or None (get_or both n []) (get_or c.read n []) (joined_wide ∙ sym wide)
      (λ q lq. let lq' : q < length (get_or c.read n []) = omega arith in
      let word = some_of (get_or (get_or c.read n []) q None) (whole n [] ln' q None lq') in
      part.words n q word.0 word.1 ∙ sym word.1))

pub joined_left : (width : ℕ) (a b : Front) → Shaped width a → Shaped width b → IsReadWhole a → IsPartOf a (joined_front width a b)
    → length b.known ≤ length a.known → joined_front width a b ≡ a
joined_left width a b sa sb whole part le =
    let ra : length a.read ≡ length a.known = sa.0 in
    let rb : length b.read ≡ length b.known = sb.0 in
    let read : joined_read width a.read b.read ≡ a.read = rows_are width a b a sa whole part (omega arith) in
    let known : longer_of a.known b.known ≡ a.known = ⊎_elim (λ t. let lt : length a.known < length b.known = t.0 in absurd (omega arith)) (λ t. t.1) (longer_is a.known b.known) in
    λ i. record { known = known i; read = read i }

-- of two lists of one length, the one that the other continues is the other
same_list : (a b later : List ℕ) → a ≡ b ++ later → length a ≡ length b → a ≡ b
same_list a b [] e same = e ∙ append-nil b
same_list a b (x ∷ xs) e same = let long : length a ≡ length b + length (x ∷ xs) = ap length e ∙ length-append b (x ∷ xs) in absurd (omega arith)

pub joined_right : (width : ℕ) (a b : Front) → Shaped width a → Shaped width b → IsReadWhole b → IsPartOf b (joined_front width a b)
    → length a.known ≤ length b.known → joined_front width a b ≡ b
joined_right width a b sa sb whole part le =
    let ra : length a.read ≡ length a.known = sa.0 in
    let rb : length b.read ≡ length b.known = sb.0 in
    let read : joined_read width a.read b.read ≡ b.read = rows_are width a b b sb whole part (omega arith) in
    let known : longer_of a.known b.known ≡ b.known = ⊎_elim
    (λ t. t.1)
    (λ t. let ge : length b.known ≤ length a.known = t.0 in
    t.1 ∙ same_list a.known b.known part.prefix.0 (sym t.1 ∙ part.prefix.1) (omega arith))
    (longer_is a.known b.known) in
    λ i. record { known = known i; read = read i }
