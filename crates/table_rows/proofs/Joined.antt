-- Fronts and sights that are brought together: what stood on either side stands in the joined one.
use Rattle.std.proofs.Common.{◌≡◌, ℕ, ◌+◌, ◌<◌, ◌≤◌, ◌⊎◌, List, [], ◌∷◌, ◌++◌, length, map, take, drop, max, get_or, sym, refl, ap, ◌∙◌, subst, inl, inr, ⊎_elim, arith, append_assoc}
use Rattle.std.specs.Prelude.{Option, Some, None, All, Bool, cond}
use Rattle.std.specs.List.{range_with_len}
use Rattle.std.proofs.lemmas.List.{append-nil, get_or_past, take-append-le, take-append-drop}
use Rattle.std.proofs.lemmas.List.FromFn.{length-map-range_with_len, get_or-map-range_with_len}
use Rattle.std.proofs.lemmas.List.Elements.{All-append, All-cons}
use Rattle.std.proofs.lemmas.Bool.{lt-ltb, le-ltb, cases_lt}
use Rattle.std.proofs.Math.Seq.{take-append_seam}
use mathlib.Core.Logic.{dite}
use native.Mathlib.Decide.{dec_le}
use Rattle.table_rows.specs.declared.view.Parameters.{Parameters}
use Rattle.table_rows.specs.declared.view.Front.{Front}
use Rattle.table_rows.specs.declared.view.Sight.{Sight}
use Rattle.table_rows.specs.Views.{at_place, word_read, width_of, first_word, joined_read, joined_front, joined_sight, longer_of, IsPartOf}
use Rattle.table_rows.specs.Rule.{World, StandsIn, Sees}
use Rattle.table_rows.specs.Steps.{IsSight}
use Rattle.table_rows.proofs.Fronts.{Row, read_within, some_not_none}

-- of two prefixes of a list the shorter is a prefix of the longer
prefixes : (dir a b la lb : List ℕ) → dir ≡ a ++ la → dir ≡ b ++ lb → length a ≤ length b → (later : List ℕ) × (b ≡ a ++ later)
prefixes dir a b la lb ea eb le =
    let front : take (length a) b ≡ a = sym (take-append-le (length a) b lb le) ∙ (ap (λ (l : List ℕ). take (length a) l) (sym eb ∙ ea) ∙ take-append_seam a la) in
    (drop (length a) b, sym (take-append-drop (length a) b) ∙ ap (λ (l : List ℕ). l ++ drop (length a) b) front)

pub longer_is : (a b : List ℕ) → ((length a < length b) × (longer_of a b ≡ b)) ⊎ ((length b ≤ length a) × (longer_of a b ≡ a))
longer_is a b = ⊎_elim
    (λ lt. inl (lt, ap (λ (t : Bool). cond t b a) (lt-ltb (length a) (length b) lt)))
    (λ le. inr (le, ap (λ (t : Bool). cond t b a) (le-ltb (length a) (length b) le)))
    (cases_lt (length a) (length b))

-- what was read at a place of a joined front
joined_at : (width : ℕ) (a b : List Row) (n place : ℕ) → n < max (length a) (length b) → place < width
    → word_read (joined_read width a b) n place ≡ first_word (word_read a n place) (word_read b n place)
joined_at width a b n place ln lp =
    let row : ℕ → Row = λ (m : ℕ). map (λ q. first_word (word_read a m q) (word_read b m q)) (range_with_len 0 width) in
    ap (λ (r : Row). at_place r place) (get_or-map-range_with_len row 0 (max (length a) (length b)) n n [] ln (omega arith))
    ∙ get_or-map-range_with_len (λ q. first_word (word_read a n q) (word_read b n q)) 0 width place place None lp (omega arith)

first_kept : (one other : Option ℕ) (word : ℕ) → one ≡ Some word → first_word one other ≡ Some word
first_kept one other word e = ap (λ (o : Option ℕ). first_word o other) e

second_kept : (one other : Option ℕ) (word : ℕ) → other ≡ Some word → ((found : ℕ) → one ≡ Some found → found ≡ word) → first_word one other ≡ Some word
second_kept None other word e agrees = e
second_kept (Some found) other word e agrees = ap (λ (x : ℕ). Some x) (agrees found refl)

either_had : (one other : Option ℕ) (word : ℕ) → first_word one other ≡ Some word → (one ≡ Some word) ⊎ (other ≡ Some word)
either_had None other word e = inr e
either_had (Some found) other word e = inl e

module _ (p : Parameters) (w : World) where
  -- the place of a word that was read lies in its region
  place_within : (front : Front) → StandsIn p w front → (n place word : ℕ) → word_read front.read n place ≡ Some word → place < width_of p
  place_within front stands n place word e =
      let ln : n < length front.read = read_within front.read n place word e in
      let wide : length (get_or front.read n []) ≡ width_of p = stands.wide n [] ln in
      dite (dec_le (length (get_or front.read n [])) place)
      (λ past. absurd (some_not_none word (sym e ∙ get_or_past (get_or front.read n []) place None past)))
      (λ not-le. omega arith)

  module _ (a b : Front) (sa : StandsIn p w a) (sb : StandsIn p w b) where
    abbrev both : Front
    both = joined_front (width_of p) a b

    read_long : length both.read ≡ max (length a.read) (length b.read)
    read_long = length-map-range_with_len (λ n. map (λ place. first_word (word_read a.read n place) (word_read b.read n place)) (range_with_len 0 (width_of p))) 0 (max (length a.read) (length b.read))

    pub known_long : length both.known ≡ max (length a.known) (length b.known)
    known_long = ⊎_elim
        (λ t. let lt : length a.known < length b.known = t.0 in let e : length both.known ≡ length b.known = ap length t.1 in omega arith)
        (λ t. let le : length b.known ≤ length a.known = t.0 in let e : length both.known ≡ length a.known = ap length t.1 in omega arith)
        (longer_is a.known b.known)

    there : (n place word : ℕ) → word_read both.read n place ≡ Some word → first_word (word_read a.read n place) (word_read b.read n place) ≡ Some word
    there n place word e =
        let ln : n < length both.read = read_within both.read n place word e in
        let ln' : n < max (length a.read) (length b.read) = subst (λ (m : ℕ). n < m) read_long ln in
        let row : List (Option ℕ) = map (λ q. first_word (word_read a.read n q) (word_read b.read n q)) (range_with_len 0 (width_of p)) in
        let here : get_or both.read n [] ≡ row =
        get_or-map-range_with_len (λ m. map (λ q. first_word (word_read a.read m q) (word_read b.read m q)) (range_with_len 0 (width_of p))) 0 (max (length a.read) (length b.read)) n n [] ln' (omega arith) in
        let wide : length row ≡ width_of p = length-map-range_with_len (λ q. first_word (word_read a.read n q) (word_read b.read n q)) 0 (width_of p) in
        let lp : place < width_of p = dite (dec_le (width_of p) place)
        (λ past. let far : length row ≤ place = omega arith in
        absurd (some_not_none word (sym e ∙ (ap (λ (r : Row). at_place r place) here ∙ get_or_past row place None far))))
        (λ not-le. omega arith) in
        sym (joined_at (width_of p) a.read b.read n place ln' lp) ∙ e

    stands_joined : StandsIn p w both
    stands_joined =
        let rows_a : length a.read ≡ length a.known = sa.rows in
        let rows_b : length b.read ≡ length b.known = sb.rows in
        let read : length both.read ≡ max (length a.read) (length b.read) = read_long in
        let known : length both.known ≡ max (length a.known) (length b.known) = known_long in record {
          prefix = ⊎_elim
              (λ t. (sb.prefix.0, sb.prefix.1 ∙ ap (λ (l : List ℕ). l ++ sb.prefix.0) (sym t.1)))
              (λ t. (sa.prefix.0, sa.prefix.1 ∙ ap (λ (l : List ℕ). l ++ sa.prefix.0) (sym t.1)))
              (longer_is a.known b.known);
          rows = read ∙ ((λ i. max (rows_a i) (rows_b i)) ∙ sym known);
          wide = λ n d ln. let ln' : n < max (length a.read) (length b.read) = subst (λ (m : ℕ). n < m) read ln in
              ap length (get_or-map-range_with_len (λ m. map (λ q. first_word (word_read a.read m q) (word_read b.read m q)) (range_with_len 0 (width_of p))) 0 (max (length a.read) (length b.read)) n n d ln' (omega arith))
              ∙ length-map-range_with_len (λ q. first_word (word_read a.read n q) (word_read b.read n q)) 0 (width_of p);
          words = λ n place word e. ⊎_elim (λ old. sa.words n place word old) (λ old. sb.words n place word old)
              (either_had (word_read a.read n place) (word_read b.read n place) word (there n place word e));
        }

    part_left : IsPartOf a both
    part_left = record {
      prefix = ⊎_elim
          (λ t. let lt : length a.known < length b.known = t.0 in
          let cut = prefixes w.dir a.known b.known sa.prefix.0 sb.prefix.0 sa.prefix.1 sb.prefix.1 (omega arith) in (cut.0, t.1 ∙ cut.1))
          (λ t. ([], t.1 ∙ sym (append-nil a.known)))
          (longer_is a.known b.known);
      words = λ n place word e. let ln : n < length a.read = read_within a.read n place word e in
          joined_at (width_of p) a.read b.read n place (omega arith) (place_within a sa n place word e)
          ∙ first_kept (word_read a.read n place) (word_read b.read n place) word e;
    }

    part_right : IsPartOf b both
    part_right = record {
      prefix = ⊎_elim
          (λ t. ([], t.1 ∙ sym (append-nil b.known)))
          (λ t. let cut = prefixes w.dir b.known a.known sb.prefix.0 sa.prefix.0 sb.prefix.1 sa.prefix.1 t.0 in (cut.0, t.1 ∙ cut.1))
          (longer_is a.known b.known);
      words = λ n place word e. let ln : n < length b.read = read_within b.read n place word e in
          joined_at (width_of p) a.read b.read n place (omega arith) (place_within b sb n place word e)
          ∙ second_kept (word_read a.read n place) (word_read b.read n place) word e (λ found f. sa.words n place found f ∙ sym (sb.words n place word e));
    }

  part_part : (a b c : Front) → IsPartOf a b → IsPartOf b c → IsPartOf a c
  part_part a b c ab bc = record {
    prefix = (ab.prefix.0 ++ bc.prefix.0, bc.prefix.1 ∙ (ap (λ (l : List ℕ). l ++ bc.prefix.0) ab.prefix.1 ∙ append_assoc a.known ab.prefix.0 bc.prefix.0));
    words = λ n place word e. bc.words n place word (ab.words n place word e);
  }

  pub sees_joined : (a b : Sight) → a.parameters ≡ p → Sees p w a → Sees p w b → Sees p w (joined_sight a b)
  sees_joined a b same sa sb =
      let front : Front = joined_front (width_of p) a.front b.front in
      let P : Front → Type 0 = λ (old : Front). StandsIn p w old × IsPartOf old front in
      subst (λ (q : Parameters). Sees p w (record { parameters = a.parameters; front = joined_front (width_of q) a.front b.front; olds = a.front ∷ b.front ∷ (a.olds ++ b.olds) })) (sym same) (record {
        parameters = sa.parameters;
        front = stands_joined a.front b.front sa.front sb.front;
        olds = All-cons P a.front (b.front ∷ (a.olds ++ b.olds)) (sa.front, part_left a.front b.front sa.front sb.front)
            (All-cons P b.front (a.olds ++ b.olds) (sb.front, part_right a.front b.front sa.front sb.front)
            (All-append P a.olds b.olds
            (λ k d h. let o = sa.olds k d h in (o.0, part_part (get_or a.olds k d) a.front front o.1 (part_left a.front b.front sa.front sb.front)))
            (λ k d h. let o = sb.olds k d h in (o.0, part_part (get_or b.olds k d) b.front front o.1 (part_right a.front b.front sa.front sb.front)))));
      })

longer_long : (a b : List ℕ) → length (longer_of a b) ≡ max (length a) (length b)
longer_long a b = ⊎_elim
    (λ t. let lt : length a < length b = t.0 in let e : length (longer_of a b) ≡ length b = ap length t.1 in omega arith)
    (λ t. let le : length b ≤ length a = t.0 in let e : length (longer_of a b) ≡ length a = ap length t.1 in omega arith)
    (longer_is a b)

-- a joined sight is shaped as a sight, whatever the words are
pub joined_shaped : (a b : Sight) → b.parameters ≡ a.parameters → IsSight a → IsSight b → IsSight (joined_sight a b)
joined_shaped a b same sa sb =
    let p : Parameters = a.parameters in
    let sb' : IsSight (record { parameters = p; front = b.front; olds = b.olds }) = subst (λ (q : Parameters). IsSight (record { parameters = q; front = b.front; olds = b.olds })) same sb in
    let P : ℕ → Type 0 = λ (region : ℕ). (1 ≤ region) × (region ≤ p.passes + p.k) in
    let few_a : length a.front.known ≤ p.k = sa.count in
    let few_b : length b.front.known ≤ p.k = sb'.count in
    let rows_a : length a.front.read ≡ length a.front.known = sa.rows in
    let rows_b : length b.front.read ≡ length b.front.known = sb'.rows in
    let known : length (longer_of a.front.known b.front.known) ≡ max (length a.front.known) (length b.front.known) = longer_long a.front.known b.front.known in
    let row : ℕ → Row = λ (n : ℕ). map (λ place. first_word (word_read a.front.read n place) (word_read b.front.read n place)) (range_with_len 0 (width_of p)) in
    let read : length (joined_read (width_of p) a.front.read b.front.read) ≡ max (length a.front.read) (length b.front.read) =
    length-map-range_with_len row 0 (max (length a.front.read) (length b.front.read)) in record {
      count = omega arith;
      regions = ⊎_elim (λ t. subst (λ (l : List ℕ). All P l) (sym t.1) sb'.regions) (λ t. subst (λ (l : List ℕ). All P l) (sym t.1) sa.regions) (longer_is a.front.known b.front.known);
      rows = read ∙ ((λ i. max (rows_a i) (rows_b i)) ∙ sym known);
      wide = λ n d ln. let ln' : n < max (length a.front.read) (length b.front.read) = subst (λ (m : ℕ). n < m) read ln in
          ap length (get_or-map-range_with_len row 0 (max (length a.front.read) (length b.front.read)) n n d ln' (omega arith))
          ∙ length-map-range_with_len (λ q. first_word (word_read a.front.read n q) (word_read b.front.read n q)) 0 (width_of p);
    }
