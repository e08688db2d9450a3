-- What stands in a world still stands when the directory has one region more.
use Rattle.std.proofs.Common.{◌≡◌, ℕ, ◌+◌, ◌<◌, ◌≤◌, List, [], ◌∷◌, ◌++◌, length, get_or, sym, ap, ◌∙◌, ⊎_elim, arith, append_assoc}
use Rattle.std.specs.Prelude.{Option, Some, None, unwrap_or}
use Rattle.std.proofs.lemmas.List.{get_or_append_left, get_or_push, get_or-map, length-append, append-nil, get_or_past}
use Rattle.std.proofs.lemmas.List.Elements.{All-append}
use mathlib.Core.Logic.{dite}
use native.Mathlib.Decide.{dec_le}
use Rattle.table_rows.specs.declared.view.Parameters.{Parameters}
use Rattle.table_rows.specs.declared.view.Front.{Front}
use Rattle.table_rows.specs.declared.view.Sight.{Sight}
use Rattle.table_rows.specs.Views.{at_place, width_of, words_of_row, with_region}
use Rattle.table_rows.specs.Rule.{World, Use, StandsIn, Sees}
use Rattle.table_rows.proofs.Fronts.{Row, some_not_none, read_more, read_within}
use Rattle.table_rows.proofs.Standing.{known_length, one_all, part_grown}
use Rattle.table_rows.proofs.Seating.{changed}

-- the word that a row has at a place is the word there
pub row_word : (row : Row) (place word : ℕ) → at_place row place ≡ Some word → word ≡ get_or (words_of_row row) place 0
row_word row place word e = dite (dec_le (length row) place)
    (λ past. absurd (some_not_none word (sym e ∙ get_or_past row place None past)))
    (λ not-le. sym (get_or-map (λ (o : Option ℕ). unwrap_or o 0) row place None 0 (omega arith) ∙ ap (λ (o : Option ℕ). unwrap_or o 0) e))

module _ (p : Parameters) (w : World) (logged : length w.log ≡ length w.dir) (region : ℕ) (words : List ℕ) (uses : ℕ → Use) where
  abbrev pub grown : World
  grown = changed w (w.dir ++ region ∷ []) (w.log ++ words ∷ []) uses

  pub stands_grown : (front : Front) → StandsIn p w front → StandsIn p grown front
  stands_grown front stands =
      let short : length front.known ≤ length w.dir = known_length p w front stands in
      let rows : length front.read ≡ length front.known = stands.rows in
      let pre = stands.prefix in record {
        prefix = (pre.0 ++ region ∷ [], ap (λ (l : List ℕ). l ++ region ∷ []) pre.1 ∙ append_assoc front.known pre.0 (region ∷ []));
        rows = rows;
        wide = stands.wide;
        words = λ n place word e. let lt : n < length front.read = read_within front.read n place word e in
            stands.words n place word e ∙ ap (λ (r : List ℕ). get_or r place 0) (sym (get_or_append_left w.log (words ∷ []) [] n (omega arith)));
      }

  pub sees_grown : (s : Sight) → Sees p w s → Sees p grown s
  sees_grown s sees = record {
    parameters = sees.parameters;
    front = stands_grown s.front sees.front;
    olds = λ k d h. let o = sees.olds k d h in (stands_grown (get_or s.olds k d) o.0, o.1);
  }

  -- a front that knew the whole directory, and knows the new region as well
  pub stands_next : (front : Front) (row : Row) → StandsIn p w front → front.known ≡ w.dir → length row ≡ width_of p → words ≡ words_of_row row
      → StandsIn p grown (with_region front region row)
  stands_next front row stands all long is =
      let same : length front.known ≡ length w.dir = ap length all in
      let rows : length front.read ≡ length front.known = stands.rows in record {
        prefix = ([], ap (λ (l : List ℕ). l ++ region ∷ []) (sym all) ∙ sym (append-nil (front.known ++ region ∷ [])));
        rows = length-append front.read (row ∷ []) ∙ (ap (λ (n : ℕ). n + 1) rows ∙ sym (length-append front.known (region ∷ [])));
        wide = All-append (λ (r : Row). length r ≡ width_of p) front.read (row ∷ []) stands.wide (one_all (λ (r : Row). length r ≡ width_of p) row long);
        words = λ n place word e. ⊎_elim
            (λ old. (stands_grown front stands).words n place word old)
            (λ last. let there : n ≡ length w.log = omega arith in
            row_word row place word last.1 ∙ (ap (λ (l : List ℕ). get_or l place 0) (sym is) ∙ ap (λ (r : List ℕ). get_or r place 0) (sym (get_or_push w.log words [] n (sym there)))))
            (read_more front.read row n place word e);
      }

  pub sees_next : (s : Sight) (row : Row) → Sees p w s → s.front.known ≡ w.dir → length row ≡ width_of p → words ≡ words_of_row row
      → Sees p grown (record s { front = with_region s.front region row })
  sees_next s row sees all long is = record {
    parameters = sees.parameters;
    front = stands_next s.front row sees.front all long is;
    olds = λ k d h. let o = sees.olds k d h in (stands_grown (get_or s.olds k d) o.0, part_grown p w (get_or s.olds k d) s.front region row o.1);
  }
