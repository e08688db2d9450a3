-- What stands in a world still stands as a front grows.
use Rattle.std.proofs.Common.{◌≡◌, ℕ, ◌+◌, ◌<◌, ◌≤◌, List, [], ◌∷◌, ◌++◌, length, get_or, set, sym, ap, ◌∙◌, ⊎_elim, arith, append_assoc}
use Rattle.std.specs.Prelude.{Some, All}
use Rattle.std.proofs.lemmas.List.{get_or_append_left, length-append, length-set}
use Rattle.std.proofs.lemmas.List.Elements.{All-append, All-set, All-cons, All-nil}
use Rattle.std.proofs.Math.Seq.{get_or-append_seam}
use Rattle.table_rows.specs.declared.view.Parameters.{Parameters}
use Rattle.table_rows.specs.declared.view.Front.{Front}
use Rattle.table_rows.specs.declared.view.Sight.{Sight}
use Rattle.table_rows.specs.Views.{width_of, blank_row, with_region, with_word, IsPartOf}
use Rattle.table_rows.specs.Rule.{World, StandsIn, Sees}
use Rattle.table_rows.proofs.Fronts.{Row, read_more, read_kept, read_set, read_set_kept, blank_none, blank_long}

pub one_all : {X : Type 0} (P : X → Type 0) (x : X) → P x → All P (x ∷ [])
one_all P x px = All-cons P x [] px (All-nil P)

-- the front with a region that comes next in the directory is still a prefix of it
grow_prefix : (dir known later : List ℕ) (region : ℕ) → dir ≡ known ++ later → length known < length dir → region ≡ get_or dir (length known) 0
    → (rest : List ℕ) × (dir ≡ (known ++ region ∷ []) ++ rest)
grow_prefix dir known [] region e lt is = let long : length dir ≡ length known + 0 = ap length e ∙ length-append known [] in absurd (omega arith)
grow_prefix dir known (x ∷ xs) region e lt is =
    let here : region ≡ x = is ∙ (ap (λ (l : List ℕ). get_or l (length known) 0) e ∙ get_or-append_seam known x xs 0) in
    (xs, e ∙ (ap (λ (y : ℕ). known ++ y ∷ xs) (sym here) ∙ sym (append_assoc known (region ∷ []) xs)))

module _ (p : Parameters) (w : World) where
  pub known_at : (front : Front) → StandsIn p w front → (n : ℕ) → n < length front.known → get_or front.known n 0 ≡ get_or w.dir n 0
  known_at front stands n lt = let pre = stands.prefix in sym (ap (λ (l : List ℕ). get_or l n 0) pre.1 ∙ get_or_append_left front.known pre.0 0 n lt)

  pub known_length : (front : Front) → StandsIn p w front → length front.known ≤ length w.dir
  known_length front stands = let pre = stands.prefix in let e : length w.dir ≡ length front.known + length pre.0 = ap length pre.1 ∙ length-append front.known pre.0 in omega arith

  pub stands_found : (front : Front) (region : ℕ) → StandsIn p w front → length front.known < length w.dir → region ≡ get_or w.dir (length front.known) 0
      → StandsIn p w (with_region front region (blank_row (width_of p)))
  stands_found front region stands lt is = let row : Row = blank_row (width_of p) in record {
    prefix = grow_prefix w.dir front.known stands.prefix.0 region stands.prefix.1 lt is;
    rows = length-append front.read (row ∷ []) ∙ (ap (λ (n : ℕ). n + 1) stands.rows ∙ sym (length-append front.known (region ∷ [])));
    wide = All-append (λ (r : Row). length r ≡ width_of p) front.read (row ∷ []) stands.wide (one_all (λ (r : Row). length r ≡ width_of p) row (blank_long (width_of p)));
    words = λ n place word e. ⊎_elim (λ old. stands.words n place word old) (λ last. absurd (blank_none (width_of p) place word last.1)) (read_more front.read row n place word e);
  }

  pub stands_read : (front : Front) (n place x : ℕ) → StandsIn p w front → n < length front.known → place < width_of p → x ≡ get_or (get_or w.log n []) place 0
      → StandsIn p w (with_word front n place x)
  stands_read front n place x stands ln lp is =
      let rows : length front.read ≡ length front.known = stands.rows in
      let ln' : n < length front.read = omega arith in
      let wide : length (get_or front.read n []) ≡ width_of p = stands.wide n [] ln' in
      let lp' : place < length (get_or front.read n []) = omega arith in
      let row : Row = set (get_or front.read n []) place (Some x) in record {
        prefix = stands.prefix;
        rows = length-set front.read n row ∙ rows;
        wide = All-set (λ (r : Row). length r ≡ width_of p) front.read n row (length-set (get_or front.read n []) place (Some x) ∙ wide) stands.wide;
        words = λ m q word e. ⊎_elim
            (λ here. here.2 ∙ (is ∙ (λ i. get_or (get_or w.log (sym here.0 i) []) (sym here.1 i) 0)))
            (λ old. stands.words m q word old)
            (read_set front.read n place x m q word ln' lp' e);
      }

  pub part_read : (old front : Front) (n place x : ℕ) → StandsIn p w old → IsPartOf old front → x ≡ get_or (get_or w.log n []) place 0 → IsPartOf old (with_word front n place x)
  part_read old front n place x stands part is = record {
    prefix = part.prefix;
    words = λ m q word e. read_set_kept front.read n place x m q word (part.words m q word e)
        (λ here same. stands.words m q word e ∙ ((λ i. get_or (get_or w.log (here i) []) (same i) 0) ∙ sym is));
  }

  pub part_grown : (old front : Front) (region : ℕ) (row : Row) → IsPartOf old front → IsPartOf old (with_region front region row)
  part_grown old front region row part = record {
    prefix = (part.prefix.0 ++ region ∷ [], ap (λ (l : List ℕ). l ++ region ∷ []) part.prefix.1 ∙ append_assoc old.known part.prefix.0 (region ∷ []));
    words = λ m q word e. read_kept front.read (row ∷ []) m q word (part.words m q word e);
  }

  pub sees_found : (s : Sight) (region : ℕ) → Sees p w s → length s.front.known < length w.dir → region ≡ get_or w.dir (length s.front.known) 0
      → Sees p w (record s { front = with_region s.front region (blank_row (width_of p)) })
  sees_found s region sees lt is = record {
    parameters = sees.parameters;
    front = stands_found s.front region sees.front lt is;
    olds = λ k d h. let o = sees.olds k d h in (o.0, part_grown (get_or s.olds k d) s.front region (blank_row (width_of p)) o.1);
  }

  pub sees_read : (s : Sight) (n place x : ℕ) → Sees p w s → n < length s.front.known → place < width_of p → x ≡ get_or (get_or w.log n []) place 0
      → Sees p w (record s { front = with_word s.front n place x })
  sees_read s n place x sees ln lp is = record {
    parameters = sees.parameters;
    front = stands_read s.front n place x sees.front ln lp is;
    olds = λ k d h. let o = sees.olds k d h in (o.0, part_read (get_or s.olds k d) s.front n place x o.0 o.1 is);
  }
