-- Regions that were found and read whole, one after another, and regions that are read again.
-- v, w: the view of a caller before and after.
use Rattle.std.proofs.Common.{◌≡◌, ℕ, suc, ◌+◌, ◌*◌, ◌^◌, ◌<◌, ◌≤◌, List, [], ◌∷◌, ◌++◌, length, map, get_or, set, sym, refl, ap, ◌∙◌, subst, add-mul, arith}
use Rattle.std.specs.Prelude.{Option, Some, None, vec_len}
use Rattle.std.proofs.lemmas.List.{append-nil, append_assoc, get_or_at, length-append, length-map, length-replicate, map_push, get_or-map, set_at, set-get_or}
use Rattle.std.proofs.lemmas.List.Elements.{All-push}
use Rattle.std.proofs.lemmas.Bool.{false≢true}
use Rattle.table_rows.specs.declared.view.Front.{Front}
use Rattle.linear_spec.specs.declared.packet.Packet.{Packet}
use Rattle.linear_spec.specs.List.{ListValue}
use Rattle.table_rows.specs.declared.view.CallerView.{CallerView}
use Rattle.table_rows.specs.declared.view.Parameters.{Parameters}
use Rattle.table_rows.specs.Steps.{IsCaller, IsSoundView, after_found, after_reads}
use Rattle.table_rows.specs.Views.{IsReadWhole, IsWhole, blank_row, row_with, width_of, with_region, with_words, words_of_row}
use Rattle.shared_basis.specs.declared.desk.Desk.{Desk}
use Rattle.shared_basis.specs.Desks.{HasLengths, IsDesk}
use Rattle.shared_basis.specs.Regions.{HasFound, regions_seen}

abbrev Row : Type 0
Row = List (Option ℕ)

-- what the laws of filled rows say of a row of words
pub record Filled : Type 0 where
  pub row : (row : Row) (words : List ℕ) → length words ≡ length row → row_with row words ≡ map Some words
  pub back : (words : List ℕ) → words_of_row (map Some words) ≡ words
  pub whole : (words : List ℕ) → IsWhole (map Some words)

module _ (filled : Filled) where
  -- a region more, of which all words were then read, is known with these words
  found_front : (front : Front) (region width : ℕ) (words : List ℕ) → length front.read ≡ length front.known → length words ≡ width
      → with_words (with_region front region (blank_row width)) (length front.known) words ≡ with_region front region (map Some words)
  found_front front region width words rows long =
      let blank : Row = blank_row width in
      let n : ℕ = length front.known in
      let there : get_or (front.read ++ blank ∷ []) n [] ≡ blank = get_or_at front.read blank [] [] n rows in
      let wide : length blank ≡ width = length-replicate width None in
      let all : row_with (get_or (front.read ++ blank ∷ []) n []) words ≡ map Some words = ap (λ (row : Row). row_with row words) there
      ∙ filled.row blank words (long ∙ sym wide) in
      let put : set (front.read ++ blank ∷ []) n (row_with (get_or (front.read ++ blank ∷ []) n []) words) ≡ front.read ++ map Some words ∷ [] =
      ap (λ (row : Row). set (front.read ++ blank ∷ []) n row) all ∙ set_at front.read blank [] (map Some words) n rows in
      λ i. record { known = front.known ++ region ∷ []; read = put i }

  module _ (v w : CallerView) (region : ℕ) (words : List ℕ) (shaped : IsCaller v) (long : length words ≡ width_of v.sight.parameters)
      (is : w ≡ after_reads (after_found v region) (length v.sight.front.known) words) where
    front_is : w.sight.front ≡ with_region v.sight.front region (map Some words)
    front_is = ap (λ (u : CallerView). u.sight.front) is ∙ found_front v.sight.front region (width_of v.sight.parameters) words shaped.sight.rows long

    -- a region that was found and read is one more that was seen
    pub learnt : HasFound (words ∷ []) v w
    learnt = record {
      parameters = ap (λ (u : CallerView). u.sight.parameters) is;
      number = ap (λ (u : CallerView). u.number) is;
      own = ap (λ (u : CallerView). u.own) is;
      regions = ap (λ (front : Front). map words_of_row front.read) front_is
          ∙ (map_push words_of_row v.sight.front.read (map Some words) ∙ ap (λ (l : List ℕ). regions_seen v ++ l ∷ []) (filled.back words));
      moves = ap (λ (u : CallerView). u.moves) is;
      reads = ap (λ (u : CallerView). u.reads) is ∙ omega arith;
      empty_looks = ap (λ (u : CallerView). u.empty_looks) is;
      last_empty = ap (λ (u : CallerView). u.last_empty) is;
    }

    -- and what was read whole is so still
    pub learnt_whole : IsReadWhole v.sight.front → IsReadWhole w.sight.front
    learnt_whole whole = subst IsReadWhole (sym front_is) (All-push IsWhole v.sight.front.read (map Some words) whole (filled.whole words))

-- the words of a desk that were read are as many as a region has
pub as_wide : (d e : Desk) → IsDesk d → vec_len e.words ≡ vec_len d.words → length e.words.items ≡ width_of d.seat.view.sight.parameters
as_wide d e desk kept =
    let wide : vec_len d.words ≡ width_of d.seat.view.sight.parameters = desk.words in
    omega (arith, e.words.ok.0)

-- the view after a step found a region and its words were read
pub is_read : (d e : Desk) (u : CallerView) (region : ℕ) → IsDesk d → u ≡ after_found d.seat.view region
    → e.seat.view ≡ after_reads u (length d.known.items) e.words.items
    → e.seat.view ≡ after_reads (after_found d.seat.view region) (length d.seat.view.sight.front.known) e.words.items
is_read d e u region desk found read = read ∙ (ap (λ (x : CallerView). after_reads x (length d.known.items) e.words.items) found
    ∙ ap (λ (l : List ℕ). after_reads (after_found d.seat.view region) (length l) e.words.items) desk.known)

-- a desk is one still when a region was found and learnt
pub still_desk : Filled → (d e : Desk) (region : ℕ) → IsDesk d → IsSoundView e.seat.view
    → e.seat.view ≡ after_reads (after_found d.seat.view region) (length d.seat.view.sight.front.known) e.words.items
    → e.known.items ≡ d.known.items ++ region ∷ [] → e.known.spare + 1 ≡ d.known.spare → vec_len e.words ≡ vec_len d.words
    → e.draft ≡ d.draft → e.left ≡ d.left → e.row ≡ d.row → IsDesk e
still_desk filled d e region desk sound is known room words draft left row =
    let same : e.seat.view.sight.parameters ≡ d.seat.view.sight.parameters = ap (λ (u : CallerView). u.sight.parameters) is in
    let longer : length e.known.items ≡ length d.known.items + 1 = ap (λ (l : List ℕ). length l) known ∙ length-append d.known.items (region ∷ []) in
    let enough : d.seat.view.sight.parameters.k ≤ length d.known.items + d.known.spare = desk.room in
    let same_k : e.seat.view.sight.parameters.k ≡ d.seat.view.sight.parameters.k = ap (λ (p : Parameters). p.k) same in record {
      sound = sound;
      whole = learnt_whole filled d.seat.view e.seat.view region e.words.items desk.sound.shaped (as_wide d e desk words) is desk.whole;
      draft = draft ∙ (desk.draft ∙ sym (ap (λ (u : CallerView). u.draft) is));
      known = known ∙ (ap (λ (l : List ℕ). l ++ region ∷ []) desk.known ∙ sym (ap (λ (u : CallerView). u.sight.front.known) is));
      room = omega arith;
      words = words ∙ (desk.words ∙ sym (ap width_of same));
      narrow = subst (λ (p : Parameters). width_of p < 2 ^ 32) (sym same) desk.narrow;
      left = subst (λ (p : Parameters). HasLengths p e.left) (sym same) (subst (λ (x : Packet). HasLengths d.seat.view.sight.parameters x) (sym left) desk.left);
      row = subst (λ (p : Parameters). HasLengths p e.row) (sym same) (subst (λ (x : Packet). HasLengths d.seat.view.sight.parameters x) (sym row) desk.row);
    }

-- as many regions were seen as are known
pub seen_count : (d : Desk) → IsDesk d → length (regions_seen d.seat.view) ≡ length d.known.items
seen_count d desk = length-map d.seat.view.sight.front.read words_of_row ∙ (desk.sound.shaped.sight.rows ∙ sym (ap (λ (l : List ℕ). length l) desk.known))

-- a desk knows as many regions more as were found
pub known_more : (more : List (List ℕ)) (d e : Desk) → IsDesk d → IsDesk e → HasFound more d.seat.view e.seat.view
    → length e.known.items ≡ length d.known.items + length more
known_more more d e before after found =
    let was : length (regions_seen d.seat.view) ≡ length d.known.items = seen_count d before in
    let is : length (regions_seen e.seat.view) ≡ length e.known.items = seen_count e after in
    let joined : length (regions_seen e.seat.view) ≡ length (regions_seen d.seat.view) + length more = ap (λ (l : List (List ℕ)). length l) found.regions
    ∙ length-append (regions_seen d.seat.view) more in
    omega arith

-- nothing was found
pub found_none : (v : CallerView) → HasFound [] v v
found_none v = record {
  parameters = refl;
  number = refl;
  own = refl;
  regions = sym (append-nil (regions_seen v));
  moves = omega arith;
  reads = omega arith;
  empty_looks = refl;
  last_empty = refl;
}

-- what was found first, and then
pub found_on : (first then : List (List ℕ)) (u v w : CallerView) → HasFound first u v → HasFound then v w → HasFound (first ++ then) u w
found_on first then u v w a b =
    let width : ℕ = width_of u.sight.parameters in
    let same : width_of v.sight.parameters ≡ width = ap width_of a.parameters in
    let joined : length (first ++ then) ≡ length first + length then = length-append first then in
    let moves_a : v.moves ≡ u.moves + length first = a.moves in
    let moves_b : w.moves ≡ v.moves + length then = b.moves in
    let x : ℕ = length first * width in
    let y : ℕ = length then * width in
    let reads_a : v.reads ≡ u.reads + x = a.reads in
    let reads_b : w.reads ≡ v.reads + y = b.reads ∙ ap (λ (n : ℕ). v.reads + length then * n) same in
    let parts : length (first ++ then) * width ≡ x + y = ap (λ (n : ℕ). n * width) joined ∙ add-mul (length first) (length then) width in record {
      parameters = b.parameters ∙ a.parameters;
      number = b.number ∙ a.number;
      own = b.own ∙ a.own;
      regions = b.regions ∙ (ap (λ (l : List (List ℕ)). l ++ then) a.regions ∙ append_assoc (regions_seen u) first then);
      moves = omega arith;
      reads = omega arith;
      empty_looks = b.empty_looks ∙ a.empty_looks;
      last_empty = b.last_empty ∙ a.last_empty;
    }

-- a row that is whole is one of words
whole_row : (row : Row) → IsWhole row → row ≡ map Some (words_of_row row)
whole_row [] whole = refl
whole_row (Some word ∷ row) whole = ap (λ (l : Row). Some word ∷ l) (whole_row row (λ n d lt. whole (suc n) d (omega arith)))
whole_row (None ∷ row) whole = absurd (false≢true (whole 0 None (omega arith)))

module _ (filled : Filled) (v w : CallerView) (n : ℕ) (words : List ℕ) (whole : IsReadWhole v.sight.front) (within : n < length v.sight.front.read)
    (again : (before : List ℕ) → get_or v.sight.front.read n [] ≡ map Some before → words ≡ before) where
  row_before : get_or v.sight.front.read n [] ≡ map Some (words_of_row (get_or v.sight.front.read n []))
  row_before = whole_row (get_or v.sight.front.read n []) (whole n [] within)

  -- a region that is read again has the words that were seen
  pub same_words : words ≡ get_or (regions_seen v) n []
  same_words = again (words_of_row (get_or v.sight.front.read n [])) row_before ∙ sym (get_or-map words_of_row v.sight.front.read n [] [] within)

  -- and what is known stays as it is
  pub same_front : length words ≡ length (get_or v.sight.front.read n []) → with_words v.sight.front n words ≡ v.sight.front
  same_front long =
      let row : Row = get_or v.sight.front.read n [] in
      let same : row_with row words ≡ row = filled.row row words long ∙ (ap (λ (l : List ℕ). map Some l) (again (words_of_row row) row_before) ∙ sym row_before) in
      let all : set v.sight.front.read n (row_with row words) ≡ v.sight.front.read = ap (λ (r : Row). set v.sight.front.read n r) same ∙ set-get_or v.sight.front.read n [] in
      λ i. record v.sight.front { read = all i }

  -- so the view is the same but for the reads
  pub same_view : (width : ℕ) → length words ≡ length (get_or v.sight.front.read n []) → length words ≡ width → w ≡ after_reads v n words
      → w ≡ record v { reads = v.reads + width }
  same_view width long wide is = is ∙ (λ i. record v { sight = record v.sight { front = same_front long i }; reads = v.reads + wide i })

-- a desk is one still when words were read again, into its words or its row
pub reread_desk : (d e : Desk) (reads : ℕ) → IsDesk d → IsSoundView e.seat.view → e.seat.view ≡ record d.seat.view { reads = reads }
    → e.draft ≡ d.draft → e.known ≡ d.known → vec_len e.words ≡ vec_len d.words → e.left ≡ d.left
    → HasLengths d.seat.view.sight.parameters e.row → IsDesk e
reread_desk d e reads desk sound is draft known words left row =
    let same : e.seat.view.sight.parameters ≡ d.seat.view.sight.parameters = ap (λ (u : CallerView). u.sight.parameters) is in
    let same_k : e.seat.view.sight.parameters.k ≡ d.seat.view.sight.parameters.k = ap (λ (p : Parameters). p.k) same in
    let enough : d.seat.view.sight.parameters.k ≤ length d.known.items + d.known.spare = desk.room in
    let items : length e.known.items ≡ length d.known.items = ap (λ (l : ListValue ℕ). length l.items) known in
    let spare : e.known.spare ≡ d.known.spare = ap (λ (l : ListValue ℕ). l.spare) known in record {
      sound = sound;
      whole = subst (λ (u : CallerView). IsReadWhole u.sight.front) (sym is) desk.whole;
      draft = draft ∙ (desk.draft ∙ sym (ap (λ (u : CallerView). u.draft) is));
      known = ap (λ (l : ListValue ℕ). l.items) known ∙ (desk.known ∙ sym (ap (λ (u : CallerView). u.sight.front.known) is));
      room = omega arith;
      words = words ∙ (desk.words ∙ sym (ap width_of same));
      narrow = subst (λ (p : Parameters). width_of p < 2 ^ 32) (sym same) desk.narrow;
      left = subst (λ (p : Parameters). HasLengths p e.left) (sym same) (subst (λ (x : Packet). HasLengths d.seat.view.sight.parameters x) (sym left) desk.left);
      row = subst (λ (p : Parameters). HasLengths p e.row) (sym same) row;
    }
