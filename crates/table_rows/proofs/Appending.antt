-- The steps Append and Lose: one exchange of the next directory word from 0 to the own draft.
use Rattle.std.proofs.Common.{◌≡◌, ℕ, ◌+◌, ◌*◌, ◌<◌, ◌≤◌, ◌≢◌, List, [], ◌∷◌, ◌++◌, length, take, get_or, set, sym, refl, ap, ◌∙◌, subst, arith, eq-eqb, ne_eqb}
use Rattle.std.specs.Prelude.{Option, Some, None, Bool, cond, ◌==◌, unwrap_or}
use Rattle.std.proofs.lemmas.List.{get_or-set_same, get_or-set_other, get_or_append_left, get_or_push, length-append, length-set, length-map, append-nil, take-append-le}
use Rattle.std.proofs.lemmas.List.Elements.{All-append}
use Rattle.std.proofs.Math.Seq.{take-append_seam, take-length}
use mathlib.Core.Option.{none}
use mathlib.Core.Logic.{dite}
use native.Mathlib.Decide.{ℕ_discrete, dec_le}
use prog.Atomic.{either}
use Rattle.atomic_table.specs.Table.{step, Allows}
use Rattle.atomic_table.specs.Table.Act.{keeps}
use Rattle.table_rows.specs.declared.view.Parameters.{Parameters}
use Rattle.table_rows.specs.declared.view.CallerView.{CallerView}
use Rattle.table_rows.specs.declared.view.View.{View}
use Rattle.table_rows.specs.declared.view.View.TheVariants.{Founder, Caller, Note, Spent}
use Rattle.table_rows.specs.Layout.{place_of, region_length, basis_length, caller_in, call_in}
use Rattle.table_rows.specs.Good.{IsGood, IsNextRegion, offers_from, offers_of}
use Rattle.table_rows.specs.Views.{width_of, at_place, words_read, blank_row, IsWhole, IsReadWhole}
use Rattle.table_rows.specs.Steps.{exchanged, after_win, after_found, draft_words}
use Rattle.table_rows.specs.Rule.{World, Use, StandsIn, AreLaidOut, AreCounted, Knows, CallerKnows, TableRule, holds}
use Rattle.table_rows.specs.Rule.Use.{nothing, draft_of, record_at}
use Rattle.table_rows.proofs.Fronts.{Row, blank_long, blank_none}
use Rattle.table_rows.proofs.Places.{not_directory}
use Rattle.table_rows.proofs.Standing.{known_length, one_all}
use Rattle.table_rows.proofs.Sounds.{some_of, sounds, front_is, offers_append}
use Rattle.table_rows.proofs.Seating.{changed, reseated}
use Rattle.table_rows.proofs.Growing.{row_word, sees_grown, sees_next}
use Rattle.table_rows.proofs.Newcomers.{instead, instead_here, instead_else}
use Rattle.table_rows.proofs.Looking.{knows_found, stays}

-- the offers of one region
one_offer : (number n : ℕ) (region : List ℕ) → caller_in region ≡ number → offers_from number n (region ∷ []) ≡ (n, call_in region) ∷ []
one_offer number n region e = ap (λ (b : Bool). cond b ((n, call_in region) ∷ []) []) (eq-eqb (caller_in region) number e)

no_offer : (number n : ℕ) (region : List ℕ) → caller_in region ≢ number → offers_from number n (region ∷ []) ≡ []
no_offer number n region e = ap (λ (b : Bool). cond b ((n, call_in region) ∷ []) []) (ne_eqb (caller_in region) number e)

-- a list that knows as much as its directory is the directory
known_all : (dir known later : List ℕ) → dir ≡ known ++ later → length known ≡ length dir → known ≡ dir
known_all dir known [] e same = sym (e ∙ append-nil known)
known_all dir known (x ∷ xs) e same = let long : length dir ≡ length known + length (x ∷ xs) = ap length e ∙ length-append known (x ∷ xs) in absurd (omega arith)

-- a place of a whole row has a word
row_at : (row : Row) (place : ℕ) → IsWhole row → place < length row → (word : ℕ) × (at_place row place ≡ Some word)
row_at row place whole lt = some_of (at_place row place) (whole place None lt)

none_is_not : (A : Type 0) (x : A) → None ≢ Some x
none_is_not A x e = cc

module _ (p : Parameters) (w : World) (counted : AreCounted p w) (seat : ℕ) (v : CallerView) (words : List ℕ) (knows : CallerKnows p w words seat v)
    (small : length w.dir < p.k) (whole : IsWhole v.written) (named : caller_in (draft_words v) ≡ v.number) (next : IsNextRegion p w.log (draft_words v)) where
  abbrev uses_after : ℕ → Use
  uses_after = instead (instead w.uses v.draft (record_at (length w.dir))) (p.passes + length w.dir + 1) (draft_of seat)

  abbrev world_after : World
  world_after = changed w (w.dir ++ v.draft ∷ []) (w.log ++ draft_words v ∷ []) uses_after

  used_else : (region : ℕ) → region ≢ v.draft → region ≢ p.passes + length w.dir + 1 → uses_after region ≡ w.uses region
  used_else region a b = instead_else (instead w.uses v.draft (record_at (length w.dir))) (p.passes + length w.dir + 1) region (draft_of seat) b
      ∙ instead_else w.uses v.draft region (record_at (length w.dir)) a

  -- a region that is used for something else is not the draft
  not_draft : (region : ℕ) (used : Use) → w.uses region ≡ used → used ≢ draft_of seat → region ≢ v.draft
  not_draft region used is other e = other (sym is ∙ (ap (λ (d : ℕ). w.uses d) e ∙ knows.draft))

  dir_long : length (w.dir ++ v.draft ∷ []) ≡ length w.dir + 1
  dir_long = length-append w.dir (v.draft ∷ [])

  log_long : length (w.log ++ draft_words v ∷ []) ≡ length w.log + 1
  log_long = length-append w.log (draft_words v ∷ [])

  dir_before : (m : ℕ) → m < length w.dir → get_or (w.dir ++ v.draft ∷ []) m 0 ≡ get_or w.dir m 0
  dir_before m lt = get_or_append_left w.dir (v.draft ∷ []) 0 m lt

  dir_last : (m : ℕ) → m ≡ length w.dir → get_or (w.dir ++ v.draft ∷ []) m 0 ≡ v.draft
  dir_last m here = get_or_push w.dir v.draft 0 m (sym here)

  log_before : (m : ℕ) → m < length w.dir → get_or (w.log ++ draft_words v ∷ []) m [] ≡ get_or w.log m []
  log_before m lt = let logged : length w.log ≡ length w.dir = counted.logged in get_or_append_left w.log (draft_words v ∷ []) [] m (omega arith)

  log_last : (m : ℕ) → m ≡ length w.dir → get_or (w.log ++ draft_words v ∷ []) m [] ≡ draft_words v
  log_last m here = get_or_push w.log (draft_words v) [] m (counted.logged ∙ sym here)

  abbrev words_after : List ℕ
  words_after = set words (length w.dir) v.draft

  -- words of regions stay
  region_stays : (region place : ℕ) → get_or words_after (place_of p.k p.s region place) 0 ≡ get_or words (place_of p.k p.s region place) 0
  region_stays region place = get_or-set_other words (length w.dir) (place_of p.k p.s region place) v.draft 0 (not_directory p.k p.s region place (length w.dir) small)

  draft_word : (place : ℕ) → place < width_of p → get_or words (place_of p.k p.s v.draft place) 0 ≡ get_or (draft_words v) place 0
  draft_word place lp = let long : length v.written ≡ width_of p = knows.row in
      let there = row_at v.written place whole (omega arith) in
      knows.written place there.0 lp there.1 ∙ row_word v.written place there.0 there.1

  laid_after : AreLaidOut p w words → AreLaidOut p world_after words_after
  laid_after laid = let long : length (w.dir ++ v.draft ∷ []) ≡ length w.dir + 1 = dir_long in record {
    count = length-set words (length w.dir) v.draft ∙ laid.count;
    named = λ m lt. dite (ℕ_discrete m (length w.dir))
        (λ here. let count : length words ≡ basis_length p.k p.s p.passes = laid.count in
        let x : ℕ = (p.passes + p.k) * region_length p.k p.s in let count' : length words ≡ p.k + x = count in
        ap (λ (i : ℕ). get_or words_after i 0) here ∙ (get_or-set_same words (length w.dir) v.draft 0 (omega arith) ∙ sym (dir_last m here)))
        (λ there. get_or-set_other words (length w.dir) m v.draft 0 there ∙ (laid.named m (omega arith) ∙ sym (dir_before m (omega arith))));
    empty = λ m past lt. get_or-set_other words (length w.dir) m v.draft 0 (λ e. omega arith) ∙ laid.empty m (omega arith) lt;
    regions = λ m place lt lp. dite (ℕ_discrete m (length w.dir))
        (λ here. ap (λ (d : ℕ). get_or words_after (place_of p.k p.s d place) 0) (dir_last m here)
        ∙ (region_stays v.draft place ∙ (draft_word place lp ∙ ap (λ (r : List ℕ). get_or r place 0) (sym (log_last m here)))))
        (λ there. let before : m < length w.dir = omega arith in
        ap (λ (d : ℕ). get_or words_after (place_of p.k p.s d place) 0) (dir_before m before)
        ∙ (region_stays (get_or w.dir m 0) place ∙ (laid.regions m place before lp ∙ ap (λ (r : List ℕ). get_or r place 0) (sym (log_before m before)))));
  }

  -- a caller with another number has the same records as before
  offers_stay : (number : ℕ) → number ≢ v.number → offers_of number (w.log ++ draft_words v ∷ []) ≡ offers_of number w.log
  offers_stay number other = offers_append number 0 w.log (draft_words v ∷ [])
      ∙ (ap (λ (l : List (ℕ × ℕ)). offers_of number w.log ++ l) (no_offer number (0 + length w.log) (draft_words v) (λ e. other (sym e ∙ named)))
      ∙ append-nil (offers_of number w.log))

  offers_grow : offers_of v.number (w.log ++ draft_words v ∷ []) ≡ offers_of v.number w.log ++ (length w.dir, call_in (draft_words v)) ∷ []
  offers_grow = let logged : 0 + length w.log ≡ length w.dir = (let l : length w.log ≡ length w.dir = counted.logged in omega arith) in
      offers_append v.number 0 w.log (draft_words v ∷ [])
      ∙ ap (λ (l : List (ℕ × ℕ)). offers_of v.number w.log ++ l) (one_offer v.number (0 + length w.log) (draft_words v) named ∙ ap (λ (i : ℕ). (i, call_in (draft_words v)) ∷ []) logged)

  good_after : IsGood p (w.log ++ draft_words v ∷ [])
  good_after = λ m lt. let long : length (w.log ++ draft_words v ∷ []) ≡ length w.log + 1 = log_long in
      let logged : length w.log ≡ length w.dir = counted.logged in
      dite (ℕ_discrete m (length w.log))
      (λ here. subst (λ (t : List (List ℕ)). IsNextRegion p t (get_or (w.log ++ draft_words v ∷ []) m []))
      (sym (ap (λ (i : ℕ). take i (w.log ++ draft_words v ∷ [])) here ∙ take-append_seam w.log (draft_words v ∷ [])))
      (subst (λ (r : List ℕ). IsNextRegion p w.log r) (sym (log_last m (here ∙ logged))) next))
      (λ there. let before : m < length w.log = omega arith in
      subst (λ (t : List (List ℕ)). IsNextRegion p t (get_or (w.log ++ draft_words v ∷ []) m []))
      (sym (take-append-le m w.log (draft_words v ∷ []) (omega arith)))
      (subst (λ (r : List ℕ). IsNextRegion p (take m w.log) r) (sym (log_before m (omega arith))) (counted.good m before)))

  counted_after : AreCounted p world_after
  counted_after =
      let long : length (w.dir ++ v.draft ∷ []) ≡ length w.dir + 1 = dir_long in
      let log : length (w.log ++ draft_words v ∷ []) ≡ length w.log + 1 = log_long in
      let logged : length w.log ≡ length w.dir = counted.logged in
      let to : v.draft ≤ p.passes + length w.dir = knows.draft_to in
      let number : v.number < length w.joined = knows.number in record {
        short = omega arith;
        logged = omega arith;
        wide = All-append (λ (r : List ℕ). length r ≡ width_of p) w.log (draft_words v ∷ []) counted.wide
            (one_all (λ (r : List ℕ). length r ≡ width_of p) (draft_words v) (length-map v.written (λ (o : Option ℕ). unwrap_or o 0) ∙ knows.row));
        within = λ m lt. dite (ℕ_discrete m (length w.dir))
            (λ here. subst (λ (d : ℕ). (1 ≤ d) × (d ≤ p.passes + length (w.dir ++ v.draft ∷ []))) (sym (dir_last m here)) (knows.draft_from, omega arith))
            (λ there. let before : m < length w.dir = omega arith in let t = counted.within m before in
            subst (λ (d : ℕ). (1 ≤ d) × (d ≤ p.passes + length (w.dir ++ v.draft ∷ []))) (sym (dir_before m before)) (t.0, (let l : get_or w.dir m 0 ≤ p.passes + length w.dir = t.1 in omega arith)));
        placed = λ m lt. dite (ℕ_discrete m (length w.dir))
            (λ here. ap uses_after (dir_last m here)
            ∙ (instead_else (instead w.uses v.draft (record_at (length w.dir))) (p.passes + length w.dir + 1) v.draft (draft_of seat) (λ e. omega arith)
            ∙ (instead_here w.uses v.draft v.draft (record_at (length w.dir)) refl ∙ ap record_at (sym here))))
            (λ there. let before : m < length w.dir = omega arith in
            let bound : get_or w.dir m 0 ≤ p.passes + length w.dir = (counted.within m before).1 in
            ap uses_after (dir_before m before)
            ∙ (used_else (get_or w.dir m 0) (not_draft (get_or w.dir m 0) (record_at m) (counted.placed m before) (λ e. cc)) (λ e. omega arith) ∙ counted.placed m before));
        later = λ region past. used_else region (λ e. omega arith) (λ e. omega arith) ∙ counted.later region (omega arith);
        not_given = λ m past lt. used_else (m + 1) (not_draft (m + 1) nothing (counted.not_given m past lt) (λ e. cc)) (λ e. omega arith) ∙ counted.not_given m past lt;
        given = counted.given;
        good = good_after;
        silent = λ m past. offers_stay m (λ e. omega arith) ∙ counted.silent m past;
        joined_own = λ m own e. counted.joined_own m own e
            ∙ sym (offers_stay m (λ same. none_is_not (List (ℕ × ℕ)) own (sym knows.not_joined ∙ (ap (λ (i : ℕ). get_or w.joined i None) (sym same) ∙ e))));
      }

  -- what other seats know stays
  others_after : (other : ℕ) (view : View) → other ≢ seat → Knows p w words other view → Knows p world_after words_after other view
  others_after other (Founder f) away k = record {
    sight = sees_grown p w counted.logged v.draft (draft_words v) uses_after f.sight k.sight;
    desk = k.desk;
    joined = k.joined;
  }
  others_after other (Note s) away k = sees_grown p w counted.logged v.draft (draft_words v) uses_after s k
  others_after other Spent away k = k
  others_after other (Caller u) away k =
      let long : length (w.dir ++ v.draft ∷ []) ≡ length w.dir + 1 = dir_long in
      let to : u.draft ≤ p.passes + length w.dir = k.draft_to in record {
        sight = sees_grown p w counted.logged v.draft (draft_words v) uses_after u.sight k.sight;
        number = k.number;
        not_joined = k.not_joined;
        owner = k.owner;
        draft = used_else u.draft (not_draft u.draft (draft_of other) k.draft (λ e. away (cc))) (λ e. omega arith) ∙ k.draft;
        draft_from = k.draft_from;
        draft_to = omega arith;
        row = k.row;
        written = λ place word lp e. region_stays u.draft place ∙ k.written place word lp e;
        own = k.own ∙ sym (offers_stay u.number (λ same. away (sym k.owner ∙ (ap (λ (m : ℕ). w.owner m) same ∙ knows.owner))));
        own_known = k.own_known;
      }

  knows_after : v.sight.parameters ≡ p → v.sight.front.known ≡ w.dir → CallerKnows p world_after words_after seat (after_win v)
  knows_after same all =
      let long : length (w.dir ++ v.draft ∷ []) ≡ length w.dir + 1 = dir_long in
      let known : length v.sight.front.known ≡ length w.dir = ap length all in
      let known_long : length (v.sight.front.known ++ v.draft ∷ []) ≡ length v.sight.front.known + 1 = length-append v.sight.front.known (v.draft ∷ []) in
      subst (λ (q : Parameters). CallerKnows p world_after words_after seat (record (after_win v) { draft = q.passes + length v.sight.front.known + 1; written = blank_row (width_of q) })) (sym same) (record {
        sight = sees_next p w counted.logged v.draft (draft_words v) uses_after v.sight v.written knows.sight all knows.row refl;
        number = knows.number;
        not_joined = knows.not_joined;
        owner = knows.owner;
        draft = instead_here (instead w.uses v.draft (record_at (length w.dir))) (p.passes + length w.dir + 1) (p.passes + length v.sight.front.known + 1) (draft_of seat) (omega arith);
        draft_from = omega arith;
        draft_to = omega arith;
        row = blank_long (width_of p);
        written = λ place word lp e. absurd (blank_none (width_of p) place word e);
        own = (λ i. knows.own i ++ (known i, call_in (draft_words v)) ∷ []) ∙ sym offers_grow;
        own_known = All-append (λ offer. offer.0 < length (v.sight.front.known ++ v.draft ∷ [])) v.own ((length v.sight.front.known, call_in (draft_words v)) ∷ [])
            (λ k d h. let old : (get_or v.own k d).0 < length v.sight.front.known = knows.own_known k d h in omega arith)
            (one_all (λ offer. offer.0 < length (v.sight.front.known ++ v.draft ∷ [])) (length v.sight.front.known, call_in (draft_words v)) (omega arith));
      })

-- Append and Lose
pub exchanges : (slots seat n : ℕ) (v : CallerView) → n ≡ length v.sight.front.known → n < v.sight.parameters.k → IsWhole v.written
    → caller_in (draft_words v) ≡ v.number → IsReadWhole v.sight.front → IsNextRegion v.sight.parameters (words_read v.sight.front) (draft_words v)
    → Allows {S = Unit {0}} (holds v.sight.parameters) slots seat (Caller v, []) n (λ x. either (x == 0) v.draft x) (exchanged (step slots n 0 v.draft none) (Caller v, []))
exchanges slots seat n v is lt whole named read next s rule _ at _ =
    let p : Parameters = v.sight.parameters in
    let w : World = rule.world in
    let counted : AreCounted p w = rule.counted in
    let x : ℕ = get_or s.words n 0 in
    let knows : CallerKnows p w s.words seat v = rule.seated.each seat (Caller v) at in
    let stands : StandsIn p w v.sight.front = knows.sight.front in
    let short : length v.sight.front.known ≤ length w.dir = known_length p w v.sight.front stands in
    let logged : length w.log ≡ length w.dir = counted.logged in
    dite (ℕ_discrete x 0)
    (λ empty.
    let last : n ≡ length w.dir = dite (ℕ_discrete n (length w.dir)) (λ e. e) (λ ne.
    let before : n < length w.dir = omega arith in
    let there : x ≡ get_or w.dir n 0 = rule.laid.named n before in
    let one : 1 ≤ get_or w.dir n 0 = (counted.within n before).0 in absurd (omega arith)) in
    let all : v.sight.front.known ≡ w.dir = known_all w.dir v.sight.front.known stands.prefix.0 stands.prefix.1 (sym is ∙ last) in
    let log : words_read v.sight.front ≡ w.log = front_is p w counted v.sight.front stands read
    ∙ (ap (λ (i : ℕ). take i w.log) (sym is ∙ (last ∙ sym logged)) ∙ take-length w.log) in
    let next' : IsNextRegion p w.log (draft_words v) = subst (λ (l : List (List ℕ)). IsNextRegion p l (draft_words v)) log next in
    let small : length w.dir < p.k = subst (λ (i : ℕ). i < p.k) last lt in
    let now = knows_after p w counted seat v s.words knows small whole named next' refl all in
    let dir : List ℕ = w.dir ++ v.draft ∷ [] in
    let regions : List (List ℕ) = w.log ++ draft_words v ∷ [] in
    let uses : ℕ → Use = instead (instead w.uses v.draft (record_at (length w.dir))) (p.passes + length w.dir + 1) (draft_of seat) in
    let words : List ℕ = set s.words (length w.dir) v.draft in
    let counted' = counted_after p w counted seat v s.words knows small whole named next' in
    let after : TableRule p (set s.words n v.draft) (set s.views seat (Caller (after_win v))) =
    subst (λ (i : ℕ). TableRule p (set s.words i v.draft) (set s.views seat (Caller (after_win v)))) (sym last) (record {
      world = changed w dir regions uses;
      laid = laid_after p w counted seat v s.words knows small whole named next' rule.laid;
      counted = counted';
      seated = reseated p w s.words words s.views seat v (after_win v) dir regions uses rule.seated at refl now
          (λ other view away e k. others_after p w counted seat v s.words knows small whole named next' other view away k);
    }) in (
      Caller (after_win v),
      keeps,
      tt,
      subst (λ (b : Bool). TableRule p (set s.words n (either b v.draft x)) (set s.views seat (Caller (after_win v)))) (sym (eq-eqb x 0 empty)) after,
      (refl, ((λ _. refl), λ some_there. absurd (some_there empty)), sounds p (changed w dir regions uses) counted' words seat (after_win v) now, ((is, lt), refl, refl)),
    ))
    (λ some_there.
    let before : n < length w.dir = dite (dec_le (length w.dir) n) (λ past. absurd (some_there (rule.laid.empty n past lt))) (λ not-le. omega arith) in
    let found : x ≡ get_or w.dir n 0 = rule.laid.named n before in
    let now = knows_found p w s.words seat v x refl knows (subst (λ (i : ℕ). i < length w.dir) is before) (found ∙ ap (λ (i : ℕ). get_or w.dir i 0) is) in (
      Caller (after_found v x),
      keeps,
      tt,
      subst (λ (b : Bool). TableRule p (set s.words n (either b v.draft x)) (set s.views seat (Caller (after_found v x)))) (sym (ne_eqb x 0 some_there))
          (stays p s rule n seat v (after_found v x) at refl now),
      (refl, ((λ empty. absurd (some_there empty)), λ _. refl), sounds p w counted s.words seat (after_found v x) now, ((is, lt), refl, refl)),
    ))
