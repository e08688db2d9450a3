-- The steps Look and Read: they change no word, and nothing but the own view.
use Rattle.std.proofs.Common.{◌≡◌, ℕ, ◌+◌, ◌<◌, ◌≤◌, List, [], ◌∷◌, ◌++◌, length, get_or, set, sym, refl, ap, ◌∙◌, subst, arith}
use Rattle.std.proofs.lemmas.List.{set-get_or, length-append}
use mathlib.Core.Option.{some, none}
use mathlib.Core.Logic.{dite}
use native.Mathlib.Decide.{ℕ_discrete, dec_le}
use lib.ListN.{get_elem?}
use Rattle.atomic_table.specs.Table.{State, step, Allows}
use Rattle.atomic_table.specs.Table.Act.{keeps}
use Rattle.table_rows.specs.declared.view.Parameters.{Parameters}
use Rattle.table_rows.specs.declared.view.CallerView.{CallerView}
use Rattle.table_rows.specs.declared.view.View.{View}
use Rattle.table_rows.specs.declared.view.View.TheVariants.{Caller}
use Rattle.table_rows.specs.Layout.{place_of}
use Rattle.table_rows.specs.Views.{width_of, with_region, blank_row}
use Rattle.table_rows.specs.Steps.{looked, was_read, after_found, after_empty, after_read}
use Rattle.table_rows.specs.Rule.{World, Sees, AreLaidOut, AreCounted, CallerKnows, TableRule, holds}
use Rattle.table_rows.specs.Rule.Use.{record_at}
use Rattle.table_rows.proofs.Places.{one_place}
use Rattle.table_rows.proofs.Standing.{known_at, known_length, sees_found, sees_read}
use Rattle.table_rows.proofs.Sounds.{sounds}
use Rattle.table_rows.proofs.Seating.{reseated_same}

-- a caller that knows one region more, or whose counts changed
pub knows_found : (p : Parameters) (w : World) (words : List ℕ) (seat : ℕ) (v : CallerView) (region : ℕ) → v.sight.parameters ≡ p → CallerKnows p w words seat v
    → length v.sight.front.known < length w.dir → region ≡ get_or w.dir (length v.sight.front.known) 0 → CallerKnows p w words seat (after_found v region)
knows_found p w words seat v region same knows lt is =
    let sees : Sees p w (after_found v region).sight = subst (λ (q : Parameters). Sees p w (record v.sight { front = with_region v.sight.front region (blank_row (width_of q)) })) (sym same) (sees_found p w v.sight region knows.sight lt is) in
    record {
      sight = sees;
      number = knows.number;
      not_joined = knows.not_joined;
      owner = knows.owner;
      draft = knows.draft;
      draft_from = knows.draft_from;
      draft_to = knows.draft_to;
      row = knows.row;
      written = knows.written;
      own = knows.own;
      own_known = λ k d h. let old : (get_or v.own k d).0 < length v.sight.front.known = knows.own_known k d h in
          let long : length (v.sight.front.known ++ region ∷ []) ≡ length v.sight.front.known + 1 = length-append v.sight.front.known (region ∷ []) in omega arith;
    }

knows_empty : (p : Parameters) (w : World) (words : List ℕ) (seat : ℕ) (v : CallerView) → CallerKnows p w words seat v → CallerKnows p w words seat (after_empty v)
knows_empty p w words seat v knows = record {
  sight = knows.sight;
  number = knows.number;
  not_joined = knows.not_joined;
  owner = knows.owner;
  draft = knows.draft;
  draft_from = knows.draft_from;
  draft_to = knows.draft_to;
  row = knows.row;
  written = knows.written;
  own = knows.own;
  own_known = knows.own_known;
}

knows_read : (p : Parameters) (w : World) (words : List ℕ) (seat : ℕ) (v : CallerView) (n place x : ℕ) → CallerKnows p w words seat v
    → n < length v.sight.front.known → place < width_of p → x ≡ get_or (get_or w.log n []) place 0 → CallerKnows p w words seat (after_read v n place x)
knows_read p w words seat v n place x knows ln lp is = record {
  sight = sees_read p w v.sight n place x knows.sight ln lp is;
  number = knows.number;
  not_joined = knows.not_joined;
  owner = knows.owner;
  draft = knows.draft;
  draft_from = knows.draft_from;
  draft_to = knows.draft_to;
  row = knows.row;
  written = knows.written;
  own = knows.own;
  own_known = knows.own_known;
}

-- a step that changes no word
pub stays : (p : Parameters) (s : State (Unit {0}) View) (rule : holds p s) (i seat : ℕ) (v v' : CallerView) → get_elem? s.views seat ≡ some (Caller v) → v'.number ≡ v.number
    → CallerKnows p rule.world s.words seat v' → TableRule p (set s.words i (get_or s.words i 0)) (set s.views seat (Caller v'))
stays p s rule i seat v v' at same knows = let still : set s.words i (get_or s.words i 0) ≡ s.words = set-get_or s.words i 0 in record {
  world = rule.world;
  laid = subst (λ (ws : List ℕ). AreLaidOut p rule.world ws) (sym still) rule.laid;
  counted = rule.counted;
  seated = reseated_same p rule.world s.words (set s.words i (get_or s.words i 0)) s.views seat v v' rule.seated at same knows still;
}

-- Look
pub looks : (slots seat n : ℕ) (v : CallerView) → n ≡ length v.sight.front.known → n < v.sight.parameters.k
    → Allows {S = Unit {0}} (holds v.sight.parameters) slots seat (Caller v, []) n (λ x. x) (looked (step slots n 0 0 none) (Caller v, []))
looks slots seat n v next lt s rule _ at _ =
    let p : Parameters = v.sight.parameters in
    let w : World = rule.world in
    let found : ℕ = get_or s.words n 0 in
    let knows : CallerKnows p w s.words seat v = rule.seated.each seat (Caller v) at in
    dite (ℕ_discrete found 0)
    (λ none_there. let now = knows_empty p w s.words seat v knows in (
      Caller (after_empty v),
      keeps,
      tt,
      stays p s rule n seat v (after_empty v) at refl now,
      (refl, ((λ _. refl), λ some_there. absurd (some_there none_there)), sounds p w rule.counted s.words seat (after_empty v) now, (next, lt)),
    ))
    (λ some_there.
    let named : n < length w.dir = dite (dec_le (length w.dir) n) (λ past. absurd (some_there (rule.laid.empty n past lt))) (λ not-le. omega arith) in
    let is : found ≡ get_or w.dir n 0 = rule.laid.named n named in
    let now = knows_found p w s.words seat v found refl knows (subst (λ (i : ℕ). i < length w.dir) next named) (is ∙ ap (λ (i : ℕ). get_or w.dir i 0) next) in (
      Caller (after_found v found),
      keeps,
      tt,
      stays p s rule n seat v (after_found v found) at refl now,
      (refl, ((λ none_there. absurd (some_there none_there)), λ _. refl), sounds p w rule.counted s.words seat (after_found v found) now, (next, lt)),
    ))

-- two known regions are one only at one position
one_position : (p : Parameters) (w : World) → AreCounted p w → (n m : ℕ) → n < length w.dir → m < length w.dir → get_or w.dir n 0 ≡ get_or w.dir m 0 → n ≡ m
one_position p w counted n m ln lm e =
    let same : record_at n ≡ record_at m = sym (counted.placed n ln) ∙ (ap (λ (d : ℕ). w.uses d) e ∙ counted.placed m lm) in cc

-- Read
pub reads : (slots seat at n place : ℕ) (v : CallerView) → n < length v.sight.front.known → place < width_of v.sight.parameters
    → at ≡ place_of v.sight.parameters.k v.sight.parameters.s (get_or v.sight.front.known n 0) place
    → Allows {S = Unit {0}} (holds v.sight.parameters) slots seat (Caller v, []) at (λ x. x) (was_read (step slots at 0 0 none) (Caller v, []))
reads slots seat at n place v ln lp there s rule _ sits _ =
    let p : Parameters = v.sight.parameters in
    let w : World = rule.world in
    let x : ℕ = get_or s.words at 0 in
    let knows : CallerKnows p w s.words seat v = rule.seated.each seat (Caller v) sits in
    let short : length v.sight.front.known ≤ length w.dir = known_length p w v.sight.front knows.sight.front in
    let is : x ≡ get_or (get_or w.log n []) place 0 =
    ap (λ (i : ℕ). get_or s.words i 0) (there ∙ ap (λ (d : ℕ). place_of p.k p.s d place) (known_at p w v.sight.front knows.sight.front n ln)) ∙ rule.laid.regions n place (omega arith) lp in
    let now = knows_read p w s.words seat v n place x knows ln lp is in (
      Caller (after_read v n place x),
      keeps,
      tt,
      stays p s rule at seat v (after_read v n place x) sits refl now,
      (
        refl,
        (λ m q lm lq there'.
            let known_n = known_at p w v.sight.front knows.sight.front n ln in
            let known_m = known_at p w v.sight.front knows.sight.front m lm in
            let both : place_of p.k p.s (get_or w.dir n 0) place ≡ place_of p.k p.s (get_or w.dir m 0) q =
            ap (λ (d : ℕ). place_of p.k p.s d place) (sym known_n) ∙ (sym there ∙ (there' ∙ ap (λ (d : ℕ). place_of p.k p.s d q) known_m)) in
            let one = one_place p.k p.s (get_or w.dir n 0) (get_or w.dir m 0) place q (rule.counted.within n (omega arith)).0 (rule.counted.within m (omega arith)).0 lp lq both in
            let same_n : n ≡ m = one_position p w rule.counted n m (omega arith) (omega arith) one.0 in
            ((λ i. after_read v (same_n i) (one.1 i) x), (λ word e. is ∙ ((λ i. get_or (get_or w.log (same_n i) []) (one.1 i) 0) ∙ sym (knows.sight.front.words m q word e))))),
        sounds p w rule.counted s.words seat (after_read v n place x) now,
        record { n = n; place = place; known = ln; within = lp; word_is = there },
      ),
    )
