-- The step Write: it changes one word, of a region that no other seat and no record has.
use Rattle.std.proofs.Common.{◌≡◌, ℕ, ◌+◌, ◌<◌, ◌≤◌, ◌≢◌, List, [], length, get_or, set, sym, refl, ap, ◌∙◌, subst, arith}
use Rattle.std.specs.Prelude.{Some, None}
use Rattle.std.proofs.lemmas.List.{get_or-set_same, get_or-set_other, length-set}
use mathlib.Core.Option.{none}
use mathlib.Core.Logic.{dite}
use native.Mathlib.Decide.{ℕ_discrete}
use Rattle.atomic_table.specs.Table.{step, Allows}
use Rattle.atomic_table.specs.Table.Act.{keeps}
use Rattle.table_rows.specs.declared.view.Parameters.{Parameters}
use Rattle.table_rows.specs.declared.view.CallerView.{CallerView}
use Rattle.table_rows.specs.declared.view.View.{View}
use Rattle.table_rows.specs.declared.view.View.TheVariants.{Founder, Caller, Note, Spent}
use Rattle.table_rows.specs.Layout.{place_of}
use Rattle.table_rows.specs.Views.{width_of, at_place}
use Rattle.table_rows.specs.Steps.{wrote, after_write}
use Rattle.table_rows.specs.Rule.{World, AreLaidOut, AreCounted, Knows, CallerKnows, TableRule, holds}
use Rattle.table_rows.specs.Rule.Use.{draft_of, record_at}
use Rattle.table_rows.proofs.Fronts.{some_is}
use Rattle.table_rows.proofs.Places.{one_place, not_directory, inside}
use Rattle.table_rows.proofs.Sounds.{sounds}
use Rattle.table_rows.proofs.Seating.{reseated}

module _ (p : Parameters) (w : World) (words : List ℕ) (counted : AreCounted p w) (seat draft place x : ℕ)
    (from : 1 ≤ draft) (own : w.uses draft ≡ draft_of seat) (lp : place < width_of p) where
  spot : ℕ
  spot = place_of p.k p.s draft place

  -- the words after the store
  abbrev stored : List ℕ
  stored = set words (place_of p.k p.s draft place) x

  -- a word of another region stays
  elsewhere : (region q : ℕ) → 1 ≤ region → q < width_of p → region ≢ draft
      → get_or stored (place_of p.k p.s region q) 0 ≡ get_or words (place_of p.k p.s region q) 0
  elsewhere region q lr lq other = get_or-set_other words (place_of p.k p.s draft place) (place_of p.k p.s region q) x 0
      (λ e. other (one_place p.k p.s region draft q place lr from lq lp e).0)

  stored_laid : AreLaidOut p w words → AreLaidOut p w stored
  stored_laid laid = let few : length w.dir ≤ p.k = counted.short in record {
    count = length-set words (place_of p.k p.s draft place) x ∙ laid.count;
    named = λ n lt. let small : n < p.k = omega arith in
        get_or-set_other words (place_of p.k p.s draft place) n x 0 (λ e. not_directory p.k p.s draft place n small (sym e)) ∙ laid.named n lt;
    empty = λ n past small. get_or-set_other words (place_of p.k p.s draft place) n x 0 (λ e. not_directory p.k p.s draft place n small (sym e)) ∙ laid.empty n past small;
    regions = λ n q lt lq. elsewhere (get_or w.dir n 0) q (counted.within n lt).0 lq
        (λ e. let clash : record_at n ≡ draft_of seat = sym (counted.placed n lt) ∙ (ap (λ (d : ℕ). w.uses d) e ∙ own) in cc)
        ∙ laid.regions n q lt lq;
  }

  -- what other seats know stays
  others_know : (other : ℕ) (view : View) → other ≢ seat → Knows p w words other view → Knows p w stored other view
  others_know other (Founder f) away k = k
  others_know other (Note s) away k = k
  others_know other Spent away k = k
  others_know other (Caller u) away k = record {
    sight = k.sight;
    number = k.number;
    not_joined = k.not_joined;
    owner = k.owner;
    draft = k.draft;
    draft_from = k.draft_from;
    draft_to = k.draft_to;
    row = k.row;
    written = λ q word lq e. elsewhere u.draft q k.draft_from lq
        (λ same. let clash : draft_of other ≡ draft_of seat = sym k.draft ∙ (ap (λ (d : ℕ). w.uses d) same ∙ own) in away (cc))
        ∙ k.written q word lq e;
    own = k.own;
    own_known = k.own_known;
  }

  knows_written : (v : CallerView) → v.draft ≡ draft → AreLaidOut p w words → draft ≤ p.passes + p.k → CallerKnows p w words seat v → CallerKnows p w stored seat (after_write v place x)
  knows_written v is laid to k =
      let long : length v.written ≡ width_of p = k.row in
      let count = laid.count in
      let within = inside p.k p.s p.passes draft place from to lp in
      record {
        sight = k.sight;
        number = k.number;
        not_joined = k.not_joined;
        owner = k.owner;
        draft = k.draft;
        draft_from = k.draft_from;
        draft_to = k.draft_to;
        row = length-set v.written place (Some x) ∙ k.row;
        written = λ q word lq e. ap (λ (d : ℕ). get_or stored (place_of p.k p.s d q) 0) is ∙ dite (ℕ_discrete q place)
            (λ same. let there : Some x ≡ Some word = sym (get_or-set_same v.written place (Some x) None (omega arith)) ∙ (ap (λ (i : ℕ). at_place (set v.written place (Some x)) i) (sym same) ∙ e) in
            ap (λ (i : ℕ). get_or stored (place_of p.k p.s draft i) 0) same
            ∙ (get_or-set_same words (place_of p.k p.s draft place) x 0 (subst (λ (m : ℕ). place_of p.k p.s draft place < m) (sym count) within) ∙ some_is x word there))
            (λ other. get_or-set_other words (place_of p.k p.s draft place) (place_of p.k p.s draft q) x 0 (λ same. other (one_place p.k p.s draft draft q place from from lq lp same).1)
            ∙ (ap (λ (d : ℕ). get_or words (place_of p.k p.s d q) 0) (sym is)
            ∙ k.written q word lq (sym (get_or-set_other v.written place q (Some x) None other) ∙ e)));
        own = k.own;
        own_known = k.own_known;
      }

-- Write
pub writes : (slots seat at place x : ℕ) (v : CallerView) → place < width_of v.sight.parameters → at ≡ place_of v.sight.parameters.k v.sight.parameters.s v.draft place
    → Allows {S = Unit {0}} (holds v.sight.parameters) slots seat (Caller v, []) at (λ _. x) (λ _. wrote (step slots at x 0 none) (Caller v, []) x)
writes slots seat at place x v lp there s rule _ sits _ =
    let p : Parameters = v.sight.parameters in
    let w : World = rule.world in
    let knows : CallerKnows p w s.words seat v = rule.seated.each seat (Caller v) sits in
    let few : length w.dir ≤ p.k = rule.counted.short in
    let to : v.draft ≤ p.passes + length w.dir = knows.draft_to in
    let now = knows_written p w s.words rule.counted seat v.draft place x knows.draft_from knows.draft lp v refl rule.laid (omega arith) knows in
    let after : TableRule p (set s.words (place_of p.k p.s v.draft place) x) (set s.views seat (Caller (after_write v place x))) = record {
      world = w;
      laid = stored_laid p w s.words rule.counted seat v.draft place x knows.draft_from knows.draft lp rule.laid;
      counted = rule.counted;
      seated = reseated p w s.words (set s.words (place_of p.k p.s v.draft place) x) s.views seat v (after_write v place x) w.dir w.log w.uses rule.seated sits refl now
          (λ other view away e k. others_know p w s.words rule.counted seat v.draft place x knows.draft_from knows.draft lp other view away k);
    } in (
      Caller (after_write v place x),
      keeps,
      tt,
      subst (λ (i : ℕ). TableRule p (set s.words i x) (set s.views seat (Caller (after_write v place x)))) (sym there) after,
      (
        refl,
        (λ q lq there'. let one = one_place p.k p.s v.draft v.draft place q knows.draft_from knows.draft_from lp lq (sym there ∙ there') in ap (λ (i : ℕ). after_write v i x) one.1),
        sounds p w rule.counted (set s.words (place_of p.k p.s v.draft place) x) seat (after_write v place x) now,
        record { place = place; within = lp; word_is = there },
      ),
    )
