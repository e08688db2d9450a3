-- Join of a caller: its own list is then one of those that the founder brought together, and its seat is spent.
use Rattle.std.proofs.Common.{◌≡◌, ℕ, ◌<◌, ◌≤◌, ◌≢◌, List, length, get_or, set, sym, refl, ap, ◌∙◌, subst, ⊎_elim, arith}
use Rattle.std.specs.Prelude.{Option, Some, None}
use Rattle.std.proofs.lemmas.List.{length-set, get_or-set_same, get_or-set_other}
use mathlib.Core.Option.{some, some-injective}
use mathlib.Core.Logic.{dite}
use native.Mathlib.Decide.{ℕ_discrete}
use lib.ListN.{get_elem?}
use Rattle.atomic_table.specs.Table.{Joins}
use Rattle.atomic_table.proofs.Lists.{at_set, set_here, set_else}
use Rattle.table_rows.specs.declared.view.Parameters.{Parameters}
use Rattle.table_rows.specs.declared.view.CallerView.{CallerView}
use Rattle.table_rows.specs.declared.view.FounderView.{FounderView}
use Rattle.table_rows.specs.declared.view.View.{View}
use Rattle.table_rows.specs.declared.view.View.TheVariants.{Founder, Caller, Note, Spent}
use Rattle.table_rows.specs.Good.{offers_of}
use Rattle.table_rows.specs.Steps.{join_caller_both, after_join_caller}
use Rattle.table_rows.specs.Rule.{World, AreLaidOut, AreCounted, Knows, CallerKnows, FounderKnows, holds}
use Rattle.table_rows.proofs.Seating.{at_within, caller_is_no_founder, same_caller}
use Rattle.table_rows.proofs.Newcomers.{sees_there}
use Rattle.table_rows.proofs.Joined.{sees_joined}

abbrev Own : Type 0
Own = List (ℕ × ℕ)

own_is : (x y : Own) → Some x ≡ Some y → x ≡ y
own_is x y e = cc

none_is_no_own : (x : Own) → None ≢ Some x
none_is_no_own x e = cc

-- the world after a caller was joined
abbrev gathered : World → ℕ → Own → World
gathered w number own = record { dir = w.dir; log = w.log; uses = w.uses; owner = w.owner; desk = w.desk; joined = set w.joined number (Some own) }

module _ (p : Parameters) (w : World) (words : List ℕ) (counted : AreCounted p w) (seat : ℕ) (v : CallerView) (knows : CallerKnows p w words seat v) where
  abbrev after : World
  after = gathered w v.number v.own

  long : length after.joined ≡ length w.joined
  long = length-set w.joined v.number (Some v.own)

  gathered_laid : AreLaidOut p w words → AreLaidOut p after words
  gathered_laid laid = record { count = laid.count; named = laid.named; empty = laid.empty; regions = laid.regions }

  gathered_counted : AreCounted p after
  gathered_counted = let same : length after.joined ≡ length w.joined = long in record {
    short = counted.short;
    logged = counted.logged;
    wide = counted.wide;
    within = counted.within;
    placed = counted.placed;
    later = counted.later;
    not_given = λ m past lt. counted.not_given m (omega arith) lt;
    given = (let g : length w.joined ≤ p.passes = counted.given in omega arith);
    good = counted.good;
    silent = λ m past. counted.silent m (omega arith);
    joined_own = λ m own e. dite (ℕ_discrete m v.number)
        (λ here. let is : Some v.own ≡ Some own = sym (get_or-set_same w.joined v.number (Some v.own) None knows.number) ∙ (ap (λ (i : ℕ). get_or after.joined i None) (sym here) ∙ e) in
        sym (own_is v.own own is) ∙ (knows.own ∙ ap (λ (i : ℕ). offers_of i w.log) (sym here)))
        (λ away. counted.joined_own m own (sym (get_or-set_other w.joined v.number m (Some v.own) None away) ∙ e));
  }

  -- what a seat other than the two knows
  others_gathered : (other : ℕ) (view : View) → other ≢ seat → other ≢ w.desk → Knows p w words other view → Knows p after words other view
  others_gathered other (Founder f) away apart k = absurd (apart k.desk)
  others_gathered other (Note s) away apart k = sees_there p w w.uses w.owner w.desk after.joined s k
  others_gathered other Spent away apart k = k
  others_gathered other (Caller u) away apart k = let same : length after.joined ≡ length w.joined = long in record {
    sight = sees_there p w w.uses w.owner w.desk after.joined u.sight k.sight;
    number = (let lt : u.number < length w.joined = k.number in omega arith);
    not_joined = get_or-set_other w.joined v.number u.number (Some v.own) None
        (λ e. away (sym k.owner ∙ (ap (λ (m : ℕ). w.owner m) e ∙ knows.owner))) ∙ k.not_joined;
    owner = k.owner;
    draft = k.draft;
    draft_from = k.draft_from;
    draft_to = k.draft_to;
    row = k.row;
    written = k.written;
    own = k.own;
    own_known = k.own_known;
  }

  founder_gathered : (desk : ℕ) (f : FounderView) → f.sight.parameters ≡ p → FounderKnows p w desk f → FounderKnows p after desk (after_join_caller f v)
  founder_gathered desk f same k = record {
    sight = sees_joined p after f.sight v.sight same
        (sees_there p w w.uses w.owner w.desk after.joined f.sight k.sight) (sees_there p w w.uses w.owner w.desk after.joined v.sight knows.sight);
    desk = k.desk;
    joined = ap (λ (l : List (Option Own)). set l v.number (Some v.own)) k.joined;
  }

-- Join of a caller into the founder
pub joins_caller : (seat : ℕ) (f : FounderView) (other : ℕ) (v : CallerView)
    → Joins {S = Unit {0}} (holds f.sight.parameters) seat (Founder f) other (Caller v) (join_caller_both (Founder f) (Caller v)) Spent
joins_caller seat f other v s rule at apart at' =
    let p : Parameters = f.sight.parameters in
    let w : World = rule.world in
    let both : View = Founder (after_join_caller f v) in
    let first : List View = set s.views seat both in
    let there : get_elem? s.views other ≡ some (Caller v) = sym (set_else s.views seat other both apart) ∙ at' in
    let mine : FounderKnows p w seat f = rule.seated.each seat (Founder f) at in
    let knows : CallerKnows p w s.words other v = rule.seated.each other (Caller v) there in
    let same : length (gathered w v.number v.own).joined ≡ length w.joined = long p w s.words rule.counted other v knows in record {
      world = gathered w v.number v.own;
      laid = gathered_laid p w s.words rule.counted other v knows rule.laid;
      counted = gathered_counted p w s.words rule.counted other v knows;
      seated = record {
        founded = (
          after_join_caller f v,
          set_else first other w.desk Spent (λ e. apart (sym e ∙ sym mine.desk))
              ∙ subst (λ (j : ℕ). get_elem? first j ≡ some both) mine.desk (set_here s.views seat both (at_within s.views seat (Founder f) at)),
        );
        owned = λ m lt none.
            let away : m ≢ v.number = (λ e. none_is_no_own v.own (sym none ∙ (ap (λ (i : ℕ). get_or (gathered w v.number v.own).joined i None) e ∙ get_or-set_same w.joined v.number (Some v.own) None knows.number))) in
            let lt' : m < length w.joined = omega arith in
            let o = rule.seated.owned m lt' (sym (get_or-set_other w.joined v.number m (Some v.own) None away) ∙ none) in
            let not_founder : w.owner m ≢ seat = (λ e. caller_is_no_founder f o.0 (some-injective (Founder f) (Caller o.0) (sym at ∙ (ap (λ (j : ℕ). get_elem? s.views j) (sym e) ∙ o.1)))) in
            let not_other : w.owner m ≢ other = (λ e. let is : o.0 ≡ v = same_caller o.0 v (some-injective (Caller o.0) (Caller v) (sym o.1 ∙ (ap (λ (j : ℕ). get_elem? s.views j) e ∙ there))) in
            away (sym o.2 ∙ ap (λ (u : CallerView). u.number) is)) in
            (o.0, set_else first other (w.owner m) Spent not_other ∙ (set_else s.views seat (w.owner m) both not_founder ∙ o.1), o.2);
        each = λ j view e. ⊎_elim
            (λ spent. subst (λ (x : View). Knows p (gathered w v.number v.own) s.words j x) spent.1 tt)
            (λ left. ⊎_elim
            (λ here. subst (λ (x : View). Knows p (gathered w v.number v.own) s.words j x) here.1
            (subst (λ (i : ℕ). FounderKnows p (gathered w v.number v.own) i (after_join_caller f v)) (sym here.0)
            (founder_gathered p w s.words rule.counted other v knows seat f refl mine)))
            (λ away. others_gathered p w s.words rule.counted other v knows j view left.0 (λ d. away.0 (d ∙ sym mine.desk)) (rule.seated.each j view away.1))
            (at_set s.views seat j both view left.1))
            (at_set first other j Spent view e);
      };
    }
