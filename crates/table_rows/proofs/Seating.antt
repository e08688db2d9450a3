-- The views after one caller's view was changed: the others know what they knew.
use Rattle.std.proofs.Common.{◌≡◌, ℕ, zero, suc, ◌<◌, ◌≢◌, List, [], ◌∷◌, length, set, sym, ap, ◌∙◌, subst, ⊎_elim, arith}
use mathlib.Core.Option.{some, some-injective, some-ne-none}
use mathlib.Core.Logic.{dite}
use native.Mathlib.Decide.{ℕ_discrete}
use lib.ListN.{get_elem?}
use Rattle.atomic_table.proofs.Lists.{at_set, set_here, set_else}
use Rattle.table_rows.specs.declared.view.Parameters.{Parameters}
use Rattle.table_rows.specs.declared.view.CallerView.{CallerView}
use Rattle.table_rows.specs.declared.view.FounderView.{FounderView}
use Rattle.table_rows.specs.declared.view.View.{View}
use Rattle.table_rows.specs.declared.view.View.TheVariants.{Founder, Caller}
use Rattle.table_rows.specs.Rule.{World, Use, Knows, CallerKnows, AreSeated}

-- the world with another directory, its log and its uses
abbrev pub changed : World → List ℕ → List (List ℕ) → (ℕ → Use) → World
changed w dir log uses = record { dir = dir; log = log; uses = uses; owner = w.owner; desk = w.desk; joined = w.joined }

pub at_within : {A : Type 0} (l : List A) (i : ℕ) (a : A) → get_elem? l i ≡ some a → i < length l
at_within [] i a e = absurd (some-ne-none a (sym e))
at_within (x ∷ xs) zero a e = omega arith
at_within (x ∷ xs) (suc i) a e = let h : i < length xs = at_within xs i a e in omega arith

pub caller_is_no_founder : (f : FounderView) (v : CallerView) → Founder f ≢ Caller v
caller_is_no_founder f v e = cc

pub same_caller : (u v : CallerView) → Caller u ≡ Caller v → u ≡ v
same_caller u v e = cc

module _ (p : Parameters) (w : World) (words words' : List ℕ) (views : List View) (seat : ℕ) (v v' : CallerView) where
  -- the world may change in its directory; every other seat knows in it what it knew
  pub reseated : (dir : List ℕ) (log : List (List ℕ)) (uses : ℕ → Use) → AreSeated p w words views → get_elem? views seat ≡ some (Caller v) → v'.number ≡ v.number
      → CallerKnows p (changed w dir log uses) words' seat v'
      → ((other : ℕ) (view : View) → other ≢ seat → get_elem? views other ≡ some view → Knows p w words other view → Knows p (changed w dir log uses) words' other view)
      → AreSeated p (changed w dir log uses) words' (set views seat (Caller v'))
  reseated dir log uses seated at same knows others = record {
    founded = let f = seated.founded in
        let away : w.desk ≢ seat = (λ e. caller_is_no_founder f.0 v (some-injective (Founder f.0) (Caller v) (sym f.1 ∙ (ap (λ (i : ℕ). get_elem? views i) e ∙ at)))) in
        (f.0, set_else views seat w.desk (Caller v') away ∙ f.1);
    owned = λ m lt none. let o = seated.owned m lt none in
        dite (ℕ_discrete (w.owner m) seat)
        (λ here. let is : o.0 ≡ v = same_caller o.0 v (some-injective (Caller o.0) (Caller v) (sym o.1 ∙ (ap (λ (i : ℕ). get_elem? views i) here ∙ at))) in
        (v', ap (λ (i : ℕ). get_elem? (set views seat (Caller v')) i) here ∙ set_here views seat (Caller v') (at_within views seat (Caller v) at), same ∙ (ap (λ (u : CallerView). u.number) (sym is) ∙ o.2)))
        (λ away. (o.0, set_else views seat (w.owner m) (Caller v') away ∙ o.1, o.2));
    each = λ other view e. ⊎_elim
        (λ here. subst (λ (x : View). Knows p (changed w dir log uses) words' other x) here.1 (subst (λ (j : ℕ). CallerKnows p (changed w dir log uses) words' j v') (sym here.0) knows))
        (λ away. others other view away.0 away.1 (seated.each other view away.1))
        (at_set views seat other (Caller v') view e);
  }

  -- the world stays, and so do the words
  pub reseated_same : AreSeated p w words views → get_elem? views seat ≡ some (Caller v) → v'.number ≡ v.number → CallerKnows p w words seat v'
      → words' ≡ words → AreSeated p w words' (set views seat (Caller v'))
  reseated_same seated at same knows still =
      let moved : CallerKnows p w words' seat v' = subst (λ (ws : List ℕ). CallerKnows p w ws seat v') (sym still) knows in
      reseated w.dir w.log w.uses seated at same moved (λ other view away e k. subst (λ (ws : List ℕ). Knows p w ws other view) (sym still) k)
