-- The steps Note and Join of a note into a caller: the world stays as it is.
use Rattle.std.proofs.Common.{◌≡◌, ℕ, ◌<◌, ◌≢◌, List, [], ◌∷◌, ◌++◌, length, max, get_or, set, sym, refl, ap, ◌∙◌, subst, ⊎_elim, arith}
use mathlib.Core.Option.{some, some-injective}
use lib.ListN.{get_elem?}
use Rattle.atomic_table.specs.Table.{Splits, Joins}
use Rattle.atomic_table.proofs.Lists.{at_set, set_else, set_again, at_longer}
use Rattle.table_rows.specs.declared.view.Parameters.{Parameters}
use Rattle.table_rows.specs.declared.view.Sight.{Sight}
use Rattle.table_rows.specs.declared.view.CallerView.{CallerView}
use Rattle.table_rows.specs.declared.view.FounderView.{FounderView}
use Rattle.table_rows.specs.declared.view.View.{View}
use Rattle.table_rows.specs.declared.view.View.TheVariants.{Founder, Caller, Note, Spent}
use Rattle.table_rows.specs.Views.{noted, joined_front, width_of}
use Rattle.table_rows.specs.Steps.{note_left, note_right, join_note_both, after_join_note}
use Rattle.table_rows.specs.Rule.{World, Sees, Knows, CallerKnows, AreSeated, TableRule, holds}
use Rattle.table_rows.proofs.Seating.{reseated_same}
use Rattle.table_rows.proofs.Newcomers.{at_snoc_where}
use Rattle.table_rows.proofs.Joined.{sees_joined, known_long}

pub founder_is_no_note : (f : FounderView) (s : Sight) → Founder f ≢ Note s
founder_is_no_note f s e = cc

caller_is_no_note : (v : CallerView) (s : Sight) → Caller v ≢ Note s
caller_is_no_note v s e = cc

noted_sees : (p : Parameters) (w : World) (s : Sight) → Sees p w s → Sees p w (noted s)
noted_sees p w s sees = record { parameters = sees.parameters; front = sees.front; olds = λ k d h. absurd (omega arith) }

-- Note
pub notes : (seat : ℕ) (v : CallerView) → Splits {S = Unit {0}} (holds v.sight.parameters) seat (Caller v) (note_left (Caller v)) (note_right (Caller v))
notes seat v s rule at =
    let p : Parameters = v.sight.parameters in
    let w : World = rule.world in
    let knows : CallerKnows p w s.words seat v = rule.seated.each seat (Caller v) at in
    let right : View = Note (noted v.sight) in
    subst (λ (views : List View). TableRule p s.words (views ++ right ∷ [])) (sym (set_again s.views seat (Caller v) at)) (record {
      world = w;
      laid = rule.laid;
      counted = rule.counted;
      seated = record {
        founded = let f = rule.seated.founded in (f.0, at_longer s.views (right ∷ []) w.desk (Founder f.0) f.1);
        owned = λ m lt none. let o = rule.seated.owned m lt none in (o.0, at_longer s.views (right ∷ []) (w.owner m) (Caller o.0) o.1, o.2);
        each = λ other view e. ⊎_elim
            (λ old. rule.seated.each other view old)
            (λ last. subst (λ (x : View). Knows p w s.words other x) last.1 (noted_sees p w v.sight knows.sight))
            (at_snoc_where s.views right view other e);
      };
    })

-- a note is spent
spent_note : (p : Parameters) (w : World) (words : List ℕ) (views : List View) (seat : ℕ) (note : Sight) → AreSeated p w words views → get_elem? views seat ≡ some (Note note)
    → AreSeated p w words (set views seat Spent)
spent_note p w words views seat note seated at = record {
  founded = let f = seated.founded in
      let away : w.desk ≢ seat = (λ e. founder_is_no_note f.0 note (some-injective (Founder f.0) (Note note) (sym f.1 ∙ (ap (λ (i : ℕ). get_elem? views i) e ∙ at)))) in
      (f.0, set_else views seat w.desk Spent away ∙ f.1);
  owned = λ m lt none. let o = seated.owned m lt none in
      let away : w.owner m ≢ seat = (λ e. caller_is_no_note o.0 note (some-injective (Caller o.0) (Note note) (sym o.1 ∙ (ap (λ (i : ℕ). get_elem? views i) e ∙ at)))) in
      (o.0, set_else views seat (w.owner m) Spent away ∙ o.1, o.2);
  each = λ other view e. ⊎_elim
      (λ here. subst (λ (x : View). Knows p w words other x) here.1 tt)
      (λ away. seated.each other view away.1)
      (at_set views seat other Spent view e);
}

knows_joined : (p : Parameters) (w : World) (words : List ℕ) (seat : ℕ) (v : CallerView) (note : Sight) → v.sight.parameters ≡ p → CallerKnows p w words seat v → Sees p w note
    → CallerKnows p w words seat (after_join_note v note)
knows_joined p w words seat v note same knows sees = record {
  sight = sees_joined p w v.sight note same knows.sight sees;
  number = knows.number;
  not_joined = knows.not_joined;
  owner = knows.owner;
  draft = knows.draft;
  draft_from = knows.draft_from;
  draft_to = knows.draft_to;
  row = knows.row;
  written = knows.written;
  own = knows.own;
  own_known = λ k d h. let old : (get_or v.own k d).0 < length v.sight.front.known = knows.own_known k d h in
      let long : length (joined_front (width_of p) v.sight.front note.front).known ≡ max (length v.sight.front.known) (length note.front.known) =
      known_long p w v.sight.front note.front knows.sight.front sees.front in
      omega arith;
}

-- Join of a note into a caller
pub joins_note : (seat : ℕ) (v : CallerView) (other : ℕ) (note : Sight)
    → Joins {S = Unit {0}} (holds v.sight.parameters) seat (Caller v) other (Note note) (join_note_both (Caller v) (Note note)) Spent
joins_note seat v other note s rule at apart at' =
    let p : Parameters = v.sight.parameters in
    let w : World = rule.world in
    let both : CallerView = after_join_note v note in
    let knows : CallerKnows p w s.words seat v = rule.seated.each seat (Caller v) at in
    let there : get_elem? s.views other ≡ some (Note note) = sym (set_else s.views seat other (Caller both) apart) ∙ at' in
    let sees : Sees p w note = rule.seated.each other (Note note) there in record {
      world = w;
      laid = rule.laid;
      counted = rule.counted;
      seated = spent_note p w s.words (set s.views seat (Caller both)) other note
          (reseated_same p w s.words s.words s.views seat v both rule.seated at refl (knows_joined p w s.words seat v note refl knows sees) refl) at';
    }
