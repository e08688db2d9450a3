-- The steps Number and Note: a view is cut in two, and a new seat has the second.
use Rattle.std.proofs.Common.{◌≡◌, ℕ, zero, suc, ◌+◌, ◌<◌, ◌≢◌, ◌⊎◌, List, [], ◌∷◌, ◌++◌, length, get_or, set, sym, refl, ap, ◌∙◌, subst, inl, inr, ⊎_elim, arith, eq-eqb, ne_eqb}
use Rattle.std.specs.Prelude.{Option, Some, None, Bool, cond, ◌==◌}
use Rattle.std.proofs.lemmas.List.{get_or_append_left, get_or_push, get_or_past, length-append, length-set}
use mathlib.Core.Option.{some, some-injective, some-ne-none}
use mathlib.Core.Logic.{dite}
use native.Mathlib.Decide.{ℕ_discrete, dec_le}
use lib.ListN.{get_elem?}
use Rattle.atomic_table.specs.Table.{Splits}
use Rattle.atomic_table.proofs.Lists.{at_set, set_here, set_else, at_longer, at_last}
use Rattle.table_rows.specs.declared.view.Parameters.{Parameters}
use Rattle.table_rows.specs.declared.view.Front.{Front}
use Rattle.table_rows.specs.declared.view.Sight.{Sight}
use Rattle.table_rows.specs.declared.view.FounderView.{FounderView}
use Rattle.table_rows.specs.declared.view.View.{View}
use Rattle.table_rows.specs.declared.view.View.TheVariants.{Founder, Caller, Note, Spent}
use Rattle.table_rows.specs.Views.{new_caller, first_sight, width_of}
use Rattle.table_rows.specs.Steps.{after_number, number_left, number_right}
use Rattle.table_rows.specs.Rule.{World, Use, StandsIn, Sees, AreLaidOut, AreCounted, Knows, CallerKnows, FounderKnows, holds}
use Rattle.table_rows.specs.Rule.Use.{nothing, draft_of, record_at}
use Rattle.table_rows.proofs.Fronts.{blank_none, blank_long, read_within}
use Rattle.table_rows.proofs.Seating.{at_within, caller_is_no_founder}

pub at_snoc_where : {A : Type 0} (l : List A) (a b : A) (j : ℕ) → get_elem? (l ++ a ∷ []) j ≡ some b → (get_elem? l j ≡ some b) ⊎ ((j ≡ length l) × (a ≡ b))
at_snoc_where [] a b zero e = inr (refl, some-injective a b e)
at_snoc_where [] a b (suc j) e = absurd (some-ne-none b (sym e))
at_snoc_where (x ∷ xs) a b zero e = inl e
at_snoc_where (x ∷ xs) a b (suc j) e = ⊎_elim (λ h. inl h) (λ t. inr (ap suc t.0, t.1)) (at_snoc_where xs a b j e)

-- what a number is given, and what the others are
abbrev pub instead : {A : Type 0} → (ℕ → A) → ℕ → A → ℕ → A
instead f n a m = cond (m == n) a (f m)

pub instead_here : {A : Type 0} (f : ℕ → A) (n m : ℕ) (a : A) → m ≡ n → instead f n a m ≡ a
instead_here f n m a e = ap (λ (b : Bool). cond b a (f m)) (eq-eqb m n e)

pub instead_else : {A : Type 0} (f : ℕ → A) (n m : ℕ) (a : A) → m ≢ n → instead f n a m ≡ f m
instead_else f n m a e = ap (λ (b : Bool). cond b a (f m)) (ne_eqb m n e)

-- the world after one number more was given, to the seat that comes last
abbrev numbered : World → ℕ → World
numbered w seat = record {
  dir = w.dir;
  log = w.log;
  uses = instead w.uses (length w.joined + 1) (draft_of seat);
  owner = instead w.owner (length w.joined) seat;
  desk = w.desk;
  joined = w.joined ++ None ∷ [];
}

-- what stands in a directory stands there whatever else changes
pub stands_there : (p : Parameters) (w : World) (uses : ℕ → Use) (owner : ℕ → ℕ) (desk : ℕ) (joined : List (Option (List (ℕ × ℕ)))) (front : Front)
    → StandsIn p w front → StandsIn p (record { dir = w.dir; log = w.log; uses = uses; owner = owner; desk = desk; joined = joined }) front
stands_there p w uses owner desk joined front stands = record { prefix = stands.prefix; rows = stands.rows; wide = stands.wide; words = stands.words }

pub sees_there : (p : Parameters) (w : World) (uses : ℕ → Use) (owner : ℕ → ℕ) (desk : ℕ) (joined : List (Option (List (ℕ × ℕ)))) (s : Sight)
    → Sees p w s → Sees p (record { dir = w.dir; log = w.log; uses = uses; owner = owner; desk = desk; joined = joined }) s
sees_there p w uses owner desk joined s sees = record {
  parameters = sees.parameters;
  front = stands_there p w uses owner desk joined s.front sees.front;
  olds = λ k d h. let o = sees.olds k d h in (stands_there p w uses owner desk joined (get_or s.olds k d) o.0, o.1);
}

-- a seat that has seen nothing
pub sees_nothing : (p : Parameters) (w : World) → Sees p w (first_sight p)
sees_nothing p w = record {
  parameters = refl;
  front = record { prefix = (w.dir, refl); rows = refl; wide = λ k d h. absurd (omega arith); words = λ n place word e. let h : n < 0 = read_within [] n place word e in absurd (omega arith) };
  olds = λ k d h. absurd (omega arith);
}

none_not_some : {A : Type 0} (x : A) → None ≢ Some x
none_not_some x e = cc

module _ (p : Parameters) (w : World) (seat : ℕ) (fewer : length w.joined < p.passes) where
  numbered_laid : (words : List ℕ) → AreLaidOut p w words → AreLaidOut p (numbered w seat) words
  numbered_laid words laid = record { count = laid.count; named = laid.named; empty = laid.empty; regions = laid.regions }

  longer : length (numbered w seat).joined ≡ length w.joined + 1
  longer = length-append w.joined (None ∷ [])

  numbered_counted : AreCounted p w → AreCounted p (numbered w seat)
  numbered_counted counted = let more : length (numbered w seat).joined ≡ length w.joined + 1 = longer in record {
    short = counted.short;
    logged = counted.logged;
    wide = counted.wide;
    within = counted.within;
    placed = λ n lt. instead_else w.uses (length w.joined + 1) (get_or w.dir n 0) (draft_of seat)
        (λ e. let clash : record_at n ≡ nothing = sym (counted.placed n lt) ∙ (ap (λ (d : ℕ). w.uses d) e ∙ counted.not_given (length w.joined) (omega arith) fewer) in cc)
        ∙ counted.placed n lt;
    later = λ region past. instead_else w.uses (length w.joined + 1) region (draft_of seat) (λ e. omega arith) ∙ counted.later region past;
    not_given = λ m past lt. instead_else w.uses (length w.joined + 1) (m + 1) (draft_of seat) (λ e. omega arith) ∙ counted.not_given m (omega arith) lt;
    given = omega arith;
    good = counted.good;
    silent = λ m past. counted.silent m (omega arith);
    joined_own = λ m own e. dite (dec_le (length w.joined) m)
        (λ past. dite (ℕ_discrete m (length w.joined))
        (λ here. absurd (none_not_some own (sym (get_or_push w.joined None None m (sym here)) ∙ e)))
        (λ there. absurd (none_not_some own (sym (get_or_past (w.joined ++ None ∷ []) m None (omega arith)) ∙ e))))
        (λ not-le. counted.joined_own m own (sym (get_or_append_left w.joined (None ∷ []) None m (omega arith)) ∙ e));
  }

  -- what a seat that was there knows
  still_known : (words : List ℕ) → AreCounted p w → (other : ℕ) (view : View) → other < seat → (¬ (other ≡ w.desk)) → Knows p w words other view → Knows p (numbered w seat) words other view
  still_known words counted other (Founder f) less away k = absurd (away k.desk)
  still_known words counted other (Note s) less away k = sees_there p w (numbered w seat).uses (numbered w seat).owner w.desk (numbered w seat).joined s k
  still_known words counted other Spent less away k = k
  still_known words counted other (Caller u) less away k = let more : length (numbered w seat).joined ≡ length w.joined + 1 = longer in let lt : u.number < length w.joined = k.number in record {
    sight = sees_there p w (numbered w seat).uses (numbered w seat).owner w.desk (numbered w seat).joined u.sight k.sight;
    number = omega arith;
    not_joined = get_or_append_left w.joined (None ∷ []) None u.number lt ∙ k.not_joined;
    owner = instead_else w.owner (length w.joined) u.number seat (λ e. omega arith) ∙ k.owner;
    draft = instead_else w.uses (length w.joined + 1) u.draft (draft_of seat)
        (λ e. let clash : draft_of other ≡ nothing = sym k.draft ∙ (ap (λ (d : ℕ). w.uses d) e ∙ counted.not_given (length w.joined) (omega arith) fewer) in cc) ∙ k.draft;
    draft_from = k.draft_from;
    draft_to = k.draft_to;
    row = k.row;
    written = k.written;
    own = k.own;
    own_known = k.own_known;
  }

  new_knows : (words : List ℕ) → AreCounted p w → CallerKnows p (numbered w seat) words seat (new_caller p (length w.joined))
  new_knows words counted = let more : length (numbered w seat).joined ≡ length w.joined + 1 = longer in record {
    sight = sees_nothing p (numbered w seat);
    number = omega arith;
    not_joined = get_or_push w.joined None None (length w.joined) refl;
    owner = instead_here w.owner (length w.joined) (length w.joined) seat refl;
    draft = instead_here w.uses (length w.joined + 1) (length w.joined + 1) (draft_of seat) refl;
    draft_from = omega arith;
    draft_to = omega arith;
    row = blank_long (width_of p);
    written = λ place word lt e. absurd (blank_none (width_of p) place word e);
    own = sym (counted.silent (length w.joined) (omega arith));
    own_known = λ k d h. absurd (omega arith);
  }

-- Number
pub numbers : (seat : ℕ) (f : FounderView) → length f.joined < f.sight.parameters.passes
    → Splits {S = Unit {0}} (holds f.sight.parameters) seat (Founder f) (number_left (Founder f)) (number_right (Founder f))
numbers seat f fewer s rule at =
    let p : Parameters = f.sight.parameters in
    let w : World = rule.world in
    let new : ℕ = length s.views in
    let counted : AreCounted p w = rule.counted in
    let knows : FounderKnows p w seat f = rule.seated.each seat (Founder f) at in
    let same : f.joined ≡ w.joined = knows.joined in
    let lt : length w.joined < p.passes = subst (λ (l : List (Option (List (ℕ × ℕ)))). length l < p.passes) same fewer in
    let more : length (numbered w new).joined ≡ length w.joined + 1 = longer p w new lt in
    let left : View = Founder (after_number f) in
    let right : View = Caller (new_caller p (length f.joined)) in
    let views : List View = set s.views seat left in
    let long : length views ≡ new = length-set s.views seat left in
    let sits : seat < new = at_within s.views seat (Founder f) at in
    let newcomer : CallerKnows p (numbered w new) s.words new (new_caller p (length f.joined)) =
    subst (λ (l : List (Option (List (ℕ × ℕ)))). CallerKnows p (numbered w new) s.words new (new_caller p (length l))) (sym same) (new_knows p w new lt s.words counted) in
    record {
      world = numbered w new;
      laid = numbered_laid p w new lt s.words rule.laid;
      counted = numbered_counted p w new lt counted;
      seated = record {
        founded = (after_number f, at_longer views (right ∷ []) w.desk left (subst (λ (j : ℕ). get_elem? views j ≡ some left) knows.desk (set_here s.views seat left sits)));
        owned = λ m below none. dite (ℕ_discrete m (length w.joined))
            (λ here. (
              new_caller p (length f.joined),
              ap (λ (j : ℕ). get_elem? (views ++ right ∷ []) j) (instead_here w.owner (length w.joined) m new here) ∙ at_last views right new long,
              ap length same ∙ sym here,
            ))
            (λ there. let small : m < length w.joined = omega arith in
            let o = rule.seated.owned m small (sym (get_or_append_left w.joined (None ∷ []) None m small) ∙ none) in
            let away : w.owner m ≢ seat = (λ e. caller_is_no_founder f o.0 (some-injective (Founder f) (Caller o.0) (sym at ∙ (ap (λ (j : ℕ). get_elem? s.views j) (sym e) ∙ o.1)))) in
            (o.0, ap (λ (j : ℕ). get_elem? (views ++ right ∷ []) j) (instead_else w.owner (length w.joined) m new there) ∙ at_longer views (right ∷ []) (w.owner m) (Caller o.0) (set_else s.views seat (w.owner m) left away ∙ o.1), o.2));
        each = λ other view e. ⊎_elim
            (λ old. ⊎_elim
            (λ here. subst (λ (x : View). Knows p (numbered w new) s.words other x) here.1 (record {
              sight = sees_there p w (numbered w new).uses (numbered w new).owner w.desk (numbered w new).joined f.sight knows.sight;
              desk = here.0 ∙ knows.desk;
              joined = ap (λ (l : List (Option (List (ℕ × ℕ)))). l ++ None ∷ []) same;
            }))
            (λ away. still_known p w new lt s.words counted other view (at_within s.views other view away.1) (λ d. away.0 (d ∙ sym knows.desk)) (rule.seated.each other view away.1))
            (at_set s.views seat other left view old))
            (λ last. subst (λ (x : View). Knows p (numbered w new) s.words other x) last.1
            (subst (λ (j : ℕ). CallerKnows p (numbered w new) s.words j (new_caller p (length f.joined))) (sym (last.0 ∙ long)) newcomer))
            (at_snoc_where views right view other e);
      };
    }
