-- From the steps to the calls: what a seat and a table are seen as, and what is inside.
use Rattle.std.proofs.Common.{◌≡◌, ◌≢◌, ℕ, ◌+◌, ◌*◌, ◌<◌, ◌≤◌, [], length, get_or, sym, ap, ◌∙◌, subst, arith, mul-le-mul_right}
use mathlib.Core.Option.{none}
use mathlib.Core.Logic.{dite}
use native.Mathlib.Decide.{ℕ_discrete}
use Rattle.atomic_table.specs.Table.{Me, step, Allows, Splits, Joins}
use Rattle.atomic_table.specs.Seated.{TableId}
use Rattle.table_rows.specs.declared.view.Parameters.{Parameters}
use Rattle.table_rows.specs.declared.view.CallerView.{CallerView}
use Rattle.table_rows.specs.declared.view.FounderView.{FounderView}
use Rattle.table_rows.specs.declared.view.View.{View}
use Rattle.table_rows.specs.declared.view.View.TheVariants.{Founder, Caller, Note, Spent}
use Rattle.std.specs.Prelude.{◌==◌}
use prog.Atomic.{either}
use Rattle.table_rows.specs.Layout.{caller_in}
use Rattle.table_rows.specs.Good.{IsNextRegion}
use Rattle.table_rows.proofs.Appending.{exchanges}
use Rattle.table_rows.specs.Layout.{basis_length, place_of, region_length}
use Rattle.table_rows.specs.Views.{IsReadWhole, IsWhole, as_caller, as_founder, as_sight, width_of, words_read}
use Rattle.table_rows.specs.Rule.{holds}
use Rattle.table_rows.specs.Seats.{SeatValue, TableValue, IsCallerAt, IsFounderAt, IsNoteAt}
use Rattle.table_rows.specs.Steps.{exchanged, draft_words, after_win, looked, was_read, wrote, number_left, number_right, IsCaller, after_empty, after_found, note_left, note_right, join_note_both, join_caller_both, after_join_note, after_join_caller, IsSight}
use Rattle.table_rows.proofs.Looking.{looks, reads}
use Rattle.table_rows.proofs.Writing.{writes}
use Rattle.table_rows.proofs.Newcomers.{numbers}
use Rattle.table_rows.proofs.Notes.{notes, joins_note}
use Rattle.table_rows.proofs.Gathering.{joins_caller}
use Rattle.table_rows.proofs.Joined.{joined_shaped}
use Rattle.table_rows.specs.declared.view.Sight.{Sight}

abbrev pub Here : Type 0
Here = Me (Unit {0}) View

-- a caller's seat at a table: both are of one table id and one key
pub caller_at : (t : TableValue) (seat : SeatValue CallerView) (id own : TableId) (key : Parameters) (v : CallerView)
    → record { table = id; parameters = key } ≡ t → record { table = own; view = v } ≡ seat → IsCallerAt t seat → (own ≡ id) × (v.sight.parameters ≡ key)
caller_at t seat id own key v e d at = (
  ap (λ (z : SeatValue CallerView). z.table) d ∙ (at.table ∙ sym (ap (λ (z : TableValue). z.table) e)),
  ap (λ (z : SeatValue CallerView). z.view.sight.parameters) d ∙ (at.parameters ∙ sym (ap (λ (z : TableValue). z.parameters) e)),
)

pub at_caller : (t : TableValue) (id own : TableId) (key : Parameters) (v : CallerView)
    → record { table = id; parameters = key } ≡ t → own ≡ id → v.sight.parameters ≡ key → IsCallerAt t (record { table = own; view = v })
at_caller t id own key v e d same = record {
  table = d ∙ ap (λ (z : TableValue). z.table) e;
  parameters = same ∙ ap (λ (z : TableValue). z.parameters) e;
}

pub founder_at : (t : TableValue) (seat : SeatValue FounderView) (id own : TableId) (key : Parameters) (v : FounderView)
    → record { table = id; parameters = key } ≡ t → record { table = own; view = v } ≡ seat → IsFounderAt t seat → (own ≡ id) × (v.sight.parameters ≡ key)
founder_at t seat id own key v e d at = (
  ap (λ (z : SeatValue FounderView). z.table) d ∙ (at.table ∙ sym (ap (λ (z : TableValue). z.table) e)),
  ap (λ (z : SeatValue FounderView). z.view.sight.parameters) d ∙ (at.parameters ∙ sym (ap (λ (z : TableValue). z.parameters) e)),
)

pub at_founder : (t : TableValue) (id own : TableId) (key : Parameters) (v : FounderView)
    → record { table = id; parameters = key } ≡ t → own ≡ id → v.sight.parameters ≡ key → IsFounderAt t (record { table = own; view = v })
at_founder t id own key v e d same = record {
  table = d ∙ ap (λ (z : TableValue). z.table) e;
  parameters = same ∙ ap (λ (z : TableValue). z.parameters) e;
}

-- the directory lies among the words
pub directory_inside : (p : Parameters) (k s words n : ℕ) → k ≡ p.k → words ≡ basis_length k s p.passes → n < p.k → n < words
directory_inside p k s words n same is lt = let x : ℕ = (p.passes + k) * region_length k s in let e : words ≡ k + x = is in omega arith

pub look_allowed : (key : Parameters) (slots seat n : ℕ) (me : Here) → me ≡ (Caller (as_caller me.0), []) → (as_caller me.0).sight.parameters ≡ key
    → n ≡ length (as_caller me.0).sight.front.known → n < key.k
    → Allows {S = Unit {0}} (holds key) slots seat me n (λ x. x) (looked (step slots n 0 0 none) me)
look_allowed key slots seat n me is same next lt =
    let v : CallerView = as_caller me.0 in
    let lt' : n < v.sight.parameters.k = subst (λ (q : Parameters). n < q.k) (sym same) lt in
    subst (λ (q : Parameters). Allows {S = Unit {0}} (holds q) slots seat me n (λ x. x) (looked (step slots n 0 0 none) me)) same
    (subst (λ (m : Here). Allows {S = Unit {0}} (holds v.sight.parameters) slots seat m n (λ x. x) (looked (step slots n 0 0 none) m)) (sym is)
    (looks slots seat n v next lt'))

pub read_allowed : (key : Parameters) (slots seat at n place : ℕ) (me : Here) → me ≡ (Caller (as_caller me.0), []) → (as_caller me.0).sight.parameters ≡ key
    → n < length (as_caller me.0).sight.front.known → place < width_of key → at ≡ place_of key.k key.s (get_or (as_caller me.0).sight.front.known n 0) place
    → Allows {S = Unit {0}} (holds key) slots seat me at (λ x. x) (was_read (step slots at 0 0 none) me)
read_allowed key slots seat at n place me is same ln lp there =
    let v : CallerView = as_caller me.0 in
    let lp' : place < width_of v.sight.parameters = subst (λ (q : Parameters). place < width_of q) (sym same) lp in
    let there' : at ≡ place_of v.sight.parameters.k v.sight.parameters.s (get_or v.sight.front.known n 0) place =
    subst (λ (q : Parameters). at ≡ place_of q.k q.s (get_or v.sight.front.known n 0) place) (sym same) there in
    subst (λ (q : Parameters). Allows {S = Unit {0}} (holds q) slots seat me at (λ x. x) (was_read (step slots at 0 0 none) me)) same
    (subst (λ (m : Here). Allows {S = Unit {0}} (holds v.sight.parameters) slots seat m at (λ x. x) (was_read (step slots at 0 0 none) m)) (sym is)
    (reads slots seat at n place v ln lp' there'))

pub write_allowed : (key : Parameters) (slots seat at place x : ℕ) (me : Here) → me ≡ (Caller (as_caller me.0), []) → (as_caller me.0).sight.parameters ≡ key
    → place < width_of key → at ≡ place_of key.k key.s (as_caller me.0).draft place
    → Allows {S = Unit {0}} (holds key) slots seat me at (λ _. x) (λ _. wrote (step slots at x 0 none) me x)
write_allowed key slots seat at place x me is same lp there =
    let v : CallerView = as_caller me.0 in
    let lp' : place < width_of v.sight.parameters = subst (λ (q : Parameters). place < width_of q) (sym same) lp in
    let there' : at ≡ place_of v.sight.parameters.k v.sight.parameters.s v.draft place =
    subst (λ (q : Parameters). at ≡ place_of q.k q.s v.draft place) (sym same) there in
    subst (λ (q : Parameters). Allows {S = Unit {0}} (holds q) slots seat me at (λ _. x) (λ _. wrote (step slots at x 0 none) me x)) same
    (subst (λ (m : Here). Allows {S = Unit {0}} (holds v.sight.parameters) slots seat m at (λ _. x) (λ _. wrote (step slots at x 0 none) m x)) (sym is)
    (writes slots seat at place x v lp' there'))

pub number_allowed : (key : Parameters) (seat : ℕ) (me : Here) → me ≡ (Founder (as_founder me.0), []) → (as_founder me.0).sight.parameters ≡ key
    → length (as_founder me.0).joined < key.passes → Splits {S = Unit {0}} (holds key) seat me.0 (number_left me.0) (number_right me.0)
number_allowed key seat me is same fewer =
    let f : FounderView = as_founder me.0 in
    let fewer' : length f.joined < f.sight.parameters.passes = subst (λ (q : Parameters). length f.joined < q.passes) (sym same) fewer in
    subst (λ (q : Parameters). Splits {S = Unit {0}} (holds q) seat me.0 (number_left me.0) (number_right me.0)) same
    (subst (λ (v : View). Splits {S = Unit {0}} (holds f.sight.parameters) seat v (number_left v) (number_right v)) (sym (ap (λ (m : Here). m.0) is)) (numbers seat f fewer'))

pub looked_parameters : (v w : CallerView) (found : ℕ) → (found ≡ 0 → w ≡ after_empty v) → (found ≢ 0 → w ≡ after_found v found) → w.sight.parameters ≡ v.sight.parameters
looked_parameters v w found empty some = dite (ℕ_discrete found 0)
    (λ z. ap (λ (u : CallerView). u.sight.parameters) (empty z)) (λ nz. ap (λ (u : CallerView). u.sight.parameters) (some nz))

pub known_region : (v : CallerView) (n region : ℕ) → IsCaller v → n < length v.sight.front.known → region ≡ get_or v.sight.front.known n 0
    → (1 ≤ region) × (region ≤ v.sight.parameters.passes + v.sight.parameters.k)
known_region v n region shaped ln is = subst (λ (d : ℕ). (1 ≤ d) × (d ≤ v.sight.parameters.passes + v.sight.parameters.k)) (sym is) (shaped.sight.regions n 0 ln)

-- a table has words
pub some_words : (p : Parameters) (k s words : ℕ) → words ≡ basis_length k s p.passes → 1 ≤ p.passes → 0 < words
some_words p k s words is lp =
    let w : ℕ = region_length k s in
    let more : 1 * w ≤ (p.passes + k) * w = mul-le-mul_right w (omega arith) in
    let x : ℕ = (p.passes + k) * w in let e : words ≡ k + x = is in omega arith

pub exchange_allowed : (key : Parameters) (slots seat n draft : ℕ) (me : Here) → me ≡ (Caller (as_caller me.0), []) → (as_caller me.0).sight.parameters ≡ key
    → n ≡ length (as_caller me.0).sight.front.known → n < key.k → draft ≡ (as_caller me.0).draft → IsWhole (as_caller me.0).written
    → caller_in (draft_words (as_caller me.0)) ≡ (as_caller me.0).number → IsReadWhole (as_caller me.0).sight.front
    → IsNextRegion key (words_read (as_caller me.0).sight.front) (draft_words (as_caller me.0))
    → Allows {S = Unit {0}} (holds key) slots seat me n (λ x. either (x == 0) draft x) (exchanged (step slots n 0 draft none) me)
exchange_allowed key slots seat n draft me is same next lt own whole named read good =
    let v : CallerView = as_caller me.0 in
    let lt' : n < v.sight.parameters.k = subst (λ (q : Parameters). n < q.k) (sym same) lt in
    let good' : IsNextRegion v.sight.parameters (words_read v.sight.front) (draft_words v) = subst (λ (q : Parameters). IsNextRegion q (words_read v.sight.front) (draft_words v)) (sym same) good in
    subst (λ (q : Parameters). Allows {S = Unit {0}} (holds q) slots seat me n (λ x. either (x == 0) draft x) (exchanged (step slots n 0 draft none) me)) same
    (subst (λ (m : Here). Allows {S = Unit {0}} (holds v.sight.parameters) slots seat m n (λ x. either (x == 0) draft x) (exchanged (step slots n 0 draft none) m)) (sym is)
    (subst (λ (d : ℕ). Allows {S = Unit {0}} (holds v.sight.parameters) slots seat (Caller v, []) n (λ x. either (x == 0) d x) (exchanged (step slots n 0 d none) (Caller v, []))) (sym own)
    (exchanges slots seat n v next lt' whole named read good')))

pub exchanged_parameters : (v w : CallerView) (found : ℕ) → (found ≡ 0 → w ≡ after_win v) → (found ≢ 0 → w ≡ after_found v found) → w.sight.parameters ≡ v.sight.parameters
exchanged_parameters v w found empty some = dite (ℕ_discrete found 0)
    (λ z. ap (λ (u : CallerView). u.sight.parameters) (empty z)) (λ nz. ap (λ (u : CallerView). u.sight.parameters) (some nz))

pub note_at : (t : TableValue) (seat : SeatValue Sight) (id own : TableId) (key : Parameters) (v : Sight)
    → record { table = id; parameters = key } ≡ t → record { table = own; view = v } ≡ seat → IsNoteAt t seat → (own ≡ id) × (v.parameters ≡ key)
note_at t seat id own key v e d at = (
  ap (λ (z : SeatValue Sight). z.table) d ∙ (at.table ∙ sym (ap (λ (z : TableValue). z.table) e)),
  ap (λ (z : SeatValue Sight). z.view.parameters) d ∙ (at.parameters ∙ sym (ap (λ (z : TableValue). z.parameters) e)),
)

pub note_allowed : (key : Parameters) (seat : ℕ) (me : Here) → me ≡ (Caller (as_caller me.0), []) → (as_caller me.0).sight.parameters ≡ key
    → Splits {S = Unit {0}} (holds key) seat me.0 (note_left me.0) (note_right me.0)
note_allowed key seat me is same =
    let v : CallerView = as_caller me.0 in
    subst (λ (q : Parameters). Splits {S = Unit {0}} (holds q) seat me.0 (note_left me.0) (note_right me.0)) same
    (subst (λ (u : View). Splits {S = Unit {0}} (holds v.sight.parameters) seat u (note_left u) (note_right u)) (sym (ap (λ (m : Here). m.0) is)) (notes seat v))

pub join_note_allowed : (key : Parameters) (seat other : ℕ) (me you : Here) → me ≡ (Caller (as_caller me.0), []) → you ≡ (Note (as_sight you.0), [])
    → (as_caller me.0).sight.parameters ≡ key → Joins {S = Unit {0}} (holds key) seat me.0 other you.0 (join_note_both me.0 you.0) Spent
join_note_allowed key seat other me you is it same =
    let v : CallerView = as_caller me.0 in
    let note : Sight = as_sight you.0 in
    subst (λ (q : Parameters). Joins {S = Unit {0}} (holds q) seat me.0 other you.0 (join_note_both me.0 you.0) Spent) same
    (subst (λ (u : View). Joins {S = Unit {0}} (holds v.sight.parameters) seat u other you.0 (join_note_both u you.0) Spent) (sym (ap (λ (m : Here). m.0) is))
    (subst (λ (u : View). Joins {S = Unit {0}} (holds v.sight.parameters) seat (Caller v) other u (join_note_both (Caller v) u) Spent) (sym (ap (λ (m : Here). m.0) it))
    (joins_note seat v other note)))

pub join_caller_allowed : (key : Parameters) (seat other : ℕ) (me you : Here) → me ≡ (Founder (as_founder me.0), []) → you ≡ (Caller (as_caller you.0), [])
    → (as_founder me.0).sight.parameters ≡ key → Joins {S = Unit {0}} (holds key) seat me.0 other you.0 (join_caller_both me.0 you.0) Spent
join_caller_allowed key seat other me you is it same =
    let f : FounderView = as_founder me.0 in
    let v : CallerView = as_caller you.0 in
    subst (λ (q : Parameters). Joins {S = Unit {0}} (holds q) seat me.0 other you.0 (join_caller_both me.0 you.0) Spent) same
    (subst (λ (u : View). Joins {S = Unit {0}} (holds f.sight.parameters) seat u other you.0 (join_caller_both u you.0) Spent) (sym (ap (λ (m : Here). m.0) is))
    (subst (λ (u : View). Joins {S = Unit {0}} (holds f.sight.parameters) seat (Founder f) other u (join_caller_both (Founder f) u) Spent) (sym (ap (λ (m : Here). m.0) it))
    (joins_caller seat f other v)))

-- what a seat is after a join, whatever the words are
pub note_joined : (me you new : Here) → me ≡ (Caller (as_caller me.0), []) → (as_sight you.0).parameters ≡ (as_caller me.0).sight.parameters
    → IsCaller (as_caller me.0) → IsSight (as_sight you.0) → new ≡ (join_note_both me.0 you.0, me.1)
    → (new ≡ (Caller (as_caller new.0), [])) × IsCaller (as_caller new.0) × (as_caller new.0 ≡ after_join_note (as_caller me.0) (as_sight you.0))
note_joined me you new is same shaped sight e =
    let after : CallerView = after_join_note (as_caller me.0) (as_sight you.0) in
    let there : new ≡ (Caller after, []) = e ∙ ap (λ (m : Here). (join_note_both m.0 you.0, m.1)) is in
    let view : as_caller new.0 ≡ after = ap (λ (m : Here). as_caller m.0) there in
    let fits : IsCaller after = record { sight = joined_shaped (as_caller me.0).sight (as_sight you.0) same shaped.sight sight; draft = shaped.draft; written = shaped.written } in
    (there ∙ ap (λ (v : CallerView). (Caller v, [])) (sym view), subst IsCaller (sym view) fits, view)

pub caller_joined : (me you new : Here) → me ≡ (Founder (as_founder me.0), []) → (as_caller you.0).sight.parameters ≡ (as_founder me.0).sight.parameters
    → IsSight (as_founder me.0).sight → IsSight (as_caller you.0).sight → new ≡ (join_caller_both me.0 you.0, me.1)
    → (new ≡ (Founder (as_founder new.0), [])) × IsSight (as_founder new.0).sight × (as_founder new.0 ≡ after_join_caller (as_founder me.0) (as_caller you.0))
caller_joined me you new is same shaped sight e =
    let after : FounderView = after_join_caller (as_founder me.0) (as_caller you.0) in
    let there : new ≡ (Founder after, []) = e ∙ ap (λ (m : Here). (join_caller_both m.0 you.0, m.1)) is in
    let view : as_founder new.0 ≡ after = ap (λ (m : Here). as_founder m.0) there in (
      there ∙ ap (λ (f : FounderView). (Founder f, [])) (sym view),
      subst (λ (f : FounderView). IsSight f.sight) (sym view) (joined_shaped (as_founder me.0).sight (as_caller you.0).sight same shaped sight),
      view,
    )
