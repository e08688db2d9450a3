-- A trace whose calls are a legal history over its records is what the machine gives over its merged events.
use Rattle.std.proofs.Common.{◌≡◌, ◌≢◌, ℕ, eqb, Bool, true, false, List, [], ◌∷◌, map, Option, Some, None, refl, sym, ap, ◌∙◌, subst}
use Rattle.std.specs.List.{filter, All, AllByRecursion}
use Rattle.std.proofs.lemmas.Bool.{eq-eqb}
use Rattle.std.proofs.lemmas.List.Elements.{recursion_from_All}
use Rattle.linear_spec.specs.declared.equations.Equations.{Equations}
use Rattle.linear_spec.specs.declared.record.Record.{Record}
use Rattle.basis_core.specs.declared.trace.CallerTrace.{CallerTrace}
use Rattle.basis_core.specs.declared.trace.CallerOffers.{CallerOffers}
use Rattle.basis_core.specs.Calls.{KeptCall}
use Rattle.basis_core.specs.Run.{AreAnsweredFrom, records_after}
use Rattle.basis_core.specs.Merge.{Given, given_by, all_calls, merge_of}
use Rattle.basis_core.specs.Legal.{IsLegalHistory, callers_of, is_of}
use Rattle.basis_core.specs.Machine.{IsReplay}
use Rattle.basis_core.specs.Entries.{entries_of, merged_entries}
use Rattle.basis_core.specs.Traces.{calls_of, AreRising, HasItsCheck, IsCall}
use Rattle.basis_core.proofs.Lists.{each-weaker, each_both}
use Rattle.basis_core.proofs.Merged.{TellsSame, all_tell, each_merged, trace_merged}
use Rattle.basis_core.proofs.Replays.{tie}

nil_not_cons : {X : Type 0} (x : X) (xs : List X) → [] ≡ x ∷ xs → ⊥
nil_not_cons x xs e = cc

heads_same : {X : Type 0} (x y : X) (xs ys : List X) → x ∷ xs ≡ y ∷ ys → x ≡ y
heads_same x y xs ys e = cc

tails_same : {X : Type 0} (x y : X) (xs ys : List X) → x ∷ xs ≡ y ∷ ys → xs ≡ ys
tails_same x y xs ys e = cc

own_tails : (n : ℕ) (r f : Record) (rs fs : List Record) (b : Bool) → is_of n r ≡ b → is_of n f ≡ b → filter (is_of n) (r ∷ rs) ≡ filter (is_of n) (f ∷ fs)
    → filter (is_of n) rs ≡ filter (is_of n) fs
own_tails n r f rs fs true e g h =
    let both : r ∷ filter (is_of n) rs ≡ f ∷ filter (is_of n) fs = rw (e, g) at h in
    tails_same r f (filter (is_of n) rs) (filter (is_of n) fs) both
own_tails n r f rs fs false e g h = rw (e, g) at h

own_heads : (n : ℕ) (r f : Record) (rs fs : List Record) → is_of n r ≡ true → is_of n f ≡ true → filter (is_of n) (r ∷ rs) ≡ filter (is_of n) (f ∷ fs) → r ≡ f
own_heads n r f rs fs e g h =
    let both : r ∷ filter (is_of n) rs ≡ f ∷ filter (is_of n) fs = rw (e, g) at h in
    heads_same r f (filter (is_of n) rs) (filter (is_of n) fs) both

-- records with the same callers, and of each caller the same records, are the same
same_records : (given : Given) (rs fs : List Record) → callers_of rs ≡ callers_of fs → AllByRecursion (λ f. given f.caller ≢ None) fs
    → ((n : ℕ) → given n ≢ None → filter (is_of n) rs ≡ filter (is_of n) fs) → rs ≡ fs
same_records given [] [] callers known own = refl
same_records given [] (f ∷ fs) callers known own = absurd (nil_not_cons f.caller (callers_of fs) callers)
same_records given (r ∷ rs) [] callers known own = absurd (nil_not_cons r.caller (callers_of rs) (sym callers))
same_records given (r ∷ rs) (f ∷ fs) callers known own =
    let caller : r.caller ≡ f.caller = heads_same r.caller f.caller (callers_of rs) (callers_of fs) callers in
    let rest = same_records given rs fs (tails_same r.caller f.caller (callers_of rs) (callers_of fs) callers) known.1
    (λ n h. own_tails n r f rs fs (is_of n f) (ap (λ c. eqb c n) caller) refl (own n h)) in
    let head : r ≡ f = own_heads f.caller r f rs fs (eq-eqb r.caller f.caller caller) (eq-eqb f.caller f.caller refl) (own f.caller known.0) in
    ap (λ l. r ∷ l) rest ∙ ap (λ x. x ∷ fs) head

own_of_given : (equations : Equations) (given : Given) (records : List Record) → IsLegalHistory equations given records
    → (n : ℕ) (o : Option (List KeptCall)) → given n ≡ o → given n ≢ None
    → filter (is_of n) (records_after (merge_of (all_calls given records)) []) ≡ filter (is_of n) records
own_of_given equations given records legal n None e some = absurd (some e)
own_of_given equations given records legal n (Some calls) e some = legal.given_calls n calls e

pub trace_replays : (equations : Equations) (callers : List CallerTrace) (offers : List CallerOffers) (records : List Record) → AreRising (calls_of callers offers) 0
    → All (λ r. given_by (calls_of callers offers) r.caller ≢ None) records
    → IsLegalHistory equations (given_by (calls_of callers offers)) records
    → All (λ entry. HasItsCheck equations entry.event) (entries_of callers offers)
    → IsReplay equations.k equations.s (map (λ entry. entry.event) (merged_entries (entries_of callers offers)))
    (map (λ entry. entry.answer) (merged_entries (entries_of callers offers))) records
trace_replays equations callers offers records rising known legal checked =
    let given = given_by (calls_of callers offers) in
    let entries = entries_of callers offers in
    let merged = merged_entries entries in
    let same = trace_merged callers offers records rising known in
    let whole : records_after (merge_of (all_calls given records)) [] ≡ records =
    same_records given (records_after (merge_of (all_calls given records)) []) records legal.callers
    (recursion_from_All (λ r. given r.caller ≢ None) records known)
    (λ n some. own_of_given equations given records legal n (given n) refl some) in
    let checks = each_both (λ e. HasItsCheck equations e.event) (λ e. IsCall e.event e.answer) entries
    (recursion_from_All (λ e. HasItsCheck equations e.event) entries checked)
    (each-weaker TellsSame (λ e. IsCall e.event e.answer) (λ e t. t.kind) entries (all_tell callers offers)) in
    subst (IsReplay equations.k equations.s (map (λ e. e.event) merged) (map (λ e. e.answer) merged))
    (ap (λ calls. records_after calls []) (sym same) ∙ whole)
    (tie equations merged [] [] (subst (λ calls. AreAnsweredFrom equations calls []) same legal.answered)
    (each_merged (λ e. HasItsCheck equations e.event × IsCall e.event e.answer) entries checks))
