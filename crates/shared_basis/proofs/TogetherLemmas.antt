-- The calls of a caller over records that came behind those that it has seen, which are others' as its own list tells; and callers whose
-- calls are legal one by one over the same records, which are legal together.
use Rattle.std.proofs.Common.{◌≡◌, ◌≢◌, ⊎_elim, ℕ, ◌<◌, ◌≤◌, ◌^◌, List, [], ◌∷◌, ◌++◌, length, map, get_or, sym, refl, ap, subst, arith, eq-eqb, ne_eqb}
use Rattle.std.specs.Prelude.{Option, Some, None, Bool, cond}
use Rattle.std.specs.List.{All}
use Rattle.std.proofs.lemmas.List.{map-append}
use Rattle.std.proofs.lemmas.List.Elements.{All-head, All-map, All-tail}
use Rattle.std.proofs.lemmas.Bool.Decides.{eqb_tells}
use mathlib.Core.Logic.{dite}
use native.Mathlib.Decide.{dec_le}
use Rattle.linear_spec.specs.declared.equations.Equations.{Equations}
use Rattle.linear_spec.specs.declared.record.Record.{Record}
use Rattle.linear_spec.specs.SequentialBasis.{packets_of}
use Rattle.basis_core.specs.Calls.{KeptCall}
use Rattle.basis_core.specs.Legal.{IsLegalHistory}
use Rattle.basis_core.specs.Merge.{CallsOf, Given, given_by, only}
use Rattle.basis_core.specs.Run.{AreInnovative}
use Rattle.table_rows.specs.declared.view.Parameters.{Parameters}
use Rattle.table_rows.specs.Good.{IsGood, offers_of}
use Rattle.table_rows.specs.Layout.{caller_in}
use Rattle.table_rows.specs.RegionLaws.{RecordLaws}
use Rattle.shared_basis.specs.Regions.{record_at}
use Rattle.shared_basis.proofs.HistoryLemmas.{others_found}
use Rattle.shared_basis.proofs.PassLemmas.{seen_innovative}

-- what the laws of histories say
pub record HistoryLaws : Type 0 where
  pub together : (equations : Equations) (given : Given) (records : List Record) (number : ℕ) (calls : List KeptCall) → given number ≡ Some calls
      → ((other : ℕ) (its : List KeptCall) → given other ≡ Some its → IsLegalHistory equations (only other its) records)
      → IsLegalHistory equations given records
  pub other_records : (equations : Equations) (given : Given) (records more : List Record)
      → IsLegalHistory equations given records → AreInnovative equations (packets_of (records ++ more))
      → All (λ entry. (given entry.caller ≡ None) × (entry.caller < 2 ^ 32)) more → IsLegalHistory equations given (records ++ more)

none_is_not_some : (calls : List KeptCall) → ◌≢◌ {A = Option (List KeptCall)} None (Some calls)
none_is_not_some calls e = cc

some_calls : (calls others : List KeptCall) → Some calls ≡ Some others → calls ≡ others
some_calls calls others e = cc

-- where higher numbers have no offers, all regions are of lower ones
pub callers_below : (n : ℕ) (regions : List (List ℕ)) → ((m : ℕ) → n ≤ m → offers_of m regions ≡ []) → All (λ region. caller_in region < n) regions
callers_below n regions none = λ k d h. dite (dec_le n (caller_in (get_or regions k d)))
    (λ le. absurd (others_found (caller_in (get_or regions k d)) [] regions (none (caller_in (get_or regions k d)) le) k d h refl))
    (λ not-le. omega arith)

-- what a caller has seen is good with all that came later, and its calls are legal over all
pub legal_over : RecordLaws → HistoryLaws → (p : Parameters) (seen later : List (List ℕ)) (number : ℕ) (calls : List KeptCall)
    → p.k ≡ p.equations.value.k → IsGood p (seen ++ later) → All (λ region. caller_in region < 2 ^ 32) later
    → offers_of number (seen ++ later) ≡ offers_of number seen
    → IsLegalHistory p.equations.value (only number calls) (map (record_at p) seen)
    → IsLegalHistory p.equations.value (only number calls) (map (record_at p) (seen ++ later))
legal_over laws histories p seen later number calls same good narrow own legal =
    let split : map (record_at p) (seen ++ later) ≡ map (record_at p) seen ++ map (record_at p) later = map-append (record_at p) seen later in
    let others : All (λ region. caller_in region ≢ number) later = others_found number seen later own in
    subst (λ (l : List Record). IsLegalHistory p.equations.value (only number calls) l) (sym split)
    (histories.other_records p.equations.value (only number calls) (map (record_at p) seen) (map (record_at p) later) legal
    (subst (λ (l : List Record). AreInnovative p.equations.value (packets_of l)) split (seen_innovative laws p (seen ++ later) good same))
    (All-map (λ entry. (only number calls entry.caller ≡ None) × (entry.caller < 2 ^ 32)) (record_at p) later
    (λ k d h. (
      ap (λ (b : Bool). cond b (Some calls) None) (ne_eqb number (caller_in (get_or later k d)) (λ e. others k d h (sym e))),
      narrow k d h,
    ))))

-- a caller that is given has a legal history, where each of the callers has
found_legal : (equations : Equations) (records : List Record) (callers : List CallsOf)
    → All (λ caller. IsLegalHistory equations (only caller.number caller.calls) records) callers
    → (other : ℕ) (its : List KeptCall) → given_by callers other ≡ Some its → IsLegalHistory equations (only other its) records
found_legal equations records [] legal other its found = absurd (none_is_not_some its found)
found_legal equations records (caller ∷ callers) legal other its found =
    let P : CallsOf → Type 0 = λ (q : CallsOf). IsLegalHistory equations (only q.number q.calls) records in
    let here : P caller = All-head P caller callers legal in
    ⊎_elim
    (λ same. let calls : Some caller.calls ≡ Some its =
    subst (λ (b : Bool). cond b (Some caller.calls) (given_by callers other) ≡ Some its) same.0 found in
    subst (λ (cs : List KeptCall). IsLegalHistory equations (only other cs) records) (some_calls caller.calls its calls)
    (subst (λ (m : ℕ). IsLegalHistory equations (only m caller.calls) records) same.1 here))
    (λ away. found_legal equations records callers (All-tail P caller callers legal) other its
    (subst (λ (b : Bool). cond b (Some caller.calls) (given_by callers other) ≡ Some its) away.0 found))
    (eqb_tells caller.number other)

-- callers whose calls are legal one by one over the same records are legal together
pub all_together : HistoryLaws → (equations : Equations) (records : List Record) (callers : List CallsOf) → 1 ≤ length callers
    → All (λ caller. IsLegalHistory equations (only caller.number caller.calls) records) callers
    → IsLegalHistory equations (given_by callers) records
all_together histories equations records [] some legal = absurd (omega arith)
all_together histories equations records (caller ∷ callers) some legal =
    histories.together equations (given_by (caller ∷ callers)) records caller.number caller.calls
    (ap (λ (b : Bool). cond b (Some caller.calls) (given_by callers caller.number)) (eq-eqb caller.number caller.number refl))
    (found_legal equations records (caller ∷ callers) legal)
