-- Each record of a given caller has the packet of one of its calls.
use Rattle.std.proofs.Common.{◌≡◌, inl, inr, ℕ, ◌+◌, Bool, true, false, cond, List, [], ◌∷◌, map, Option, Some, None, refl, subst}
use Rattle.std.specs.List.{All, AllByRecursion}
use Rattle.std.specs.Option.{option_to_list}
use Rattle.std.proofs.lemmas.Bool.{eq-eqb}
use Rattle.std.proofs.lemmas.List.Elements.{All-from_recursion}
use Rattle.linear_spec.specs.declared.equations.Equations.{Equations}
use Rattle.linear_spec.specs.declared.packet.Packet.{Packet}
use Rattle.linear_spec.specs.declared.record.Record.{Record}
use Rattle.basis_core.specs.Calls.{KeptCall, point_of, recorded_by}
use Rattle.basis_core.specs.Merge.{Given}
use Rattle.basis_core.specs.Legal.{IsLegalHistory, IsRecordedIn, is_of}
use Rattle.basis_core.proofs.Lists.{each-weaker, each-append}
use Rattle.basis_core.proofs.Local.{local_from_legal}
use Rattle.basis_core.proofs.Runs.{own_places, made_places}

-- the records that calls claim have their packets
claimed : (number : ℕ) (calls : List KeptCall) (i : ℕ) → AllByRecursion (λ x. IsRecordedIn calls x.1.packet) (made_places number calls i)
claimed number [] i = tt
claimed number (c ∷ cs) i =
    each-append (λ x. IsRecordedIn (c ∷ cs) x.1.packet) (own (recorded_by c)) (made_places number cs (i + 1)) (here (recorded_by c) refl)
    (each-weaker (λ x. IsRecordedIn cs x.1.packet) (λ x. IsRecordedIn (c ∷ cs) x.1.packet) (λ x is. inr is) (made_places number cs (i + 1)) (claimed number cs (i + 1)))
  where
    own : Option Packet → List (ℕ × Record)
    own o = map (λ packet. (point_of c, record { caller = number; call = i; packet = packet })) (option_to_list o)

    here : (o : Option Packet) → recorded_by c ≡ o → AllByRecursion (λ x. IsRecordedIn (c ∷ cs) x.1.packet) (own o)
    here None e = tt
    here (Some packet) e = (inl e, tt)

not_both : (b : Bool) → b ≡ true → b ≡ false → ⊥
not_both b is not = cc

-- what holds at a caller's places holds of its records
at_records : (P : Packet → Type 0) (number : ℕ) (records : List Record) (at : ℕ) → AllByRecursion (λ x. P x.1.packet) (own_places number records at) → AllByRecursion (λ r. r.caller ≡ number → P r.packet) records
at_records P number [] at all = tt
at_records P number (r ∷ records) at all = go (at_records P number records (at + 1)) (is_of number r) refl all
  where
    go : (AllByRecursion (λ x. P x.1.packet) (own_places number records (at + 1)) → AllByRecursion (λ s. s.caller ≡ number → P s.packet) records) → (b : Bool) → is_of number r ≡ b → AllByRecursion (λ x. P x.1.packet) (cond b ((at, r) ∷ own_places number records (at + 1)) (own_places number records (at + 1))) → AllByRecursion (λ s. s.caller ≡ number → P s.packet) (r ∷ records)
    go rest true e all = (λ is. all.0, rest all.1)
    go rest false e all = (λ is. absurd (not_both (is_of number r) (eq-eqb r.caller number is) e), rest all)

pub recorded_in : (equations : Equations) (given : Given) (records : List Record) (number : ℕ) (calls : List KeptCall) → IsLegalHistory equations given records → given number ≡ Some calls → All (λ r. r.caller ≡ number → IsRecordedIn calls r.packet) records
recorded_in equations given records number calls legal some =
    let fits = (local_from_legal equations given records legal).fits number calls some in
    All-from_recursion (λ r. r.caller ≡ number → IsRecordedIn calls r.packet) records
    (at_records (IsRecordedIn calls) number records 0 (subst (λ (l : List (ℕ × Record)). AllByRecursion (λ x. IsRecordedIn calls x.1.packet) l) fits.places (claimed number calls 0)))
