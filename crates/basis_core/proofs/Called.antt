-- Each record of a given caller is that caller's call of the record's number.
use Rattle.std.proofs.Common.{◌≡◌, ℕ, zero, suc, ◌+◌, ◌<◌, Bool, true, false, cond, List, [], ◌∷◌, ◌++◌, length, map, get_or, Option, Some, None, refl, ap, ◌∙◌, subst, arith}
use Rattle.std.specs.List.{AllByRecursion}
use Rattle.std.specs.Option.{option_to_list}
use Rattle.std.proofs.Math.Seq.{get_or-append_seam}
use Rattle.std.proofs.lemmas.Bool.{eq-eqb}
use Rattle.std.proofs.lemmas.List.{append_assoc, length-append, length_push}
use Rattle.linear_spec.specs.declared.equations.Equations.{Equations}
use Rattle.linear_spec.specs.declared.packet.Packet.{Packet}
use Rattle.linear_spec.specs.declared.record.Record.{Record}
use Rattle.basis_core.specs.Calls.{KeptCall, point_of, recorded_by}
use Rattle.basis_core.specs.Merge.{Given}
use Rattle.basis_core.specs.Legal.{IsLegalHistory, IsCalledAt, is_of}
use Rattle.basis_core.proofs.Local.{local_from_legal}
use Rattle.basis_core.proofs.Runs.{own_places, made_places}

-- a record is the call of its number
abbrev IsCalled : List KeptCall → ℕ × Record → Type 0
IsCalled calls x = IsCalledAt calls x.1.call x.0 x.1.packet

-- what calls claim, they called
claimed : (number : ℕ) (front calls : List KeptCall)
    → AllByRecursion (IsCalled (front ++ calls)) (made_places number calls (length front))
claimed number front [] = tt
claimed number front (c ∷ cs) =
    let next : length (front ++ c ∷ []) ≡ length front + 1 = length_push front c ∙ (omega arith) in
    let later = subst (λ l. AllByRecursion (IsCalled l) (made_places number cs (length (front ++ c ∷ []))))
    (append_assoc front (c ∷ []) cs) (claimed number (front ++ c ∷ []) cs) in
    go (recorded_by c) refl (subst (λ n. AllByRecursion (IsCalled (front ++ c ∷ cs)) (made_places number cs n)) next later)
  where
    here : (packet : Packet) → recorded_by c ≡ Some packet → IsCalledAt (front ++ c ∷ cs) (length front) (point_of c) packet
    here packet own =
        let long = length-append front (c ∷ cs) in
        record {
          within = omega arith;
          recorded = λ d. ap recorded_by (get_or-append_seam front c cs d) ∙ own;
          point = λ d. ap point_of (get_or-append_seam front c cs d);
        }

    go : (o : Option Packet) → recorded_by c ≡ o
        → AllByRecursion (IsCalled (front ++ c ∷ cs)) (made_places number cs (length front + 1))
        → AllByRecursion (IsCalled (front ++ c ∷ cs))
        (map (λ packet. let x : ℕ × Record = (point_of c, record { caller = number; call = length front; packet = packet }) in x) (option_to_list o)
        ++ made_places number cs (length front + 1))
    go None e rest = rest
    go (Some packet) e rest = (here packet e, rest)

-- what holds of the later places
later_places : (P : ℕ × Record → Type 0) (x : ℕ × Record) (places : List (ℕ × Record)) (b : Bool)
    → AllByRecursion P (cond b (x ∷ places) places) → AllByRecursion P places
later_places P x places true all = all.1
later_places P x places false all = all

-- what holds at a caller's places holds of its records
at_place : (P : ℕ × Record → Type 0) (number : ℕ) (records : List Record) (at i : ℕ) (d : Record)
    → AllByRecursion P (own_places number records at) → i < length records → (get_or records i d).caller ≡ number
    → P (at + i, get_or records i d)
at_place P number [] at i d all below is = absurd (let none : ⊥ = omega arith in none)
at_place P number (r ∷ records) at zero d all below is =
    let same : at ≡ at + 0 = omega arith in
    let own = subst (λ b. AllByRecursion P (cond b ((at, r) ∷ own_places number records (at + 1)) (own_places number records (at + 1))))
    (eq-eqb r.caller number is) all in
    subst (λ n. P (n, r)) same own.0
at_place P number (r ∷ records) at (suc i) d all below is =
    let same : at + 1 + i ≡ at + suc i = omega arith in
    let rest = later_places P (at, r) (own_places number records (at + 1)) (is_of number r) all in
    subst (λ n. P (n, get_or records i d)) same (at_place P number records (at + 1) i d rest (omega arith) is)

pub called : (equations : Equations) (given : Given) (records : List Record) (number : ℕ) (calls : List KeptCall)
    → IsLegalHistory equations given records → given number ≡ Some calls → (at : ℕ) (d : Record) → at < length records
    → (get_or records at d).caller ≡ number → IsCalledAt calls (get_or records at d).call at (get_or records at d).packet
called equations given records number calls legal some at d below is =
    let fits = (local_from_legal equations given records legal).fits number calls some in
    let places = subst (λ (l : List (ℕ × Record)). AllByRecursion (IsCalled calls) l) fits.places (claimed number [] calls) in
    let same : 0 + at ≡ at = omega arith in
    subst (λ n. IsCalled calls (n, get_or records at d)) same (at_place (IsCalled calls) number records 0 at d places below is)
