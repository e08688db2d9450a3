-- What a given caller's call recorded is the record at the call's point.
use Rattle.std.proofs.Common.{◌≡◌, ℕ, ◌+◌, Bool, true, false, cond, List, [], ◌∷◌, ◌++◌, length, map, Option, Some, None, refl, sym, ap, ◌∙◌, subst, arith}
use Rattle.std.specs.List.{All, AllByRecursion}
use Rattle.std.specs.Option.{option_to_list}
use Rattle.std.proofs.Math.Seq.{get_or-append_seam}
use Rattle.std.proofs.lemmas.Bool.{eqb-true}
use Rattle.std.proofs.lemmas.List.{append_assoc, length-append, length_push}
use Rattle.std.proofs.lemmas.List.Elements.{All-from_recursion}
use Rattle.linear_spec.specs.declared.equations.Equations.{Equations}
use Rattle.linear_spec.specs.declared.packet.Packet.{Packet}
use Rattle.linear_spec.specs.declared.record.Record.{Record}
use Rattle.basis_core.specs.Calls.{KeptCall, point_of, recorded_by}
use Rattle.basis_core.specs.Merge.{Given}
use Rattle.basis_core.specs.Legal.{IsLegalHistory, IsRecordAt, HasItsRecord, is_of}
use Rattle.basis_core.proofs.Local.{local_from_legal}
use Rattle.basis_core.proofs.Runs.{own_places, made_places}

-- a record stands at its place
abbrev IsPlaced : List Record → ℕ → ℕ × Record → Type 0
IsPlaced records number x = IsRecordAt records x.0 number x.1.packet

-- the records of a caller stand at their places
placed : (number : ℕ) (front records : List Record)
    → AllByRecursion (IsPlaced (front ++ records) number) (own_places number records (length front))
placed number front [] = tt
placed number front (r ∷ records) =
    let next : length (front ++ r ∷ []) ≡ length front + 1 = length_push front r ∙ (omega arith) in
    let later = subst (λ l. AllByRecursion (IsPlaced l number) (own_places number records (length (front ++ r ∷ []))))
    (append_assoc front (r ∷ []) records) (placed number (front ++ r ∷ []) records) in
    go (is_of number r) refl (subst (λ n. AllByRecursion (IsPlaced (front ++ r ∷ records) number) (own_places number records n)) next later)
  where
    here : is_of number r ≡ true → IsRecordAt (front ++ r ∷ records) (length front) number r.packet
    here own =
        let long = length-append front (r ∷ records) in
        record {
          within = omega arith;
          caller_is = λ d. ap (λ (x : Record). x.caller) (get_or-append_seam front r records d) ∙ eqb-true r.caller number own;
          packet_is = λ d. ap (λ (x : Record). x.packet) (get_or-append_seam front r records d);
        }

    go : (b : Bool) → is_of number r ≡ b
        → AllByRecursion (IsPlaced (front ++ r ∷ records) number) (own_places number records (length front + 1))
        → AllByRecursion (IsPlaced (front ++ r ∷ records) number)
        (cond b ((length front, r) ∷ own_places number records (length front + 1)) (own_places number records (length front + 1)))
    go true own rest = (here own, rest)
    go false own rest = rest

-- what recorded nothing recorded no packet
none_is_none : (packet : Packet) → None ≡ Some packet → ⊥
none_is_none packet e = cc

-- and what recorded a packet recorded no other
same_packet : (packet other : Packet) → Some packet ≡ Some other → packet ≡ other
same_packet packet other e = cc

-- where what calls claim stands at its places, each call has its record
have_records : (records : List Record) (number : ℕ) (calls : List KeptCall) (i : ℕ)
    → AllByRecursion (IsPlaced records number) (made_places number calls i) → AllByRecursion (HasItsRecord records number) calls
have_records records number [] i all = tt
have_records records number (c ∷ cs) i all = go (have_records records number cs (i + 1)) (recorded_by c) refl all
  where
    go : (AllByRecursion (IsPlaced records number) (made_places number cs (i + 1)) → AllByRecursion (HasItsRecord records number) cs)
        → (o : Option Packet) → recorded_by c ≡ o
        → AllByRecursion (IsPlaced records number)
        (map (λ packet. let x : ℕ × Record = (point_of c, record { caller = number; call = i; packet = packet }) in x) (option_to_list o)
        ++ made_places number cs (i + 1))
        → AllByRecursion (HasItsRecord records number) (c ∷ cs)
    go rest None e all = (λ packet is. absurd (none_is_none packet (sym e ∙ is)), rest all)
    go rest (Some packet) e all =
        (λ other is. subst (IsRecordAt records (point_of c) number) (same_packet packet other (sym e ∙ is)) all.0, rest all.1)

-- so it is for the given callers of a legal history
pub has_records : (equations : Equations) (given : Given) (records : List Record) (number : ℕ) (calls : List KeptCall)
    → IsLegalHistory equations given records → given number ≡ Some calls → All (HasItsRecord records number) calls
has_records equations given records number calls legal some =
    let fits = (local_from_legal equations given records legal).fits number calls some in
    All-from_recursion (HasItsRecord records number) calls
    (have_records records number calls 0
    (subst (λ (l : List (ℕ × Record)). AllByRecursion (IsPlaced records number) l) (sym fits.places) (placed number [] records)))
