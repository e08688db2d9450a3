-- What a legal history says of each caller by itself: its calls fit the records. And the records are such that one basis
-- could have them.
use Rattle.std.proofs.Common.{◌≡◌, ℕ, suc, ◌+◌, ◌<◌, eqb, Bool, true, false, cond, List, [], ◌∷◌, map, Option, Some, None, refl, sym, ap, ◌∙◌, subst, arith}
use Rattle.std.specs.List.{filter, flat_map, range_with_len, AllByRecursion}
use Rattle.std.specs.Option.{option_to_list}
use Rattle.std.proofs.lemmas.List.{map-append}
use Rattle.linear_spec.specs.declared.equations.Equations.{Equations}
use Rattle.linear_spec.specs.declared.packet.Packet.{Packet}
use Rattle.linear_spec.specs.declared.record.Record.{Record}
use Rattle.linear_spec.specs.SequentialBasis.{packets_of}
use Rattle.basis_core.specs.Calls.{KeptCall, recorded_by, AreInOrder}
use Rattle.basis_core.specs.Run.{CallBy, is_by, AreInnovative, records_after}
use Rattle.basis_core.specs.Merge.{Given, caller_numbers, made_by, calls_or, calls_by, own_offers, all_calls, at_point, stands_at, highest_point, merge_of}
use Rattle.basis_core.specs.Legal.{IsLegalHistory, callers_of, is_of}
use Rattle.basis_core.proofs.Lists.{each, each-append, each-filter, each-map, each-from_map, each-flat_map, each-range}
use Rattle.basis_core.proofs.Merging.{own_of_merge}
use Rattle.basis_core.proofs.Runs.{IsRight, claim_of, claims_of, packets_made, bare, bare_made, own_places, made_places, run_right, run_innovative, places_of_run, packets_after, records_claimed, callers_as_claims}

-- one caller's calls fit the records: they are in order, each was answered as at the front of its point, and those that
-- recorded are the offers of the caller's records, with the numbers of the calls
pub record IsFitting (equations : Equations) (records : List Record) (number : ℕ) (calls : List KeptCall) : Type 0 where
  pub number_below : number < caller_numbers
  pub in_order : AreInOrder calls
  pub right : AllByRecursion (IsRight equations (packets_of records)) calls
  pub places : made_places number calls 0 ≡ own_places number records 0

-- the records by themselves
pub record AreSound (equations : Equations) (records : List Record) : Type 0 where
  pub innovative : AreInnovative equations (packets_of records)
  pub callers : AllByRecursion (λ r. r.caller < caller_numbers) records

pub record IsLocal (equations : Equations) (given : Given) (records : List Record) : Type 0 where
  pub sound : AreSound equations records
  pub fits : (number : ℕ) (calls : List KeptCall) → given number ≡ Some calls → IsFitting equations records number calls

nil_not_cons : {X : Type 0} (x : X) (xs : List X) → [] ≡ x ∷ xs → ⊥
nil_not_cons x xs e = cc

-- the places of a caller's records depend on the list of callers and on those records
pub same_places : (number : ℕ) (records others : List Record) (at : ℕ) → callers_of records ≡ callers_of others
    → filter (is_of number) records ≡ filter (is_of number) others → own_places number records at ≡ own_places number others at
same_places number [] [] at callers own = refl
same_places number [] (o ∷ others) at callers own = absurd (nil_not_cons o.caller (callers_of others) callers)
same_places number (r ∷ records) [] at callers own = absurd (nil_not_cons r.caller (callers_of records) (sym callers))
same_places number (r ∷ records) (o ∷ others) at callers own =
    go (is_of number r) (is_of number o) refl refl (same_places number records others (at + 1) tails)
  where
    heads : r.caller ≡ o.caller
    heads = cc

    tails : callers_of records ≡ callers_of others
    tails = cc

    go : (b d : Bool) → is_of number r ≡ b → is_of number o ≡ d
        → (filter (is_of number) records ≡ filter (is_of number) others → own_places number records (at + 1) ≡ own_places number others (at + 1))
        → own_places number (r ∷ records) at ≡ own_places number (o ∷ others) at
    go true true e f ih =
        let both : r ∷ filter (is_of number) records ≡ o ∷ filter (is_of number) others = rw (e, f) at own in
        let same : r ≡ o = cc in
        let rest : filter (is_of number) records ≡ filter (is_of number) others = cc in
        simp (e, f) (ap (λ l. (at, r) ∷ l) (ih rest) ∙ ap (λ x. (at, x) ∷ own_places number others (at + 1)) same)
    go true false e f ih = let b : eqb r.caller number ≡ eqb o.caller number = ap (λ c. eqb c number) heads in let x : ◌≡◌ {A = Bool} true false = cc in absurd (let y : ⊥ = cc in y)
    go false true e f ih = let b : eqb r.caller number ≡ eqb o.caller number = ap (λ c. eqb c number) heads in let x : ◌≡◌ {A = Bool} true false = cc in absurd (let y : ⊥ = cc in y)
    go false false e f ih =
        let rest : filter (is_of number) records ≡ filter (is_of number) others = rw (e, f) at own in
        simp (e, f) (ih rest)

pub places_filter : (number : ℕ) (records : List Record) (at : ℕ) → map (λ x. x.1) (own_places number records at) ≡ filter (is_of number) records
places_filter number [] at = refl
places_filter number (r ∷ records) at =
    elim (is_of number r) as
    (λ b. map (λ x. x.1) (cond b ((at, r) ∷ own_places number records (at + 1)) (own_places number records (at + 1)))
    ≡ cond b (r ∷ filter (is_of number) records) (filter (is_of number) records)) [
      | true ↦ ap (λ l. r ∷ l) (places_filter number records (at + 1))
      | false ↦ places_filter number records (at + 1)
    ]

pub each_of_point : (P : CallBy → Type 0) (calls : List CallBy) → AllByRecursion P calls → (point : ℕ) → AllByRecursion P (at_point calls point)
each_of_point P calls all point =
    each-append P (filter (λ m. stands_at point 0 m.call) calls) (filter (λ m. stands_at point 1 m.call) calls)
    (each-filter P (λ m. stands_at point 0 m.call) calls all) (each-filter P (λ m. stands_at point 1 m.call) calls all)

each_of_merge : (P : CallBy → Type 0) (calls : List CallBy) → AllByRecursion P calls → AllByRecursion P (merge_of calls)
each_of_merge P calls all =
    each-flat_map P (at_point calls) (range_with_len 0 (suc (highest_point calls)))
    (each (λ p. AllByRecursion P (at_point calls p)) (each_of_point P calls all) (range_with_len 0 (suc (highest_point calls))))

claim_below : (bound number : ℕ) (o : Option Packet) → number < bound
    → AllByRecursion (λ x. x < bound) (map (λ c. c.0) (map (λ packet. let c : ℕ × Packet = (number, packet) in c) (option_to_list o)))
claim_below bound number None below = tt
claim_below bound number (Some packet) below = (below, tt)

claims_below : (bound : ℕ) (calls : List CallBy) → AllByRecursion (λ m. m.caller < bound) calls
    → AllByRecursion (λ x. x < bound) (map (λ c. c.0) (claims_of calls))
claims_below bound [] all = tt
claims_below bound (made ∷ rest) all =
    subst (AllByRecursion (λ x. x < bound)) (sym (map-append (λ c. c.0) (claim_of made) (claims_of rest)))
    (each-append (λ x. x < bound) (map (λ c. c.0) (claim_of made)) (map (λ c. c.0) (claims_of rest))
    (claim_below bound made.caller (recorded_by made.call) all.0) (claims_below bound rest all.1))

pub callers_below : (h : ℕ → List KeptCall) (numbers : ℕ)
    → AllByRecursion (λ m. m.caller < numbers) (flat_map (λ number. map (made_by number) (h number)) (range_with_len 0 numbers))
callers_below h numbers =
    each-flat_map (λ m. m.caller < numbers) (λ number. map (made_by number) (h number)) (range_with_len 0 numbers)
    (each-range (λ number. AllByRecursion (λ m. m.caller < numbers) (map (made_by number) (h number))) 0 numbers
    (λ number l b. each-map (λ m. m.caller < numbers) (made_by number) (h number) (each (λ c. number < numbers) (λ c. omega arith) (h number))))

pub calls_given : (given : Given) (records : List Record) (number : ℕ) (calls : List KeptCall) → given number ≡ Some calls → calls_by given records number ≡ calls
calls_given given records number calls e = ap (λ o. calls_or o (own_offers number records 0)) e

-- from a legal history to its callers
module _ (equations : Equations) (given : Given) (records : List Record) (legal : IsLegalHistory equations given records) where
  abbrev merged : List CallBy
  merged = merge_of (all_calls given records)

  packets_are : packets_made merged ≡ packets_of records
  packets_are = sym (packets_after merged) ∙ legal.packets

  own_calls : (number : ℕ) (calls : List KeptCall) → given number ≡ Some calls → filter (is_by number) merged ≡ map (made_by number) calls
  own_calls number calls e =
      let h = calls_given given records number calls e in
      own_of_merge (calls_by given records) caller_numbers number (legal.numbers number calls e) (subst AreInOrder (sym h) (legal.in_order number calls e))
      ∙ ap (map (made_by number)) h

  fitting : (number : ℕ) (calls : List KeptCall) → given number ≡ Some calls → IsFitting equations records number calls
  fitting number calls e =
      let own = own_calls number calls e in
      let run = legal.answered in
      let right = run_right equations merged [] run in
      let by_me = subst (AllByRecursion (λ m. IsRight equations (packets_made merged) m.call)) own
      (each-filter (λ m. IsRight equations (packets_made merged) m.call) (is_by number) merged right) in
      record {
        number_below = legal.numbers number calls e;
        in_order = legal.in_order number calls e;
        right = subst (λ ps. AllByRecursion (IsRight equations ps) calls) packets_are
            (each-from_map (λ m. IsRight equations (packets_made merged) m.call) (made_by number) calls by_me);
        places = sym (ap (λ l. made_places number l 0) (ap bare own ∙ bare_made number calls))
            ∙ sym (places_of_run equations number merged [] [] run)
            ∙ same_places number (records_after merged []) records 0 legal.callers (legal.given_calls number calls e);
      }

  pub local_from_legal : IsLocal equations given records
  local_from_legal =
      let below = claims_below caller_numbers merged (each_of_merge (λ m. m.caller < caller_numbers) (all_calls given records)
      (callers_below (calls_by given records) caller_numbers)) in
      let callers : map (λ c. c.0) (claims_of merged) ≡ callers_of records =
      ap (map (λ c. c.0)) (sym (records_claimed merged [])) ∙ sym (callers_as_claims (records_after merged [])) ∙ legal.callers in
      record {
        sound = record {
          innovative = subst (AreInnovative equations) packets_are (run_innovative equations merged [] legal.answered);
          callers = each-from_map (λ x. x < caller_numbers) (λ r. r.caller) records (subst (AllByRecursion (λ x. x < caller_numbers)) callers below);
        };
        fits = fitting;
      }
