-- From callers that fit the records, one by one, to a legal history of all of them: the run goes point by point, and record
-- after record.
use Rattle.std.proofs.Common.{◌≡◌, ℕ, suc, ◌+◌, ◌<◌, List, [], ◌∷◌, ◌++◌, map, length, take, Option, Some, None, refl, sym, ap, ◌∙◌, subst, arith}
use Rattle.std.specs.List.{filter, flat_map, range_with_len, AllByRecursion}
use Rattle.std.specs.Option.{option_to_list}
use Rattle.std.proofs.lemmas.Bool.{ne_eqb, eq-eqb}
use Rattle.std.proofs.lemmas.Grind.{flat_map-append}
use Rattle.std.proofs.lemmas.List.{append-nil, append_assoc, map-append, map_push, length_push, length-map}
use Rattle.std.proofs.Math.Seq.{take-append_seam}
use Rattle.linear_spec.specs.declared.equations.Equations.{Equations}
use Rattle.linear_spec.specs.declared.packet.Packet.{Packet}
use Rattle.linear_spec.specs.declared.record.Record.{Record}
use Rattle.linear_spec.specs.SequentialBasis.{packets_of}
use Rattle.basis_core.specs.Calls.{KeptCall, point_of, recorded_by, count_of, AreInOrder, IsAnsweredAt}
use Rattle.basis_core.specs.Run.{CallBy, is_by, AreAnsweredFrom, records_after}
use Rattle.basis_core.specs.Merge.{Given, caller_numbers, made_by, calls_by, calls_or, own_offers, all_calls, at_point, stands_at, highest_point, merge_of}
use Rattle.basis_core.specs.Legal.{IsLegalHistory, is_of}
use Rattle.basis_core.proofs.Lists.{filter-flat_map, filter-map, each, each-weaker, each-filter, each-passing, each-map, each-flat_map, each_both, none_of_range, one_of_range}
use Rattle.basis_core.proofs.Merging.{stands_tells, Covers, highest_covers, one_merge, own_of_merge}
use Rattle.basis_core.proofs.Runs.{IsRight, claims_of, packets_made, as_claim, packets_claimed, records_claimed, packets_as_claims, callers_as_claims, packets_after, bare, bare_made, made_places, places_of_run, answered_append}
use Rattle.basis_core.proofs.Local.{IsLocal, places_filter, calls_given}
use Rattle.basis_core.proofs.Points.{made_points, own_points, points_from_places, points_of_offers, offers_are_right, records_here, records_not_here, records_past}

none_from_count : (o : Option Packet) → count_of o ≡ 0 → o ≡ None
none_from_count None e = refl
none_from_count (Some packet) e = absurd (omega arith)

-- calls that are answered in turn from a front on, up to another front, and what their recording calls claim
pub record Steps (equations : Equations) (calls : List CallBy) (front ahead : List Packet) (claims : List (ℕ × Packet)) : Type 0 where
  pub run : AreAnsweredFrom equations calls front
  pub ends : front ++ packets_made calls ≡ ahead
  pub claimed : claims_of calls ≡ claims

module _ (equations : Equations) where
  no_steps : (front : List Packet) → Steps equations [] front front []
  no_steps front = record { run = tt; ends = append-nil front; claimed = refl }

  then_steps : (xs ys : List CallBy) (front middle ahead : List Packet) (cs ds : List (ℕ × Packet)) → Steps equations xs front middle cs
      → Steps equations ys middle ahead ds → Steps equations (xs ++ ys) front ahead (cs ++ ds)
  then_steps xs ys front middle ahead cs ds one two = record {
    run = answered_append equations xs ys front one.run (subst (AreAnsweredFrom equations ys) (sym one.ends) two.run);
    ends = ap (λ l. front ++ l) (flat_map-append (λ made. option_to_list (recorded_by made.call)) xs ys)
        ∙ sym (append_assoc front (packets_made xs) (packets_made ys)) ∙ ap (λ l. l ++ packets_made ys) one.ends ∙ two.ends;
    claimed = flat_map-append (λ made. map (λ packet. let c : ℕ × Packet = (made.caller, packet) in c) (option_to_list (recorded_by made.call))) xs ys
        ∙ ap (λ l. l ++ claims_of ys) one.claimed ∙ ap (λ l. cs ++ l) two.claimed;
  }

  quiet_steps : (calls : List CallBy) (front : List Packet)
      → AllByRecursion (λ m. IsAnsweredAt equations front m.call × (recorded_by m.call ≡ None)) calls → Steps equations calls front front []
  quiet_steps [] front all = no_steps front
  quiet_steps (made ∷ rest) front all =
      let none : recorded_by made.call ≡ None = all.0.1 in
      let more : option_to_list (recorded_by made.call) ≡ [] = ap (λ o. option_to_list o) none in
      let same : front ++ option_to_list (recorded_by made.call) ≡ front = ap (λ l. front ++ l) more ∙ append-nil front in
      let later = quiet_steps rest front all.1 in
      record {
        run = (all.0.0, subst (AreAnsweredFrom equations rest) (sym same) later.run);
        ends = ap (λ l. front ++ (l ++ packets_made rest)) more ∙ later.ends;
        claimed = ap (λ o. map (λ packet. let c : ℕ × Packet = (made.caller, packet) in c) (option_to_list o) ++ claims_of rest) none ∙ later.claimed;
      }

  one_step : (number : ℕ) (c : KeptCall) (front : List Packet) (packet : Packet) → IsAnsweredAt equations front c → recorded_by c ≡ Some packet
      → Steps equations (made_by number c ∷ []) front (front ++ packet ∷ []) ((number, packet) ∷ [])
  one_step number c front packet answered recorded = record {
    run = (answered, tt);
    ends = ap (λ o. front ++ (option_to_list o ++ [])) recorded;
    claimed = ap (λ o. map (λ packet'. let x : ℕ × Packet = (number, packet') in x) (option_to_list o) ++ []) recorded;
  }

module _ (equations : Equations) (given : Given) (records : List Record) (local : IsLocal equations given records) where
  abbrev packets : List Packet
  packets = packets_of records

  abbrev all : List CallBy
  all = all_calls given records

  -- what is known of each caller's calls, given or not
  record IsOwn (number : ℕ) (calls : List KeptCall) : Type 0 where
    right : AllByRecursion (IsRight equations packets) calls
    points : made_points calls ≡ own_points number records 0

  own_from : (number : ℕ) (o : Option (List KeptCall)) → given number ≡ o → IsOwn number (calls_or o (own_offers number records 0))
  own_from number None e = record {
    right = offers_are_right equations number records [] local.sound.innovative;
    points = points_of_offers number records 0;
  }
  own_from number (Some calls) e =
      let fit = local.fits number calls e in
      record { right = fit.right; points = points_from_places number calls records fit.places }

  own : (number : ℕ) → IsOwn number (calls_by given records number)
  own number = own_from number (given number) refl

  all_right : AllByRecursion (λ m. IsRight equations packets m.call) all
  all_right =
      each-flat_map (λ m. IsRight equations packets m.call) (λ n. map (made_by n) (calls_by given records n)) (range_with_len 0 caller_numbers)
      (each (λ n. AllByRecursion (λ m. IsRight equations packets m.call) (map (made_by n) (calls_by given records n)))
      (λ n. each-map (λ m. IsRight equations packets m.call) (made_by n) (calls_by given records n) (own n).right) (range_with_len 0 caller_numbers))

  covered : Covers (suc (length records)) all
  covered =
      each-weaker (λ m. IsRight equations packets m.call) (λ m. point_of m.call < suc (length records))
      (λ m right. let within = right.within in let long = length-map records (λ r. r.packet) in omega arith) all all_right

  abbrev quiet_at : ℕ → List CallBy
  quiet_at point = filter (λ m. stands_at point 0 m.call) all

  abbrev recording_at : ℕ → List CallBy
  recording_at point = filter (λ m. stands_at point 1 m.call) all

  quiet_there : (point : ℕ) (front : List Packet) → take point packets ≡ front → Steps equations (quiet_at point) front front []
  quiet_there point front same =
      quiet_steps equations (quiet_at point) front
      (each-weaker (λ m. IsRight equations packets m.call × ((point_of m.call ≡ point) × (count_of (recorded_by m.call) ≡ 0)))
      (λ m. IsAnsweredAt equations front m.call × (recorded_by m.call ≡ None))
      (λ m facts. (subst (λ f. IsAnsweredAt equations f m.call) (ap (λ n. take n packets) facts.1.0 ∙ same) facts.0.answered, none_from_count (recorded_by m.call) facts.1.1))
      (quiet_at point)
      (each_both (λ m. IsRight equations packets m.call) (λ m. (point_of m.call ≡ point) × (count_of (recorded_by m.call) ≡ 0)) (quiet_at point)
      (each-filter (λ m. IsRight equations packets m.call) (λ m. stands_at point 0 m.call) all all_right)
      (each-passing (λ m. (point_of m.call ≡ point) × (count_of (recorded_by m.call) ≡ 0)) (λ m. stands_at point 0 m.call) all (λ m test. stands_tells point 0 m.call test))))

  -- what is recorded at a point, caller by caller
  recording_by : (point number : ℕ) → filter (λ m. stands_at point 1 m.call) (map (made_by number) (calls_by given records number))
      ≡ map (made_by number) (filter (stands_at point 1) (calls_by given records number))
  recording_by point number = filter-map (λ m. stands_at point 1 m.call) (made_by number) (calls_by given records number)

  recording_all : (point : ℕ) → recording_at point ≡ flat_map (λ n. filter (λ m. stands_at point 1 m.call) (map (made_by n) (calls_by given records n))) (range_with_len 0 caller_numbers)
  recording_all point = filter-flat_map (λ m. stands_at point 1 m.call) (λ n. map (made_by n) (calls_by given records n)) (range_with_len 0 caller_numbers)

  none_records : recording_at (length records) ≡ []
  none_records =
      recording_all (length records)
      ∙ none_of_range (λ n. filter (λ m. stands_at (length records) 1 m.call) (map (made_by n) (calls_by given records n))) 0 caller_numbers
      (λ n l h. recording_by (length records) n ∙ ap (map (made_by n)) (records_past n (calls_by given records n) records (own n).points))

  module _ (before after : List Record) (r : Record) (split : records ≡ before ++ r ∷ after) where
    split_points : (number : ℕ) → made_points (calls_by given records number) ≡ own_points number (before ++ r ∷ after) 0
    split_points number = (own number).points ∙ ap (λ rs. own_points number rs 0) split

    here : (c : KeptCall) × (filter (stands_at (length before) 1) (calls_by given records r.caller) ≡ c ∷ []) × (recorded_by c ≡ Some r.packet)
    here = records_here r.caller (calls_by given records r.caller) before after r (split_points r.caller) (eq-eqb r.caller r.caller refl)

    one_records : r.caller < caller_numbers → recording_at (length before) ≡ made_by r.caller here.0 ∷ []
    one_records below =
        recording_all (length before)
        ∙ one_of_range (λ n. filter (λ m. stands_at (length before) 1 m.call) (map (made_by n) (calls_by given records n))) r.caller 0 caller_numbers (omega arith) (omega arith)
        (λ n ne. recording_by (length before) n ∙ ap (map (made_by n)) (records_not_here n (calls_by given records n) before after r (split_points n) (ne_eqb r.caller n (λ e. ne (sym e)))))
        ∙ recording_by (length before) r.caller ∙ ap (map (made_by r.caller)) here.1

    here_answered : (front : List Packet) → take (length before) packets ≡ front → IsAnsweredAt equations front here.0
    here_answered front same =
        let there = filter (stands_at (length before) 1) (calls_by given records r.caller) in
        let right = subst (AllByRecursion (IsRight equations packets)) here.1
        (each-filter (IsRight equations packets) (stands_at (length before) 1) (calls_by given records r.caller) (own r.caller).right) in
        let points = subst (AllByRecursion (λ c. point_of c ≡ length before)) here.1
        (each-passing (λ c. point_of c ≡ length before) (stands_at (length before) 1) (calls_by given records r.caller) (λ c test. (stands_tells (length before) 1 c test).0)) in
        subst (λ f. IsAnsweredAt equations f here.0) (ap (λ n. take n packets) points.0 ∙ same) right.0.answered

  front_at : (before after : List Record) → records ≡ before ++ after → take (length before) packets ≡ packets_of before
  front_at before after split =
      let long = length-map before (λ r. r.packet) in
      ap (take (length before)) (ap packets_of split ∙ map-append (λ r. r.packet) before after)
      ∙ ap (λ n. take n (packets_of before ++ packets_of after)) (sym long) ∙ take-append_seam (packets_of before) (packets_of after)

  levels : (after before : List Record) → records ≡ before ++ after → AllByRecursion (λ r. r.caller < caller_numbers) after
      → Steps equations (flat_map (at_point all) (range_with_len (length before) (suc (length after)))) (packets_of before) (packets_of records) (map as_claim after)
  levels [] before split below =
      let whole : records ≡ before = split ∙ append-nil before in
      let none : recording_at (length before) ≡ [] = ap (λ rs. recording_at (length rs)) (sym whole) ∙ none_records in
      let quiet = quiet_there (length before) (packets_of before) (front_at before [] split) in
      let level : at_point all (length before) ++ [] ≡ quiet_at (length before) =
      append-nil (at_point all (length before)) ∙ ap (λ l. quiet_at (length before) ++ l) none ∙ append-nil (quiet_at (length before)) in
      subst (λ calls. Steps equations calls (packets_of before) (packets_of records) []) (sym level)
      (subst (λ ps. Steps equations (quiet_at (length before)) (packets_of before) ps []) (ap packets_of (sym whole)) quiet)
  levels (r ∷ after) before split below =
      let point = length before in
      let front = packets_of before in
      let at = front_at before (r ∷ after) split in
      let call = here before after r split in
      let one = one_step equations r.caller call.0 front r.packet (here_answered before after r split front at) call.2 in
      let level = subst (λ calls. Steps equations (quiet_at point ++ calls) front (front ++ r.packet ∷ []) ((r.caller, r.packet) ∷ [])) (sym (one_records before after r split below.0))
      (then_steps equations (quiet_at point) (made_by r.caller call.0 ∷ []) front front (front ++ r.packet ∷ []) [] ((r.caller, r.packet) ∷ []) (quiet_there point front at) one) in
      let next : length (before ++ r ∷ []) ≡ point + 1 = length_push before r ∙ (omega arith) in
      let ahead : packets_of (before ++ r ∷ []) ≡ front ++ r.packet ∷ [] = map_push (λ r. r.packet) before r in
      let rest = levels after (before ++ r ∷ []) (split ∙ sym (append_assoc before (r ∷ []) after)) below.1 in
      let rest' = subst (λ n. Steps equations (flat_map (at_point all) (range_with_len n (suc (length after)))) (packets_of (before ++ r ∷ [])) (packets_of records) (map as_claim after)) next rest in
      let rest'' = subst (λ ps. Steps equations (flat_map (at_point all) (range_with_len (point + 1) (suc (length after)))) ps (packets_of records) (map as_claim after)) ahead rest' in
      then_steps equations (at_point all point) (flat_map (at_point all) (range_with_len (point + 1) (suc (length after)))) front (front ++ r.packet ∷ []) (packets_of records) ((r.caller, r.packet) ∷ []) (map as_claim after)
      level rest''

  abbrev merged : List CallBy
  merged = merge_of all

  steps : Steps equations merged [] (packets_of records) (map as_claim records)
  steps =
      subst (λ calls. Steps equations calls [] (packets_of records) (map as_claim records))
      (one_merge (suc (length records)) (suc (highest_point all)) all covered (highest_covers all))
      (levels records [] refl local.sound.callers)

  own_records : (number : ℕ) (calls : List KeptCall) → given number ≡ Some calls
      → filter (is_of number) (records_after merged []) ≡ filter (is_of number) records
  own_records number calls e =
      let fit = local.fits number calls e in
      let h = calls_given given records number calls e in
      let mine : filter (is_by number) merged ≡ map (made_by number) calls =
      own_of_merge (calls_by given records) caller_numbers number fit.number_below (subst AreInOrder (sym h) fit.in_order) ∙ ap (map (made_by number)) h in
      sym (places_filter number (records_after merged []) 0)
      ∙ ap (map (λ x. x.1)) (places_of_run equations number merged [] [] steps.run
      ∙ ap (λ l. made_places number l 0) (ap bare mine ∙ bare_made number calls) ∙ fit.places)
      ∙ places_filter number records 0

  pub legal_from_local : IsLegalHistory equations given records
  legal_from_local = record {
    numbers = λ number calls e. (local.fits number calls e).number_below;
    in_order = λ number calls e. (local.fits number calls e).in_order;
    answered = steps.run;
    packets = packets_after merged ∙ packets_claimed merged ∙ ap (map (λ c. c.1)) steps.claimed ∙ sym (packets_as_claims records);
    callers = callers_as_claims (records_after merged []) ∙ ap (map (λ c. c.0)) (records_claimed merged [] ∙ steps.claimed) ∙ sym (callers_as_claims records);
    given_calls = own_records;
  }
