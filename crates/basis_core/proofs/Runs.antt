-- Along a run: each call is right at the front of its point, and the records are those that its recording calls claim.
use Rattle.std.proofs.Common.{◌≡◌, ℕ, ◌+◌, ◌≤◌, Bool, true, false, cond, List, [], ◌∷◌, ◌++◌, map, length, take, Option, Some, None, refl, sym, ap, ◌∙◌, subst, arith}
use Rattle.std.specs.List.{filter, flat_map, AllByRecursion}
use Rattle.std.specs.Option.{option_to_list}
use Rattle.std.proofs.lemmas.Bool.{eqb-true}
use Rattle.std.proofs.lemmas.List.{append-nil, append_assoc, map-append, length-append, length_push}
use Rattle.std.proofs.lemmas.List.Elements.{filter-append}
use Rattle.std.proofs.Math.Seq.{take-append_seam}
use Rattle.linear_spec.specs.declared.equations.Equations.{Equations}
use Rattle.linear_spec.specs.declared.packet.Packet.{Packet}
use Rattle.linear_spec.specs.declared.record.Record.{Record}
use Rattle.linear_spec.specs.declared.record.Drawn.TheVariants.{Sent, Nothing}
use Rattle.linear_spec.specs.declared.reply.Reply.TheVariants.{FailedCheck, Innovative, NotInnovative, Conflicting}
use Rattle.linear_spec.specs.Passing.{Passes}
use Rattle.linear_spec.specs.Cases.{IsFresh}
use Rattle.linear_spec.specs.SequentialBasis.{packets_of}
use Rattle.basis_core.specs.Calls.{KeptCall, KeptOffer, KeptDraw, point_of, recorded_by, count_of, IsAnsweredAt}
use Rattle.basis_core.specs.Run.{CallBy, is_by, AreAnsweredFrom, AreInnovativeFrom, record_of, records_after}
use Rattle.basis_core.specs.Merge.{made_by}
use Rattle.basis_core.specs.Legal.{callers_of, is_of}

-- what a recording call claims: that this packet is its caller's
abbrev pub claim_of : CallBy → List (ℕ × Packet)
claim_of made = map (λ packet. (made.caller, packet)) (option_to_list (recorded_by made.call))

abbrev pub claims_of : List CallBy → List (ℕ × Packet)
claims_of calls = flat_map claim_of calls

abbrev pub packets_made : List CallBy → List Packet
packets_made calls = flat_map (λ made. option_to_list (recorded_by made.call)) calls

-- a call was answered as at the front of its point
pub record IsRight (equations : Equations) (packets : List Packet) (call : KeptCall) : Type 0 where
  pub within : point_of call ≤ length packets
  pub answered : IsAnsweredAt equations (take (point_of call) packets) call

pub point_is : (equations : Equations) (front : List Packet) (call : KeptCall) → IsAnsweredAt equations front call → point_of call ≡ length front
point_is equations front (KeptOffer tag packet (FailedCheck check at)) answered = answered.1
point_is equations front (KeptOffer tag packet (Innovative at)) answered = answered.1.1
point_is equations front (KeptOffer tag packet (NotInnovative at)) answered = answered.1.1
point_is equations front (KeptOffer tag packet (Conflicting at)) answered = answered.1.1
point_is equations front (KeptDraw tag (Sent at)) answered = answered.1
point_is equations front (KeptDraw tag Nothing) answered = sym answered

pub recorded_is_innovative : (equations : Equations) (front : List Packet) (call : KeptCall) (packet : Packet) → recorded_by call ≡ Some packet
    → IsAnsweredAt equations front call → Passes equations packet × IsFresh equations.k front packet
recorded_is_innovative equations front (KeptOffer tag offered (FailedCheck check at)) packet recorded answered = absurd (let e : ⊥ = cc in e)
recorded_is_innovative equations front (KeptOffer tag offered (Innovative at)) packet recorded answered =
    let same : offered ≡ packet = cc in
    subst (λ p. Passes equations p × IsFresh equations.k front p) same (answered.0, answered.1.0)
recorded_is_innovative equations front (KeptOffer tag offered (NotInnovative at)) packet recorded answered = absurd (let e : ⊥ = cc in e)
recorded_is_innovative equations front (KeptOffer tag offered (Conflicting at)) packet recorded answered = absurd (let e : ⊥ = cc in e)
recorded_is_innovative equations front (KeptDraw tag drawn) packet recorded answered = absurd (let e : ⊥ = cc in e)

pub length_more : (front : List Packet) (o : Option Packet) → length (front ++ option_to_list o) ≡ length front + count_of o
length_more front None = ap length (append-nil front) ∙ (omega arith)
length_more front (Some packet) = length_push front packet ∙ (omega arith)

module _ (equations : Equations) where
  pub run_right : (calls : List CallBy) (front : List Packet) → AreAnsweredFrom equations calls front
      → AllByRecursion (λ made. IsRight equations (front ++ packets_made calls) made.call) calls
  run_right [] front run = tt
  run_right (made ∷ rest) front run =
      let more = option_to_list (recorded_by made.call) in
      let all = front ++ packets_made (made ∷ rest) in
      let at : point_of made.call ≡ length front = point_is equations front made.call run.0 in
      let seam : take (length front) all ≡ front = take-append_seam front (packets_made (made ∷ rest)) in
      let here : take (point_of made.call) all ≡ front = ap (λ n. take n all) at ∙ seam in
      let long = length-append front (packets_made (made ∷ rest)) in
      let joined : (front ++ more) ++ packets_made rest ≡ all = append_assoc front more (packets_made rest) in (
        record { within = omega arith; answered = subst (λ f. IsAnsweredAt equations f made.call) (sym here) run.0 },
        subst (λ packets. AllByRecursion (λ m. IsRight equations packets m.call) rest) joined (run_right rest (front ++ more) run.1),
      )

  pub run_innovative : (calls : List CallBy) (front : List Packet) → AreAnsweredFrom equations calls front → AreInnovativeFrom equations (packets_made calls) front
  run_innovative [] front run = tt
  run_innovative (made ∷ rest) front run = go (recorded_by made.call) refl (run_innovative rest (front ++ option_to_list (recorded_by made.call)) run.1)
    where
      go : (o : Option Packet) → recorded_by made.call ≡ o → AreInnovativeFrom equations (packets_made rest) (front ++ option_to_list (recorded_by made.call))
          → AreInnovativeFrom equations (option_to_list (recorded_by made.call) ++ packets_made rest) front
      go None e later =
          rw e (subst (AreInnovativeFrom equations (packets_made rest)) (ap (λ o. front ++ option_to_list o) e ∙ append-nil front) later)
      go (Some packet) e later = rw e (
        recorded_is_innovative equations front made.call packet e run.0,
        subst (AreInnovativeFrom equations (packets_made rest)) (ap (λ o. front ++ option_to_list o) e) later,
      )

  pub answered_append : (calls more : List CallBy) (front : List Packet) → AreAnsweredFrom equations calls front
      → AreAnsweredFrom equations more (front ++ packets_made calls) → AreAnsweredFrom equations (calls ++ more) front
  answered_append [] more front run rest = subst (AreAnsweredFrom equations more) (append-nil front) rest
  answered_append (made ∷ calls) more front run rest = (
    run.0,
    answered_append calls more (front ++ option_to_list (recorded_by made.call)) run.1
        (subst (AreAnsweredFrom equations more) (sym (append_assoc front (option_to_list (recorded_by made.call)) (packets_made calls))) rest),
  )

claim_packets : (number : ℕ) (o : Option Packet) → map (λ c. c.1) (map (λ packet. let c : ℕ × Packet = (number, packet) in c) (option_to_list o)) ≡ option_to_list o
claim_packets number None = refl
claim_packets number (Some packet) = refl

pub packets_claimed : (calls : List CallBy) → packets_made calls ≡ map (λ c. c.1) (claims_of calls)
packets_claimed [] = refl
packets_claimed (made ∷ rest) =
    ap (λ l. option_to_list (recorded_by made.call) ++ l) (packets_claimed rest)
    ∙ ap (λ l. l ++ map (λ c. c.1) (claims_of rest)) (sym (claim_packets made.caller (recorded_by made.call)))
    ∙ sym (map-append (λ c. c.1) (claim_of made) (claims_of rest))

-- a record as a claim
abbrev pub as_claim : Record → ℕ × Packet
as_claim r = (r.caller, r.packet)

claim_of_record : (made : CallBy) (earlier : List CallBy) (o : Option Packet) → recorded_by made.call ≡ o
    → map as_claim (record_of made earlier) ≡ claim_of made
claim_of_record made earlier None e = rw e refl
claim_of_record made earlier (Some packet) e = rw e refl

pub records_claimed : (calls earlier : List CallBy) → map as_claim (records_after calls earlier) ≡ claims_of calls
records_claimed [] earlier = refl
records_claimed (made ∷ rest) earlier =
    map-append as_claim (record_of made earlier) (records_after rest (earlier ++ made ∷ []))
    ∙ ap (λ l. l ++ map as_claim (records_after rest (earlier ++ made ∷ []))) (claim_of_record made earlier (recorded_by made.call) refl)
    ∙ ap (λ l. claim_of made ++ l) (records_claimed rest (earlier ++ made ∷ []))

pub packets_as_claims : (records : List Record) → packets_of records ≡ map (λ c. c.1) (map as_claim records)
packets_as_claims [] = refl
packets_as_claims (r ∷ rs) = ap (λ l. r.packet ∷ l) (packets_as_claims rs)

pub callers_as_claims : (records : List Record) → callers_of records ≡ map (λ c. c.0) (map as_claim records)
callers_as_claims [] = refl
callers_as_claims (r ∷ rs) = ap (λ l. r.caller ∷ l) (callers_as_claims rs)

pub packets_after : (calls : List CallBy) → packets_of (records_after calls []) ≡ packets_made calls
packets_after calls = packets_as_claims (records_after calls []) ∙ ap (map (λ c. c.1)) (records_claimed calls []) ∙ sym (packets_claimed calls)

-- the records of one caller, each with its place
abbrev pub own_places : ℕ → List Record → ℕ → List (ℕ × Record)
own_places number [] at = []
own_places number (r ∷ rs) at = cond (is_of number r) ((at, r) ∷ own_places number rs (at + 1)) (own_places number rs (at + 1))

-- the records that one caller's calls claim, each with its place, the first call having this number
abbrev pub made_places : ℕ → List KeptCall → ℕ → List (ℕ × Record)
made_places number [] i = []
made_places number (c ∷ cs) i =
    map (λ packet. (point_of c, record { caller = number; call = i; packet = packet })) (option_to_list (recorded_by c)) ++ made_places number cs (i + 1)

abbrev pub bare : List CallBy → List KeptCall
bare calls = map (λ made. made.call) calls

pub bare_made : (number : ℕ) (calls : List KeptCall) → bare (map (made_by number) calls) ≡ calls
bare_made number [] = refl
bare_made number (c ∷ cs) = ap (λ l. c ∷ l) (bare_made number cs)

-- one call more at the front of a run, by this caller (true) or another, recording or not
place_step : (number at : ℕ) (made : CallBy) (earlier : List CallBy) (records : List Record) (own : List KeptCall) (b : Bool) (o : Option Packet)
    → is_by number made ≡ b → recorded_by made.call ≡ o → point_of made.call ≡ at
    → own_places number records (at + count_of o) ≡ made_places number own (length (filter (is_by number) earlier) + cond b 1 0)
    → own_places number (record_of made earlier ++ records) at ≡ made_places number (cond b (made.call ∷ own) own) (length (filter (is_by number) earlier))
place_step number at made earlier records own true None e f here ih =
    let none : at + 0 ≡ at = omega arith in
    rw f (subst (λ n. own_places number records n ≡ made_places number own (length (filter (is_by number) earlier) + 1)) none ih)
place_step number at made earlier records own false None e f here ih =
    let none : at + 0 ≡ at = omega arith in
    let none' : length (filter (is_by number) earlier) + 0 ≡ length (filter (is_by number) earlier) = omega arith in
    rw f (subst (λ n. own_places number records n ≡ made_places number own (length (filter (is_by number) earlier))) none
    (subst (λ n. own_places number records (at + 0) ≡ made_places number own n) none' ih))
place_step number at made earlier records own true (Some packet) e f here ih =
    let same : made.caller ≡ number = eqb-true made.caller number e in
    let first : ℕ → ℕ → ℕ × Record = λ n p. (p, record { caller = n; call = length (filter (is_by n) earlier); packet = packet }) in
    rw (f, e) (ap (λ l. first made.caller at ∷ l) ih
    ∙ ap (λ n. first n at ∷ made_places number own (length (filter (is_by number) earlier) + 1)) same
    ∙ ap (λ p. first number p ∷ made_places number own (length (filter (is_by number) earlier) + 1)) (sym here))
place_step number at made earlier records own false (Some packet) e f here ih =
    let none' : length (filter (is_by number) earlier) + 0 ≡ length (filter (is_by number) earlier) = omega arith in
    rw (f, e) (subst (λ n. own_places number records (at + 1) ≡ made_places number own n) none' ih)

count_more : (number : ℕ) (earlier : List CallBy) (made : CallBy) (b : Bool) → is_by number made ≡ b
    → length (filter (is_by number) (earlier ++ made ∷ [])) ≡ length (filter (is_by number) earlier) + cond b 1 0
count_more number earlier made true e =
    let one : filter (is_by number) (made ∷ []) ≡ made ∷ [] = rw e refl in
    let all : filter (is_by number) (earlier ++ made ∷ []) ≡ filter (is_by number) earlier ++ made ∷ [] =
    filter-append (is_by number) earlier (made ∷ []) ∙ ap (λ l. filter (is_by number) earlier ++ l) one in
    ap length all ∙ length_push (filter (is_by number) earlier) made ∙ (omega arith)
count_more number earlier made false e =
    let none : filter (is_by number) (made ∷ []) ≡ [] = rw e refl in
    let all : filter (is_by number) (earlier ++ made ∷ []) ≡ filter (is_by number) earlier =
    filter-append (is_by number) earlier (made ∷ []) ∙ ap (λ l. filter (is_by number) earlier ++ l) none ∙ append-nil (filter (is_by number) earlier) in
    ap length all ∙ (omega arith)

bare_step : (number : ℕ) (made : CallBy) (rest : List CallBy) (b : Bool) → is_by number made ≡ b
    → bare (filter (is_by number) (made ∷ rest)) ≡ cond b (made.call ∷ bare (filter (is_by number) rest)) (bare (filter (is_by number) rest))
bare_step number made rest true e = rw e refl
bare_step number made rest false e = rw e refl

-- the records that a run leaves of one caller are those that its calls claim, with the numbers of the calls
module _ (equations : Equations) (number : ℕ) where
  pub places_of_run : (calls earlier : List CallBy) (front : List Packet) → AreAnsweredFrom equations calls front
      → own_places number (records_after calls earlier) (length front)
      ≡ made_places number (bare (filter (is_by number) calls)) (length (filter (is_by number) earlier))
  places_of_run [] earlier front run = refl
  places_of_run (made ∷ rest) earlier front run =
      let later = earlier ++ made ∷ [] in
      let b = is_by number made in
      let ih = places_of_run rest later (front ++ option_to_list (recorded_by made.call)) run.1 in
      let records = records_after rest later in
      let own = bare (filter (is_by number) rest) in
      place_step number (length front) made earlier records own b (recorded_by made.call) refl refl (point_is equations front made.call run.0)
      (sym (ap (own_places number records) (length_more front (recorded_by made.call))) ∙ ih ∙ ap (made_places number own) (count_more number earlier made b refl))
      ∙ sym (ap (λ l. made_places number l (length (filter (is_by number) earlier))) (bare_step number made rest b refl))
