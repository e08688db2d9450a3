-- The tie: where calls were answered as the sequential basis does, the machine over their events gives the same answers, and
-- the run's records.
use Rattle.std.proofs.Common.{◌≡◌, ⊎_elim, ℕ, eqb, List, [], ◌∷◌, ◌++◌, map, length, Option, Some, None, refl, sym, ap, ◌∙◌, subst}
use Rattle.std.specs.List.{filter, AllByRecursion}
use Rattle.std.specs.Option.{option_to_list}
use Rattle.std.proofs.lemmas.Bool.{cases_order}
use Rattle.std.proofs.lemmas.List.{append-nil, append_assoc, map-append, map_push, length-map}
use Rattle.linear_spec.specs.declared.equations.Equations.{Equations}
use Rattle.linear_spec.specs.declared.packet.Packet.{Packet}
use Rattle.linear_spec.specs.declared.record.Record.{Record}
use Rattle.linear_spec.specs.declared.reply.Reply.{Reply}
use Rattle.linear_spec.specs.declared.reply.Reply.TheVariants.{FailedCheck, Innovative, NotInnovative, Conflicting}
use Rattle.linear_spec.specs.Passing.{Passes, IsFirstFailing}
use Rattle.linear_spec.specs.SequentialBasis.{packets_of, IsReply}
use Rattle.basis_core.specs.declared.trace.Answer.{Answer}
use Rattle.basis_core.specs.declared.trace.Answer.TheVariants.{Offered, Drew}
use Rattle.basis_core.specs.declared.trace.Event.{Event}
use Rattle.basis_core.specs.declared.trace.Event.TheVariants.{Offer, Draw}
use Rattle.basis_core.specs.declared.entry.Entry.{Entry}
use Rattle.basis_core.specs.Calls.{recorded_by, IsAnsweredAt}
use Rattle.basis_core.specs.Run.{CallBy, is_by, AreAnsweredFrom, record_of, records_after}
use Rattle.basis_core.specs.Machine.{IsReplyAt, IsAnswerTo, IsReplayAfter, caller_of, calls_so_far, new_records}
use Rattle.basis_core.specs.Traces.{kept_as, made_of, HasItsCheck, IsCall}
use Rattle.basis_core.proofs.Lists.{filter-map}

least_is_one : (equations : Equations) (packet : Packet) (check other : ℕ) → IsFirstFailing equations packet check → IsFirstFailing equations packet other → other ≡ check
least_is_one equations packet check other one two =
    ⊎_elim (λ same. same) (λ order. ⊎_elim (λ before. absurd (two.fails (one.first other before))) (λ after. absurd (one.fails (two.first check after))) order)
    (cases_order other check)

passing_reply : (equations : Equations) (front : List Packet) (packet : Packet) (reply : Reply) → Passes equations packet → IsReply equations front packet reply
    → IsReplyAt equations.k equations.s front None packet reply
passing_reply equations front packet (FailedCheck check at) passes replied = absurd (replied.0.fails (passes check replied.0.below))
passing_reply equations front packet (Innovative at) passes replied = replied.1
passing_reply equations front packet (NotInnovative at) passes replied = replied.1
passing_reply equations front packet (Conflicting at) passes replied = replied.1

failing_reply : (equations : Equations) (front : List Packet) (packet : Packet) (check : ℕ) (reply : Reply) → IsFirstFailing equations packet check
    → IsReply equations front packet reply → reply ≡ FailedCheck check (length front)
failing_reply equations front packet check (FailedCheck other at) first replied =
    ap (λ c. FailedCheck c at) (least_is_one equations packet check other first replied.0) ∙ ap (FailedCheck check) replied.1
failing_reply equations front packet check (Innovative at) first replied = absurd (first.fails (replied.0 check first.below))
failing_reply equations front packet check (NotInnovative at) first replied = absurd (first.fails (replied.0 check first.below))
failing_reply equations front packet check (Conflicting at) first replied = absurd (first.fails (replied.0 check first.below))

answer_is : (equations : Equations) (front : List Packet) (event : Event) (answer : Answer) → HasItsCheck equations event → IsCall event answer
    → IsAnsweredAt equations front (kept_as event answer) → IsAnswerTo equations.k equations.s front event answer
answer_is equations front (Offer caller tag None packet) (Offered reply) check call answered = passing_reply equations front packet reply check answered
answer_is equations front (Offer caller tag (Some first) packet) (Offered reply) check call answered = failing_reply equations front packet first reply check answered
answer_is equations front (Offer caller tag failed packet) (Drew drawn) check call answered = absurd call
answer_is equations front (Draw caller tag) (Offered reply) check call answered = absurd call
answer_is equations front (Draw caller tag) (Drew drawn) check call answered = answered

abbrev who : List CallBy → List ℕ
who calls = map (λ made. made.caller) calls

so_far : (earlier : List CallBy) (caller : ℕ) → calls_so_far (who earlier) caller ≡ length (filter (is_by caller) earlier)
so_far earlier caller =
    ap length (filter-map (λ other. eqb other caller) (λ made. made.caller) earlier) ∙ length-map (filter (is_by caller) earlier) (λ made. made.caller)

records_are : (earlier : List CallBy) (event : Event) (answer : Answer)
    → new_records (who earlier) event answer ≡ record_of (record { caller = caller_of event; call = kept_as event answer }) earlier
records_are earlier (Offer caller tag failed packet) (Offered (FailedCheck check at)) = refl
records_are earlier (Offer caller tag failed packet) (Offered (Innovative at)) =
    ap (λ n. let r : Record = record { caller = caller; call = n; packet = packet } in r ∷ []) (so_far earlier caller)
records_are earlier (Offer caller tag failed packet) (Offered (NotInnovative at)) = refl
records_are earlier (Offer caller tag failed packet) (Offered (Conflicting at)) = refl
records_are earlier (Offer caller tag failed packet) (Drew drawn) = refl
records_are earlier (Draw caller tag) (Offered reply) = refl
records_are earlier (Draw caller tag) (Drew drawn) = refl

packets_more : (made : CallBy) (earlier : List CallBy) (before : List Record) (o : Option Packet) → recorded_by made.call ≡ o
    → packets_of (before ++ record_of made earlier) ≡ packets_of before ++ option_to_list (recorded_by made.call)
packets_more made earlier before None e = rw e (map-append (λ r. r.packet) before [])
packets_more made earlier before (Some packet) e =
    rw e (map-append (λ r. r.packet) before (record { caller = made.caller; call = length (filter (is_by made.caller) earlier); packet = packet } ∷ []))

pub tie : (equations : Equations) (entries : List Entry) (earlier : List CallBy) (before : List Record)
    → AreAnsweredFrom equations (map made_of entries) (packets_of before)
    → AllByRecursion (λ e. HasItsCheck equations e.event × IsCall e.event e.answer) entries
    → IsReplayAfter equations.k equations.s (who earlier) before (map (λ e. e.event) entries) (map (λ e. e.answer) entries) (before ++ records_after (map made_of entries) earlier)
tie equations [] earlier before answered all = append-nil before
tie equations (e ∷ entries) earlier before answered all =
    let made = made_of e in
    let events = map (λ e. e.event) entries in
    let answers = map (λ e. e.answer) entries in
    let after = before ++ record_of made earlier in
    let rest = tie equations entries (earlier ++ made ∷ []) after
    (subst (AreAnsweredFrom equations (map made_of entries)) (sym (packets_more made earlier before (recorded_by made.call) refl)) answered.1) all.1 in
    let new : before ++ new_records (who earlier) e.event e.answer ≡ after = ap (λ l. before ++ l) (records_are earlier e.event e.answer) in
    let callers : who (earlier ++ made ∷ []) ≡ who earlier ++ caller_of e.event ∷ [] = map_push (λ m. m.caller) earlier made in
    let joined : after ++ records_after (map made_of entries) (earlier ++ made ∷ []) ≡ before ++ records_after (map made_of (e ∷ entries)) earlier =
    append_assoc before (record_of made earlier) (records_after (map made_of entries) (earlier ++ made ∷ [])) in (
      answer_is equations (packets_of before) e.event e.answer all.0.0 all.0.1 answered.0,
      subst (λ cs. IsReplayAfter equations.k equations.s cs (before ++ new_records (who earlier) e.event e.answer) events answers (before ++ records_after (map made_of (e ∷ entries)) earlier)) callers
          (subst (λ b. IsReplayAfter equations.k equations.s (who (earlier ++ made ∷ [])) b events answers (before ++ records_after (map made_of (e ∷ entries)) earlier)) (sym new)
          (subst (IsReplayAfter equations.k equations.s (who (earlier ++ made ∷ [])) after events answers) joined rest)),
    )
