use Rattle.std.proofs.Common.{◌≡◌, ℕ, zero, suc, ◌<◌, ◌≤◌, eqb, true, false, cond, List, [], ◌∷◌, ◌++◌, map, length, take, drop, get_or, refl, sym, ap, subst, arith}
use Rattle.std.specs.List.{filter}
use Rattle.std.proofs.lemmas.Bool.{eq-eqb}
use Rattle.std.proofs.lemmas.List.{append-nil, drop_all}
use Rattle.linear_spec.specs.declared.record.Record.{Record}
use Rattle.basis_core.specs.declared.trace.Answer.{Answer}
use Rattle.basis_core.specs.declared.trace.Event.{Event}
use Rattle.basis_core.specs.Machine.{State, IsReplay, IsReplayAfter, caller_of, calls_so_far, events_of}
use Rattle.basis_core.proofs.machine.replay.Goals as goal

-- the events before a place have fewer of that event's caller than all events have
room_at : (events : List Event) (i : ℕ) (d : Event) → i < length events → calls_so_far (map caller_of (take i events)) (caller_of (get_or events i d)) < events_of events (caller_of (get_or events i d))
room_at [] i d below = absurd (omega arith)
room_at (e ∷ events) zero d below =
    let mine : eqb (caller_of e) (caller_of e) ≡ true = eq-eqb (caller_of e) (caller_of e) refl in
    let more : events_of (e ∷ events) (caller_of e) ≡ suc (events_of events (caller_of e)) = rw mine refl in
    omega arith
room_at (e ∷ events) (suc i) d below =
    let c = caller_of (get_or events i d) in
    let rest = room_at events i d (omega arith) in
    elim (eqb (caller_of e) c) as
    (λ b. length (cond b (caller_of e ∷ filter (λ other. eqb other c) (map caller_of (take i events))) (filter (λ other. eqb other c) (map caller_of (take i events))))
    < length (cond b (e ∷ filter (λ event. eqb (caller_of event) c) events) (filter (λ event. eqb (caller_of event) c) events))) [
      | true ↦ omega arith
      | false ↦ rest
    ]

pub step-requires-clause-room : goal.step-requires-clause-room
step-requires-clause-room c =
    let events = c.as_slice-events.result.now in
    let item = c.event-item.result in
    let fewer = room_at events c.loop-event.event-index item c.loop-event-test.true in
    let here : calls_so_far (map caller_of (take c.loop-event.event-index events)) (caller_of item) < events_of events (caller_of item) =
    subst (λ e. calls_so_far (map caller_of (take c.loop-event.event-index events)) (caller_of e) < events_of events (caller_of e)) (sym c.event-item.is) fewer in
    let callers = ap (λ cs. calls_so_far cs (caller_of item)) c.loop-event.invariant.callers in
    let most = c.requires.room (caller_of item) in
    let same = ap (λ es. events_of es (caller_of item)) c.as_slice-events.ensures in
    omega arith

-- when no event is left, what was replayed is all
all_replayed : (k s : ℕ) (events : List Event) (i : ℕ) (core : State) (answers : List Answer) → length events ≤ i
    → ((rest : List Answer) (after : List Record) → IsReplayAfter k s core.callers core.records (drop i events) rest after → IsReplay k s events (answers ++ rest) after)
    → IsReplay k s events answers core.records
all_replayed k s events i core answers past replays =
    subst (λ as'. IsReplay k s events as' core.records) (append-nil answers)
    (replays [] core.records (subst (λ es. IsReplayAfter k s core.callers core.records es [] core.records) (sym (drop_all i events past)) refl))

pub returns : goal.returns
returns c =
    let done = all_replayed c.args.k c.args.s c.as_slice-events.result.now c.loop-event.event-index c.loop-event.core c.loop-event.answers.items c.loop-event-test.false c.loop-event.invariant.replays in
    subst (λ core. IsReplay c.args.k c.args.s c.args.events.now.items c.loop-event.answers.items core.records) (sym c.core-2.view_is)
    (subst (λ es. IsReplay c.args.k c.args.s es c.loop-event.answers.items c.loop-event.core.records) c.as_slice-events.ensures done)
