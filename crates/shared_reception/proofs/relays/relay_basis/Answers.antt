use Rattle.std.proofs.Common.{◌≡◌, ◌∷◌, [], ◌++◌, ◌∙◌, List, length, subst, sym, arith}
use Rattle.std.specs.Prelude.{Option, Some}
use Rattle.std.specs.List.{refill}
use Rattle.std.specs.Option.{option_to_list}
use Rattle.std.proofs.lemmas.List.Elements.{All-same}
use Rattle.shared_basis.specs.Bases.{BasisValue, PassValue}
use Rattle.shared_basis.specs.Close.{AreAllPasses, IsCloseOf}
use Rattle.shared_basis.specs.Passes.{IsPassOf}
use Rattle.shared_reception.specs.Relaying.{HaveMet}
use Rattle.shared_reception.proofs.AllSeen.{RecordLaws}
use Rattle.shared_reception.proofs.ClosedRelays.{AreParted, closing_are, is_relay, is_still_of, receiver_at, sender_is, sent_is, silent_sender}
use Rattle.shared_reception.proofs.Lists.{popped_last, refilled}
use Rattle.shared_reception.proofs.relays.relay_basis.Goals as goal

parted : (basis : BasisValue) (passes receivers : List PassValue) (taken : Option PassValue) (sender : PassValue) → AreAllPasses basis passes
    → passes ≡ receivers ++ option_to_list taken → taken ≡ Some sender → AreParted basis passes receivers sender
parted basis passes receivers taken sender all popped found = record { all = all; parts = popped_last passes receivers taken sender popped found }

-- the receivers were lent as a slice and written back
met_back : (receivers lent written : List PassValue) (met : PassValue) → lent ≡ receivers → HaveMet lent written met
    → HaveMet receivers (refill (length receivers) receivers written) met
met_back receivers lent written met same have =
    let mine : HaveMet receivers written met = subst (λ (l : List PassValue). HaveMet l written met) same have in
    subst (λ (l : List PassValue). HaveMet receivers l met) (sym (refilled receivers written mine.count)) mine

pub meet_receivers-requires-clause-receivers : goal.meet_receivers-requires-clause-receivers
meet_receivers-requires-clause-receivers c =
    All-same (IsPassOf c.args.basis) c.as_mut_slice.result.now c.pop.new.self.items c.as_mut_slice.ensures.value
    (λ number other low. (receiver_at c.args.basis c.args.passes.items c.pop.new.self.items c.unwrap-sender.result other number
    (parted c.args.basis c.args.passes.items c.pop.new.self.items c.pop.result c.unwrap-sender.result c.requires.passes c.pop.ensures.items c.unwrap-sender.ensures) low).1)

pub meet_receivers-requires-clause-sender : goal.meet_receivers-requires-clause-sender
meet_receivers-requires-clause-sender c =
    (sender_is c.args.basis c.args.passes.items c.pop.new.self.items c.unwrap-sender.result
    (parted c.args.basis c.args.passes.items c.pop.new.self.items c.pop.result c.unwrap-sender.result c.requires.passes c.pop.ensures.items c.unwrap-sender.ensures)).0

pub draw_all-requires-clause-pass : goal.draw_all-requires-clause-pass
draw_all-requires-clause-pass c =
    is_still_of c.args.basis c.unwrap-sender.result c.meet_receivers.new.sender
    (sender_is c.args.basis c.args.passes.items c.pop.new.self.items c.unwrap-sender.result
    (parted c.args.basis c.args.passes.items c.pop.new.self.items c.pop.result c.unwrap-sender.result c.requires.passes c.pop.ensures.items c.unwrap-sender.ensures)).0
    c.meet_receivers.ensures.sees

pub draw_all-requires-clause-calls : goal.draw_all-requires-clause-calls
draw_all-requires-clause-calls c =
    c.meet_receivers.ensures.quiet.calls
    ∙ (silent_sender c.args.sending.now.coded c.args.passes.items c.pop.new.self.items c.unwrap-sender.result
    (popped_last c.args.passes.items c.pop.new.self.items c.pop.result c.unwrap-sender.result c.pop.ensures.items c.unwrap-sender.ensures) c.requires.sender).0

pub draw_all-requires-clause-room : goal.draw_all-requires-clause-room
draw_all-requires-clause-room c =
    let spare = c.meet_receivers.ensures.quiet.spare in
    let enough = (silent_sender c.args.sending.now.coded c.args.passes.items c.pop.new.self.items c.unwrap-sender.result
    (popped_last c.args.passes.items c.pop.new.self.items c.pop.result c.unwrap-sender.result c.pop.ensures.items c.unwrap-sender.ensures) c.requires.sender).1 in
    omega (arith, spare, enough)

pub close-requires : goal.close-requires
close-requires c =
    let now : List PassValue = refill (length c.pop.new.self.items) c.pop.new.self.items c.meet_receivers.new.receivers in
    let pushed : c.push.new.self.items ≡ now ++ c.draw_all.new.sender ∷ [] = c.in_ok-push.ensures.ok in
    subst (AreAllPasses c.args.basis) (sym pushed)
    (closing_are c.args.basis c.args.passes.items c.pop.new.self.items now c.unwrap-sender.result c.meet_receivers.new.sender c.draw_all.new.sender
    (parted c.args.basis c.args.passes.items c.pop.new.self.items c.pop.result c.unwrap-sender.result c.requires.passes c.pop.ensures.items c.unwrap-sender.ensures)
    (met_back c.pop.new.self.items c.as_mut_slice.result.now c.meet_receivers.new.receivers c.meet_receivers.new.sender c.as_mut_slice.ensures.value c.meet_receivers.ensures.receivers)
    c.meet_receivers.ensures.sees c.in_ok-draws.ensures.sees)

pub returns-clause-closed : goal.returns-clause-closed
returns-clause-closed c =
    let laws : RecordLaws =
    record { innovative = c.records.ensures.innovative; recorded = c.callers.ensures.recorded; places = c.calls.ensures.recorded; member = c.spans.ensures.member } in
    let now : List PassValue = refill (length c.pop.new.self.items) c.pop.new.self.items c.meet_receivers.new.receivers in
    let pushed : c.push.new.self.items ≡ now ++ c.draw_all.new.sender ∷ [] = c.in_ok-push.ensures.ok in
    is_relay laws c.args.sending.now c.args.basis c.args.passes.items c.pop.new.self.items now c.unwrap-sender.result c.meet_receivers.new.sender c.draw_all.new.sender
    c.in_ok-closed.closed c.in_ok-draws.draws.items c.is_basis.ensures
    (parted c.args.basis c.args.passes.items c.pop.new.self.items c.pop.result c.unwrap-sender.result c.requires.passes c.pop.ensures.items c.unwrap-sender.ensures)
    (met_back c.pop.new.self.items c.as_mut_slice.result.now c.meet_receivers.new.receivers c.meet_receivers.new.sender c.as_mut_slice.ensures.value c.meet_receivers.ensures.receivers)
    c.meet_receivers.ensures.sees c.in_ok-draws.ensures
    (subst (λ (l : List PassValue). IsCloseOf c.args.basis l c.in_ok-closed.closed) pushed c.in_ok-closed.ensures)

pub returns-clause-draws : goal.returns-clause-draws
returns-clause-draws c =
    let laws : RecordLaws =
    record { innovative = c.records.ensures.innovative; recorded = c.callers.ensures.recorded; places = c.calls.ensures.recorded; member = c.spans.ensures.member } in
    let now : List PassValue = refill (length c.pop.new.self.items) c.pop.new.self.items c.meet_receivers.new.receivers in
    let pushed : c.push.new.self.items ≡ now ++ c.draw_all.new.sender ∷ [] = c.in_ok-push.ensures.ok in
    sent_is laws c.args.sending.now c.args.basis c.args.passes.items c.pop.new.self.items now c.unwrap-sender.result c.meet_receivers.new.sender c.draw_all.new.sender
    c.in_ok-closed.closed c.in_ok-draws.draws.items c.is_basis.ensures
    (parted c.args.basis c.args.passes.items c.pop.new.self.items c.pop.result c.unwrap-sender.result c.requires.passes c.pop.ensures.items c.unwrap-sender.ensures)
    (met_back c.pop.new.self.items c.as_mut_slice.result.now c.meet_receivers.new.receivers c.meet_receivers.new.sender c.as_mut_slice.ensures.value c.meet_receivers.ensures.receivers)
    c.meet_receivers.ensures.sees c.in_ok-draws.ensures
    (subst (λ (l : List PassValue). IsCloseOf c.args.basis l c.in_ok-closed.closed) pushed c.in_ok-closed.ensures)
