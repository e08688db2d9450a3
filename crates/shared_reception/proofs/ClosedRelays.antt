-- A basis that is closed once its sender has met the receivers and drawn.
use Rattle.std.proofs.Common.{◌≡◌, inl, inr, ℕ, ◌+◌, ◌-◌, ◌<◌, ◌≤◌, List, [], ◌∷◌, ◌++◌, length, map, take, get_or, sym, refl, ap, ◌∙◌, subst, arith}
use Rattle.std.specs.List.{All}
use Rattle.std.proofs.lemmas.List.{get_or-map, get_or_append_left, get_or_push, length-take, length_push, take_all}
use Rattle.std.proofs.lemmas.Bool.{cases_lt}
use Rattle.linear_spec.specs.declared.record.Record.{Record}
use Rattle.linear_spec.specs.Packet.{Fits}
use Rattle.linear_spec.specs.SequentialBasis.{packets_of}
use Rattle.basis_core.specs.Legal.{HaveSeenAtMost}
use Rattle.basis_core.specs.Merge.{given_by}
use Rattle.shared_basis.specs.declared.params.Closed.{Closed}
use Rattle.shared_basis.specs.Bases.{AreParameters, BasisValue, PassValue}
use Rattle.shared_basis.specs.Close.{AreAllPasses, IsCloseOf}
use Rattle.shared_basis.specs.Passes.{IsPassOf, SeesOn, calls_of}
use Rattle.shared_reception.specs.declared.sends.SentDraw.{SentDraw}
use Rattle.shared_reception.specs.declared.sends.Sending.{Sending}
use Rattle.shared_reception.specs.Relayed.{draws_of, sent_of}
use Rattle.shared_reception.specs.Relaying.{AreQuiet, HasDrawn, HasSender, HaveMet, IsRelayOf}
use Rattle.shared_reception.proofs.AllSeen.{RecordLaws, own_seen, quiet_has_none}
use Rattle.shared_reception.proofs.Lists.{each_push, some_of}
use Rattle.shared_reception.proofs.Receptions.{given_in, kept_by}
use Rattle.shared_reception.proofs.Senders.{sees_more, sees_same, sees_through}

-- a pass that saw on is still of its basis
pub is_still_of : (basis : BasisValue) (before after : PassValue) → IsPassOf basis before → SeesOn before after → IsPassOf basis after
is_still_of basis before after was sees = record { table = sees.table ∙ was.table; parameters = sees.parameters ∙ was.parameters }

-- the passes of a basis, the last one taken from the others
pub record AreParted (basis : BasisValue) (passes receivers : List PassValue) (sender : PassValue) : Type 0 where
  pub all : AreAllPasses basis passes
  pub parts : passes ≡ receivers ++ sender ∷ []

pub receiver_at : (basis : BasisValue) (passes receivers : List PassValue) (sender other : PassValue) (number : ℕ) → AreParted basis passes receivers sender
    → number < length receivers → (get_or passes number other ≡ get_or receivers number other)
    × IsPassOf basis (get_or receivers number other) × ((get_or receivers number other).number ≡ number)
receiver_at basis passes receivers sender other number parted low =
    let same : get_or passes number other ≡ get_or receivers number other =
    ap (λ (l : List PassValue). get_or l number other) parted.parts ∙ get_or_append_left receivers (sender ∷ []) other number low in
    let there : number < length passes = omega (arith, ap length parted.parts, length_push receivers sender) in
    let is : IsPassOf basis (get_or receivers number other) × ((get_or receivers number other).number ≡ number) =
    subst (λ (p : PassValue). IsPassOf basis p × (p.number ≡ number)) same (parted.all.each number other there) in
    (same, is.0, is.1)

pub sender_is : (basis : BasisValue) (passes receivers : List PassValue) (sender : PassValue) → AreParted basis passes receivers sender
    → IsPassOf basis sender × (sender.number ≡ length receivers)
sender_is basis passes receivers sender parted =
    let there : length receivers < length passes = omega (arith, ap length parted.parts, length_push receivers sender) in
    let same : get_or passes (length receivers) sender ≡ sender =
    ap (λ (l : List PassValue). get_or l (length receivers) sender) parted.parts ∙ get_or_push receivers sender sender (length receivers) (λ _. length receivers) in
    subst (λ (p : PassValue). IsPassOf basis p × (p.number ≡ length receivers)) same (parted.all.each (length receivers) sender there)

-- the passes that the basis is closed with
pub closing_are : (basis : BasisValue) (passes receivers now : List PassValue) (sender met final : PassValue) → AreParted basis passes receivers sender
    → HaveMet receivers now met → SeesOn sender met → SeesOn met final → AreAllPasses basis (now ++ final ∷ [])
closing_are basis passes receivers now sender met final parted have sees later =
    let own = sender_is basis passes receivers sender parted in
    let through : SeesOn sender final = sees_through sender met final sees later in record {
      count = length_push now final ∙ ap (λ (n : ℕ). n + 1) have.count ∙ sym (length_push receivers sender) ∙ ap length (sym parted.parts) ∙ parted.all.count;
      each = each_push (λ (number : ℕ) (p : PassValue). IsPassOf basis p × (p.number ≡ number)) now final
          (λ number other low.
          let there : number < length receivers = subst (λ (n : ℕ). number < n) have.count low in
          let was = receiver_at basis passes receivers sender other number parted there in
          let met_there = have.each number other there in
          (is_still_of basis (get_or receivers number other) (get_or now number other) was.1 met_there.sees, met_there.sees.number ∙ was.2))
          (is_still_of basis sender final own.0 through, through.number ∙ own.1 ∙ sym have.count);
    }

kept_of_receiver : (now : List PassValue) (final other : PassValue) (number : ℕ) → number < length now
    → kept_by (now ++ final ∷ []) number ≡ (get_or now number other).calls
kept_of_receiver now final other number low =
    let there : number < length (now ++ final ∷ []) = omega (arith, length_push now final) in
    get_or-map (λ (p : PassValue). p.calls) (now ++ final ∷ []) number other [] there
    ∙ ap (λ (p : PassValue). p.calls) (get_or_append_left now (final ∷ []) other number low)

kept_of_sender : (now : List PassValue) (final : PassValue) (number : ℕ) → length now ≡ number → kept_by (now ++ final ∷ []) number ≡ final.calls
kept_of_sender now final number is =
    let there : number < length (now ++ final ∷ []) = omega (arith, length_push now final, is) in
    get_or-map (λ (p : PassValue). p.calls) (now ++ final ∷ []) number final [] there
    ∙ ap (λ (p : PassValue). p.calls) (get_or_push now final final number is)

fits_of : (basis : BasisValue) (closing : List PassValue) (closed : Closed) → AreParameters basis.parameters → IsCloseOf basis closing closed
    → All (Fits basis.parameters.equations.value.k basis.parameters.equations.value.s) (packets_of closed.records.items)
fits_of basis closing closed are closes =
    subst (λ (n : ℕ). All (Fits n basis.parameters.equations.value.s) (packets_of closed.records.items)) are.k
    (subst (λ (n : ℕ). All (Fits basis.parameters.k n) (packets_of closed.records.items)) are.s closes.fit)

-- each record's caller is a receiver that has seen it, and so has the sender, which has met it
pub record_seen : RecordLaws → (basis : BasisValue) (receivers now : List PassValue) (met final : PassValue) (closed : Closed) (i : ℕ) (e : Record)
    → AreParameters basis.parameters → AreAllPasses basis (now ++ final ∷ []) → HaveMet receivers now met → AreQuiet final.calls
    → IsCloseOf basis (now ++ final ∷ []) closed → i < length closed.records.items → ((get_or closed.records.items i e).caller < length now) × (i < length met.seen)
record_seen laws basis receivers now met final closed i e are all have quiet closes low =
    let closing : List PassValue = now ++ final ∷ [] in
    let records : List Record = closed.records.items in
    let equations = basis.parameters.equations.value in
    let caller : ℕ = (get_or records i e).caller in
    let listed : caller < length closing = closes.listed i e low in
    let numbered : (at : ℕ) (other : PassValue) → at < length closing → (get_or closing at other).number ≡ at =
    λ at other in_range. (all.each at other in_range).1 in
    let given = given_in closing caller numbered listed in
    elim (cases_lt caller (length now)) as (λ _. (caller < length now) × (i < length met.seen)) [
      | inl receiver ↦
          let pass : PassValue = some_of now caller receiver in
          let has_met = have.each caller pass (subst (λ (n : ℕ). caller < n) have.count receiver) in
          let at_most : HaveSeenAtMost (length (get_or now caller pass).seen) (kept_by closing caller) =
          subst (HaveSeenAtMost (length (get_or now caller pass).seen)) (sym (kept_of_receiver now final pass caller receiver)) has_met.at_most in
          let within = has_met.within in
          let own : i < length (get_or now caller pass).seen =
          own_seen laws equations (given_by (map calls_of closing)) records caller (length (get_or now caller pass).seen) i (kept_by closing caller) e closes.legal given
          (fits_of basis closing closed are closes) at_most low refl in
          (receiver, omega arith)
      | inr beyond ↦
          let is : length now ≡ caller = omega (arith, length_push now final) in
          absurd (quiet_has_none laws equations (given_by (map calls_of closing)) records caller i (kept_by closing caller) e closes.legal given
          (subst AreQuiet (sym (kept_of_sender now final caller is)) quiet) low refl)
    ]

-- so the sender has seen all records once it has met the receivers
pub all_seen : RecordLaws → (basis : BasisValue) (receivers now : List PassValue) (met final : PassValue) (closed : Closed)
    → AreParameters basis.parameters → AreAllPasses basis (now ++ final ∷ []) → HaveMet receivers now met → AreQuiet final.calls
    → IsCloseOf basis (now ++ final ∷ []) closed → length closed.records.items ≤ length met.seen
all_seen laws basis receivers now met final closed are all have quiet closes =
    let records : List Record = closed.records.items in
    elim (cases_lt 0 (length records)) as (λ _. length records ≤ length met.seen) [
      | inl some ↦
          let low : length records - 1 < length records = omega arith in
          let seen = (record_seen laws basis receivers now met final closed (length records - 1) (some_of records (length records - 1) low) are all have quiet closes low).1 in
          omega arith
      | inr none ↦ omega arith
    ]

-- before its draws the sender has seen just these records, and after them no more
pub record SeesAll (records : List Record) (met final : PassValue) : Type 0 where
  pub met_is : met.seen ≡ records
  pub same : length final.seen ≡ length met.seen

pub sees_all : RecordLaws → (basis : BasisValue) (receivers now : List PassValue) (met final : PassValue) (closed : Closed)
    → AreParameters basis.parameters → AreAllPasses basis (now ++ final ∷ []) → HaveMet receivers now met → AreQuiet final.calls → SeesOn met final
    → IsCloseOf basis (now ++ final ∷ []) closed → SeesAll closed.records.items met final
sees_all laws basis receivers now met final closed are all have quiet later closes =
    let records : List Record = closed.records.items in
    let there : length now < length (now ++ final ∷ []) = omega (arith, length_push now final) in
    let prefix : final.seen ≡ take (length final.seen) records =
    subst (λ (p : PassValue). p.seen ≡ take (length p.seen) records) (get_or_push now final final (length now) (λ _. length now)) (closes.seen (length now) final there) in
    let at_most : length final.seen ≤ length records = omega (arith, ap length prefix, length-take (length final.seen) records) in
    let at_least = all_seen laws basis receivers now met final closed are all have quiet closes in
    let more = sees_more met final later in
    let same : length final.seen ≡ length met.seen = omega arith in
    record {
      met_is = sym (sees_same met final later same) ∙ prefix ∙ take_all (length final.seen) records (omega arith);
      same = same;
    }

-- the basis was closed once the sender had drawn
pub is_relay : RecordLaws → (sending : Sending) (basis : BasisValue) (passes receivers now : List PassValue) (sender met final : PassValue) (closed : Closed) (sent : List SentDraw)
    → AreParameters basis.parameters → AreParted basis passes receivers sender → HaveMet receivers now met → SeesOn sender met
    → HasDrawn basis.parameters.k basis.parameters.s sending basis.parameters.generation met final sent → IsCloseOf basis (now ++ final ∷ []) closed
    → IsRelayOf sending basis passes closed
is_relay laws sending basis passes receivers now sender met final closed sent are parted have sees drawn closes =
    let closing : List PassValue = now ++ final ∷ [] in
    let all = closing_are basis passes receivers now sender met final parted have sees drawn.sees in
    let seen = sees_all laws basis receivers now met final closed are all have drawn.quiet drawn.sees closes in
    let counted : length passes ≡ length now + 1 = ap length parted.parts ∙ length_push receivers sender ∙ ap (λ (n : ℕ). n + 1) (sym have.count) in
    let count : length closing ≡ length passes = length_push now final ∙ sym counted in
    record {
      closing = closing;
      count = count;
      numbers = λ number other low. (all.each number other (subst (λ (n : ℕ). number < n) (sym count) low)).1;
      receivers = λ number other low.
          let there : number < length receivers = omega (arith, have.count) in
          let here : number < length now = omega arith in
          ap (λ (p : PassValue). p.calls) (get_or_append_left now (final ∷ []) other number here)
          ∙ (have.each number other there).quiet.calls
          ∙ ap (λ (p : PassValue). p.calls) (sym (receiver_at basis passes receivers sender other number parted there).0);
      sender = λ number other is.
          ap (λ (p : PassValue). p.calls) (get_or_push now final other number (omega arith))
          ∙ drawn.calls seen.same
          ∙ ap (λ (l : List Record). draws_of sending basis.parameters.generation (length l)) seen.met_is;
      closes = closes;
      listed = λ i e low.
          let listed = (record_seen laws basis receivers now met final closed i e are all have drawn.quiet closes low).0 in omega arith;
    }

pub sent_is : RecordLaws → (sending : Sending) (basis : BasisValue) (passes receivers now : List PassValue) (sender met final : PassValue) (closed : Closed) (sent : List SentDraw)
    → AreParameters basis.parameters → AreParted basis passes receivers sender → HaveMet receivers now met → SeesOn sender met
    → HasDrawn basis.parameters.k basis.parameters.s sending basis.parameters.generation met final sent → IsCloseOf basis (now ++ final ∷ []) closed
    → sent ≡ sent_of basis.parameters.k basis.parameters.s sending basis.parameters.generation closed.records.items
sent_is laws sending basis passes receivers now sender met final closed sent are parted have sees drawn closes =
    let all = closing_are basis passes receivers now sender met final parted have sees drawn.sees in
    let seen = sees_all laws basis receivers now met final closed are all have drawn.quiet drawn.sees closes in
    drawn.draws seen.same ∙ ap (sent_of basis.parameters.k basis.parameters.s sending basis.parameters.generation) seen.met_is

-- the last pass has made no call and has room
pub silent_sender : (coded : ℕ) (passes receivers : List PassValue) (sender : PassValue) → passes ≡ receivers ++ sender ∷ [] → HasSender coded passes
    → (sender.calls ≡ []) × (coded ≤ sender.spare)
silent_sender coded passes receivers sender parts has =
    let last : length receivers + 1 ≡ length passes = omega (arith, ap length parts, length_push receivers sender) in
    let same : get_or passes (length receivers) sender ≡ sender =
    ap (λ (l : List PassValue). get_or l (length receivers) sender) parts ∙ get_or_push receivers sender sender (length receivers) (λ _. length receivers) in
    subst (λ (p : PassValue). (p.calls ≡ []) × (coded ≤ p.spare)) same
    (has.calls (length receivers) sender last, has.spare (length receivers) sender last)
