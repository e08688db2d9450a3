-- Calls that are answered over all the records there are.
use Rattle.std.proofs.Common.{◌≡◌, ℕ, ◌+◌, ◌≤◌, ◌<◌, ◌^◌, List, [], ◌∷◌, ◌++◌, length, Some, None, refl, sym, ◌∙◌, subst, arith}
use Rattle.std.proofs.lemmas.List.{append-nil, length-append, length-map, take_all}
use Rattle.linear_spec.specs.declared.equations.Equations.{Equations}
use Rattle.linear_spec.specs.declared.packet.Packet.{Packet}
use Rattle.linear_spec.specs.declared.record.Record.{Record}
use Rattle.linear_spec.specs.declared.record.Drawn.TheVariants.{Sent, Nothing}
use Rattle.linear_spec.specs.declared.reply.Reply.TheVariants.{FailedCheck, Innovative, NotInnovative, Conflicting}
use Rattle.linear_spec.specs.SequentialBasis.{packets_of}
use Rattle.basis_core.specs.Calls.{KeptCall, KeptOffer, KeptDraw, point_of, recorded_by, seen_after, AreInOrderFrom, AreInOrder, IsAnsweredAt}
use Rattle.basis_core.specs.Merge.{Given, caller_numbers}
use Rattle.basis_core.specs.Legal.{IsLegalHistory, Gains, IsAnsweredOver, IsNext, HaveSeenAtMost, record_by}
use Rattle.basis_core.specs.HistoryLaws.{HistoryLaws}

-- a call whose point is not below what all calls before have seen stands last in order
in_order_more : (calls : List KeptCall) (call : KeptCall) (n seen : ℕ) → AreInOrderFrom calls seen → HaveSeenAtMost n calls → seen ≤ n → n ≤ point_of call → AreInOrderFrom (calls ++ call ∷ []) seen
in_order_more [] call n seen order most low high = (omega arith, tt)
in_order_more (first ∷ calls) call n seen order most low high = (order.0, in_order_more calls call n (seen_after first) order.1 most.1 most.0 high)

pub seen_grows : (calls : List KeptCall) (n m : ℕ) → HaveSeenAtMost n calls → n ≤ m → HaveSeenAtMost m calls
seen_grows [] n m most low = tt
seen_grows (first ∷ calls) n m most low = let at : seen_after first ≤ n = most.0 in (omega arith, seen_grows calls n m most.1 low)

seen_more : (calls : List KeptCall) (call : KeptCall) (m : ℕ) → HaveSeenAtMost m calls → seen_after call ≤ m → HaveSeenAtMost m (calls ++ call ∷ [])
seen_more [] call m most here = (here, tt)
seen_more (first ∷ calls) call m most here = (most.0, seen_more calls call m most.1 here)

-- the point of an answer is the number of the front's packets
point_at : (equations : Equations) (front : List Packet) (call : KeptCall) → IsAnsweredAt equations front call → point_of call ≡ length front
point_at equations front (KeptOffer tag packet (FailedCheck check at)) is = is.1
point_at equations front (KeptOffer tag packet (Innovative at)) is = is.1.1
point_at equations front (KeptOffer tag packet (NotInnovative at)) is = is.1.1
point_at equations front (KeptOffer tag packet (Conflicting at)) is = is.1.1
point_at equations front (KeptDraw tag (Sent at)) is = is.1
point_at equations front (KeptDraw tag Nothing) is = sym is

point_over : (equations : Equations) (records : List Record) (call : KeptCall) → IsAnsweredAt equations (packets_of records) call → point_of call ≡ length records
point_over equations records call is = point_at equations (packets_of records) call is ∙ length-map records (λ (r : Record). r.packet)

over : (equations : Equations) (records : List Record) (call : KeptCall) → IsAnsweredAt equations (packets_of records) call → IsAnsweredOver equations records call
over equations records call is =
    let point = point_over equations records call is in
    let long = length-map records (λ (r : Record). r.packet) in
    record {
      within = omega arith;
      answered = subst (λ (f : List Packet). IsAnsweredAt equations f call) (sym (take_all (point_of call) (packets_of records) (omega arith))) is;
    }

in_order : (equations : Equations) (given : Given) (records : List Record) (number : ℕ) (calls : List KeptCall) (call : KeptCall) → IsLegalHistory equations given records → given number ≡ Some calls → HaveSeenAtMost (length records) calls → point_of call ≡ length records → AreInOrder (calls ++ call ∷ [])
in_order equations given records number calls call legal some most point =
    in_order_more calls call (length records) 0 (legal.in_order number calls some) most (omega arith) (omega arith)

below : (number : ℕ) → number < caller_numbers → number < 2 ^ 32
unfolding caller_numbers
below number is = is

-- as many records as the call counts for
added : (number count : ℕ) (call : KeptCall) → point_of call + length (record_by number count call) ≡ seen_after call
added number count (KeptOffer tag packet (FailedCheck check at)) = refl
added number count (KeptOffer tag packet (Innovative at)) = refl
added number count (KeptOffer tag packet (NotInnovative at)) = refl
added number count (KeptOffer tag packet (Conflicting at)) = refl
added number count (KeptDraw tag drawn) = refl

-- ---- the law, from the law of histories

module _ (histories : HistoryLaws) where
  -- a call that recorded nothing
  still : (equations : Equations) (before after : Given) (records : List Record) (number : ℕ) (calls : List KeptCall) (call : KeptCall) → IsLegalHistory equations before records → Gains before after number calls call → HaveSeenAtMost (length records) calls → IsAnsweredAt equations (packets_of records) call → recorded_by call ≡ None → IsLegalHistory equations after (records ++ [])
  still equations before after records number calls call legal gains most is none =
      rw (append-nil records) (histories.quiet equations before after records number calls call legal gains none (in_order equations before records number calls call legal gains.had most (point_over equations records call is)) (over equations records call is))

  pub step : (equations : Equations) (before after : Given) (records : List Record) (number : ℕ) (calls : List KeptCall) (call : KeptCall) → IsLegalHistory equations before records → Gains before after number calls call → HaveSeenAtMost (length records) calls → IsAnsweredAt equations (packets_of records) call → IsLegalHistory equations after (records ++ record_by number (length calls) call)
  step equations before after records number calls (KeptOffer tag packet (FailedCheck check at)) legal gains most is =
      still equations before after records number calls (KeptOffer tag packet (FailedCheck check at)) legal gains most is refl
  step equations before after records number calls (KeptOffer tag packet (Innovative at)) legal gains most is =
      let point = point_over equations records (KeptOffer tag packet (Innovative at)) is in
      let next : IsNext equations records (record { caller = number; call = length calls; packet = packet }) = record { passes = is.0; fresh = is.1.0; number = below number (legal.numbers number calls gains.had) } in
      histories.own_record equations before after records (record { caller = number; call = length calls; packet = packet }) tag calls legal next
      (subst (λ (n : ℕ). Gains before after number calls (KeptOffer tag packet (Innovative n))) point gains) refl
      (subst (λ (n : ℕ). AreInOrder (calls ++ KeptOffer tag packet (Innovative n) ∷ [])) point (in_order equations before records number calls (KeptOffer tag packet (Innovative at)) legal gains.had most point))
  step equations before after records number calls (KeptOffer tag packet (NotInnovative at)) legal gains most is =
      still equations before after records number calls (KeptOffer tag packet (NotInnovative at)) legal gains most is refl
  step equations before after records number calls (KeptOffer tag packet (Conflicting at)) legal gains most is =
      still equations before after records number calls (KeptOffer tag packet (Conflicting at)) legal gains most is refl
  step equations before after records number calls (KeptDraw tag drawn) legal gains most is =
      still equations before after records number calls (KeptDraw tag drawn) legal gains most is refl

pub seen : (equations : Equations) (records : List Record) (number count : ℕ) (calls : List KeptCall) (call : KeptCall) → HaveSeenAtMost (length records) calls → IsAnsweredAt equations (packets_of records) call → HaveSeenAtMost (length (records ++ record_by number count call)) (calls ++ call ∷ [])
seen equations records number count calls call most is =
    let point = point_over equations records call is in
    let long = length-append records (record_by number count call) in
    let one = added number count call in
    seen_more calls call (length (records ++ record_by number count call)) (seen_grows calls (length records) (length (records ++ record_by number count call)) most (omega arith)) (omega arith)

pub others : (records more : List Record) (calls : List KeptCall) → HaveSeenAtMost (length records) calls → HaveSeenAtMost (length (records ++ more)) calls
others records more calls most =
    let long = length-append records more in
    seen_grows calls (length records) (length (records ++ more)) most (omega arith)
