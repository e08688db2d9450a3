-- Events have one replay.
use Rattle.std.proofs.Common.{◌≡◌, ℕ, List, [], ◌∷◌, ◌++◌, Some, None, refl, sym, ap, ◌∙◌, subst, arith}
use Rattle.std.specs.List.{All}
use Rattle.std.proofs.lemmas.List.{append-nil, map-append}
use Rattle.std.proofs.lemmas.List.Elements.{All-head, All-nil, All-push, All-tail}
use Rattle.linear_spec.specs.declared.packet.Packet.{Packet}
use Rattle.linear_spec.specs.declared.record.Record.{Record}
use Rattle.linear_spec.specs.declared.record.Drawn.TheVariants.{Sent, Nothing}
use Rattle.linear_spec.specs.declared.reply.Reply.{Reply}
use Rattle.linear_spec.specs.declared.reply.Reply.TheVariants.{FailedCheck, Innovative, NotInnovative, Conflicting}
use Rattle.linear_spec.specs.Packet.{Fits}
use Rattle.linear_spec.specs.RowLaws.{CaseLaws}
use Rattle.linear_spec.specs.SequentialBasis.{IsCaseReply, packets_of, recorded}
use Rattle.basis_core.specs.declared.trace.Answer.{Answer}
use Rattle.basis_core.specs.declared.trace.Answer.TheVariants.{Offered, Drew}
use Rattle.basis_core.specs.declared.trace.Event.{Event}
use Rattle.basis_core.specs.declared.trace.Event.TheVariants.{Offer, Draw}
use Rattle.basis_core.specs.Machine.{FitsEvent, IsAnswerTo, IsReplayAfter, caller_of, calls_so_far, new_records}

module _ (laws : CaseLaws) (k s : ℕ) where
  one_reply : (front : List Packet) (packet : Packet) (reply other : Reply) → All (Fits k s) front → Fits k s packet → IsCaseReply k s front packet reply → IsCaseReply k s front packet other → other ≡ reply
  one_reply front packet (FailedCheck check at) other fit fits one two = absurd one
  one_reply front packet (Innovative at) (FailedCheck check place) fit fits one two = absurd two
  one_reply front packet (Innovative at) (Innovative place) fit fits one two = ap Innovative (two.1 ∙ sym one.1)
  one_reply front packet (Innovative at) (NotInnovative place) fit fits one two = absurd (one.0 (laws.within_follows k s front packet fit fits two.0))
  one_reply front packet (Innovative at) (Conflicting place) fit fits one two = absurd (two.0.0 one.0)
  one_reply front packet (NotInnovative at) (FailedCheck check place) fit fits one two = absurd two
  one_reply front packet (NotInnovative at) (Innovative place) fit fits one two = absurd (two.0 (laws.within_follows k s front packet fit fits one.0))
  one_reply front packet (NotInnovative at) (NotInnovative place) fit fits one two = ap NotInnovative (two.1 ∙ sym one.1)
  one_reply front packet (NotInnovative at) (Conflicting place) fit fits one two = absurd (two.0.1 one.0)
  one_reply front packet (Conflicting at) (FailedCheck check place) fit fits one two = absurd two
  one_reply front packet (Conflicting at) (Innovative place) fit fits one two = absurd (one.0.0 two.0)
  one_reply front packet (Conflicting at) (NotInnovative place) fit fits one two = absurd (one.0.1 two.0)
  one_reply front packet (Conflicting at) (Conflicting place) fit fits one two = ap Conflicting (two.1 ∙ sym one.1)

  one_answer : (front : List Packet) (event : Event) (answer other : Answer) → All (Fits k s) front → FitsEvent k s event → IsAnswerTo k s front event answer → IsAnswerTo k s front event other → other ≡ answer
  one_answer front (Offer caller tag None packet) (Offered reply) (Offered other) fit fits one two = ap Offered (one_reply front packet reply other fit fits one two)
  one_answer front (Offer caller tag (Some check) packet) (Offered reply) (Offered other) fit fits one two = ap Offered (two ∙ sym one)
  one_answer front (Offer caller tag failed packet) (Drew drawn) other fit fits one two = absurd one
  one_answer front (Offer caller tag None packet) (Offered reply) (Drew drawn) fit fits one two = absurd two
  one_answer front (Offer caller tag (Some check) packet) (Offered reply) (Drew drawn) fit fits one two = absurd two
  one_answer front (Draw caller tag) (Offered reply) other fit fits one two = absurd one
  one_answer front (Draw caller tag) (Drew (Sent at)) (Offered reply) fit fits one two = absurd two
  one_answer front (Draw caller tag) (Drew Nothing) (Offered reply) fit fits one two = absurd two
  one_answer front (Draw caller tag) (Drew (Sent at)) (Drew (Sent place)) fit fits one two = ap (λ (n : ℕ). Drew (Sent n)) (two.1 ∙ sym one.1)
  one_answer front (Draw caller tag) (Drew (Sent at)) (Drew Nothing) fit fits one two = absurd (omega (one.0, two, arith))
  one_answer front (Draw caller tag) (Drew Nothing) (Drew (Sent at)) fit fits one two = absurd (omega (two.0, one, arith))
  one_answer front (Draw caller tag) (Drew Nothing) (Drew Nothing) fit fits one two = refl

  -- the records still fit after an event
  recorded_fit : (before : List Record) (r : Record) (reply : Reply) → All (Fits k s) (packets_of before) → Fits k s r.packet → All (Fits k s) (packets_of (before ++ recorded r reply))
  recorded_fit before r (FailedCheck check at) fit fits = subst (λ (l : List Record). All (Fits k s) (packets_of l)) (sym (append-nil before)) fit
  recorded_fit before r (Innovative at) fit fits = subst (All (Fits k s)) (sym (map-append (λ (x : Record). x.packet) before (r ∷ []))) (All-push (Fits k s) (packets_of before) r.packet fit fits)
  recorded_fit before r (NotInnovative at) fit fits = subst (λ (l : List Record). All (Fits k s) (packets_of l)) (sym (append-nil before)) fit
  recorded_fit before r (Conflicting at) fit fits = subst (λ (l : List Record). All (Fits k s) (packets_of l)) (sym (append-nil before)) fit

  still_fit : (callers : List ℕ) (before : List Record) (event : Event) (answer : Answer) → All (Fits k s) (packets_of before) → FitsEvent k s event → All (Fits k s) (packets_of (before ++ new_records callers event answer))
  still_fit callers before (Offer caller tag failed packet) (Offered reply) fit fits = recorded_fit before (record { caller = caller; call = calls_so_far callers caller; packet = packet }) reply fit fits
  still_fit callers before (Offer caller tag failed packet) (Drew drawn) fit fits = subst (λ (l : List Record). All (Fits k s) (packets_of l)) (sym (append-nil before)) fit
  still_fit callers before (Draw caller tag) answer fit fits = subst (λ (l : List Record). All (Fits k s) (packets_of l)) (sym (append-nil before)) fit

  one_replay_after : (callers : List ℕ) (before : List Record) (events : List Event) (answers others : List Answer) (records more : List Record) → All (Fits k s) (packets_of before) → All (FitsEvent k s) events → IsReplayAfter k s callers before events answers records → IsReplayAfter k s callers before events others more → (others ≡ answers) × (more ≡ records)
  one_replay_after callers before [] [] [] records more fit fits one two = (refl, two ∙ sym one)
  one_replay_after callers before [] [] (b ∷ others) records more fit fits one two = absurd two
  one_replay_after callers before [] (a ∷ answers) others records more fit fits one two = absurd one
  one_replay_after callers before (event ∷ events) [] others records more fit fits one two = absurd one
  one_replay_after callers before (event ∷ events) (a ∷ answers) [] records more fit fits one two = absurd two
  one_replay_after callers before (event ∷ events) (a ∷ answers) (b ∷ others) records more fit fits one two =
      let here = All-head (FitsEvent k s) event events fits in
      let same : b ≡ a = one_answer (packets_of before) event a b fit here one.0 two.0 in
      let next = subst (λ (x : Answer). IsReplayAfter k s (callers ++ caller_of event ∷ []) (before ++ new_records callers event x) events others more) same two.1 in
      let rest = one_replay_after (callers ++ caller_of event ∷ []) (before ++ new_records callers event a) events answers others records more (still_fit callers before event a fit here) (All-tail (FitsEvent k s) event events fits) one.1 next in
      (ap (λ (x : Answer). x ∷ others) same ∙ ap (λ (l : List Answer). a ∷ l) rest.0, rest.1)

  pub one_replay : (events : List Event) (answers others : List Answer) (records more : List Record) → All (FitsEvent k s) events → IsReplayAfter k s [] [] events answers records → IsReplayAfter k s [] [] events others more → (others ≡ answers) × (more ≡ records)
  one_replay events answers others records more fits one two = one_replay_after [] [] events answers others records more (All-nil (Fits k s)) fits one two
