-- The machine over events: what an event is answered, and what a list of events makes of the empty basis.
-- event: a call that is to be answered. failed: of an offer, the first check that the packet fails, or nothing where it
-- passes: the event says so, and the machine believes it. callers: who made the calls so far, in order. k, s: the numbers
-- of coefficients and of payload symbols of each packet.
use Rattle.std.specs.Prelude.{◌≡◌, ℕ, ◌<◌, ◌^◌, ◌==◌, List, [], ◌∷◌, ◌++◌, length, Option, Some, None}
use Rattle.std.specs.List.{All, filter}
use Rattle.linear_spec.specs.declared.packet.Packet.{Packet}
use Rattle.linear_spec.specs.declared.record.Record.{Record}
use Rattle.linear_spec.specs.declared.reply.Reply.{Reply}
use Rattle.linear_spec.specs.declared.reply.Reply.TheVariants.{FailedCheck}
use Rattle.linear_spec.specs.Packet.{Fits}
use Rattle.linear_spec.specs.Rows.{StandForAll}
use Rattle.linear_spec.specs.SequentialBasis.{packets_of, IsCaseReply, recorded}
use Rattle.basis_core.specs.declared.trace.Answer.{Answer}
use Rattle.basis_core.specs.declared.trace.Answer.TheVariants.{Offered, Drew}
use Rattle.basis_core.specs.declared.trace.Event.{Event}
use Rattle.basis_core.specs.declared.trace.Event.TheVariants.{Offer, Draw}
use Rattle.basis_core.specs.Calls.{IsDrawnAt}

-- what contracts see of the machine: its packets' lengths, who made the calls so far, and the records
pub record State : Type 0 where
  pub k : ℕ
  pub s : ℕ
  pub callers : List ℕ
  pub records : List Record

-- k is a number of 16 bits, the packets fit, and the rows stand for them
pub record IsSound (k s : ℕ) (records : List Record) (rows : List Packet) : Type 0 where
  pub narrow : k < 2 ^ 16
  pub fit : All (Fits k s) (packets_of records)
  pub stand : StandForAll k s (packets_of records) rows

abbrev pub caller_of : Event → ℕ
caller_of (Offer caller tag failed packet) = caller
caller_of (Draw caller tag) = caller

-- an offered packet has the lengths
abbrev pub FitsEvent : ℕ → ℕ → Event → Type 0
FitsEvent k s (Offer caller tag failed packet) = Fits k s packet
FitsEvent k s (Draw caller tag) = Unit {0}

-- how many of the calls so far a caller made
abbrev pub calls_so_far : List ℕ → ℕ → ℕ
calls_so_far callers caller = length (filter (λ other. other == caller) callers)

-- the reply to an offer at a front: the check that it failed, or else its case
abbrev pub IsReplyAt : ℕ → ℕ → List Packet → Option ℕ → Packet → Reply → Type 0
IsReplyAt k s front None packet reply = IsCaseReply k s front packet reply
IsReplyAt k s front (Some check) packet reply = reply ≡ FailedCheck check (length front)

-- what the sequential basis answers to an event at a front
abbrev pub IsAnswerTo : ℕ → ℕ → List Packet → Event → Answer → Type 0
IsAnswerTo k s front (Offer caller tag failed packet) (Offered reply) = IsReplyAt k s front failed packet reply
IsAnswerTo k s front (Offer caller tag failed packet) (Drew drawn) = ⊥
IsAnswerTo k s front (Draw caller tag) (Offered reply) = ⊥
IsAnswerTo k s front (Draw caller tag) (Drew drawn) = IsDrawnAt front drawn

-- the record that an event adds by its answer, if any: it is numbered by how many calls its caller had made before
abbrev pub new_records : List ℕ → Event → Answer → List Record
new_records callers (Offer caller tag failed packet) (Offered reply) =
    recorded (record { caller = caller; call = calls_so_far callers caller; packet = packet }) reply
new_records callers (Offer caller tag failed packet) (Drew drawn) = []
new_records callers (Draw caller tag) answer = []

-- after calls of these callers, and with these records, events are answered in turn, and these are the records at the end
abbrev pub IsReplayAfter : ℕ → ℕ → List ℕ → List Record → List Event → List Answer → List Record → Type 0
IsReplayAfter k s callers before [] [] after = after ≡ before
IsReplayAfter k s callers before [] (answer ∷ answers) after = ⊥
IsReplayAfter k s callers before (event ∷ events) [] after = ⊥
IsReplayAfter k s callers before (event ∷ events) (answer ∷ answers) after =
    IsAnswerTo k s (packets_of before) event answer
    × IsReplayAfter k s (callers ++ caller_of event ∷ []) (before ++ new_records callers event answer) events answers after

-- the same from the empty basis on
abbrev pub IsReplay : ℕ → ℕ → List Event → List Answer → List Record → Type 0
IsReplay k s events answers records = IsReplayAfter k s [] [] events answers records

-- how many of the events are of a caller
abbrev pub events_of : List Event → ℕ → ℕ
events_of events caller = length (filter (λ event. caller_of event == caller) events)
