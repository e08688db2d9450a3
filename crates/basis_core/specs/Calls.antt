-- Calls on a basis as they are kept, and what each caller had seen.
-- tag: the caller's own number for a call; nothing here reads it. offer: a packet handed in, answered by a reply. draw: the
-- question how many records there are to combine. recording: answered `Innovative`, so that the packet became a record.
-- point: the number of records that an answer speaks of. front: the packets that were recorded before a call, in order.
use Rattle.std.specs.Prelude.{◌≡◌, ℕ, ◌+◌, ◌<◌, ◌≤◌, List, [], ◌∷◌, length, Option, Some, None}
use Rattle.linear_spec.specs.declared.equations.Equations.{Equations}
use Rattle.linear_spec.specs.declared.packet.Packet.{Packet}
use Rattle.linear_spec.specs.declared.record.Drawn.{Drawn}
use Rattle.linear_spec.specs.declared.record.Drawn.TheVariants.{Sent, Nothing}
use Rattle.linear_spec.specs.declared.reply.Reply.{Reply}
use Rattle.linear_spec.specs.declared.reply.Reply.TheVariants.{FailedCheck, Innovative, NotInnovative, Conflicting}
use Rattle.linear_spec.specs.SequentialBasis.{IsReply}
use Rattle.basis_core.specs.declared.trace.Answer.TheVariants.{Offered, Drew}
use Rattle.basis_core.specs.declared.trace.Call.{Call}

-- a call with its tag and its answer, and for an offer its packet
pub data KeptCall : Type 0 where
  KeptOffer : ℕ → Packet → Reply → KeptCall
  KeptDraw : ℕ → Drawn → KeptCall

-- the call without the packet, as a trace has it
abbrev pub call_of : KeptCall → Call
call_of (KeptOffer tag packet reply) = record { tag = tag; answer = Offered reply }
call_of (KeptDraw tag drawn) = record { tag = tag; answer = Drew drawn }

abbrev pub point_of_reply : Reply → ℕ
point_of_reply (FailedCheck check front) = front
point_of_reply (Innovative at) = at
point_of_reply (NotInnovative front) = front
point_of_reply (Conflicting front) = front

abbrev pub point_of_drawn : Drawn → ℕ
point_of_drawn (Sent front) = front
point_of_drawn Nothing = 0

-- the number of records that a call's answer speaks of
abbrev pub point_of : KeptCall → ℕ
point_of (KeptOffer tag packet reply) = point_of_reply reply
point_of (KeptDraw tag drawn) = point_of_drawn drawn

-- the packet, where the reply says that it was recorded
abbrev pub recorded_at_reply : Packet → Reply → Option Packet
recorded_at_reply packet (FailedCheck check front) = None
recorded_at_reply packet (Innovative at) = Some packet
recorded_at_reply packet (NotInnovative front) = None
recorded_at_reply packet (Conflicting front) = None

-- the packet that a call recorded, if it did
abbrev pub recorded_by : KeptCall → Option Packet
recorded_by (KeptOffer tag packet reply) = recorded_at_reply packet reply
recorded_by (KeptDraw tag drawn) = None

abbrev pub count_of : Option Packet → ℕ
count_of None = 0
count_of (Some packet) = 1

-- how many records a caller has seen once its call is answered: those before the call, and its own where it recorded
abbrev pub seen_after : KeptCall → ℕ
seen_after call = point_of call + count_of (recorded_by call)

-- a caller that has seen so many records makes these calls: no point falls below what it has seen
abbrev pub AreInOrderFrom : List KeptCall → ℕ → Type 0
AreInOrderFrom [] seen = Unit {0}
AreInOrderFrom (call ∷ calls) seen = (seen ≤ point_of call) × AreInOrderFrom calls (seen_after call)

-- one caller's calls are in order: none has its point before what the caller had seen by its earlier calls
abbrev pub AreInOrder : List KeptCall → Type 0
AreInOrder calls = AreInOrderFrom calls 0

-- what a draw is answered at a front
abbrev pub IsDrawnAt : List Packet → Drawn → Type 0
IsDrawnAt front (Sent at) = (0 < length front) × (at ≡ length front)
IsDrawnAt front Nothing = length front ≡ 0

-- what the sequential basis answers at a front, whoever asks: to an offer the first check that the packet fails, or else
-- its case there; to a draw the number of records
abbrev pub IsAnsweredAt : Equations → List Packet → KeptCall → Type 0
IsAnsweredAt equations front (KeptOffer tag packet reply) = IsReply equations front packet reply
IsAnsweredAt equations front (KeptDraw tag drawn) = IsDrawnAt front drawn
