-- The sequential basis: what one thread would keep and answer. Its state is a list of records; it knows no rows and no
-- pivots.
-- record: a packet that was kept, with its caller and the number of the caller's call. front: the packets of the records
-- that there are. at: their number. offer: a packet handed in, which is answered by a reply. k, s: the numbers of
-- coefficients and of payload symbols of each packet.
use Rattle.std.specs.Prelude.{◌≡◌, ℕ, List, [], ◌∷◌, length, map}
use Rattle.linear_spec.specs.declared.equations.Equations.{Equations}
use Rattle.linear_spec.specs.declared.packet.Packet.{Packet}
use Rattle.linear_spec.specs.declared.record.Record.{Record}
use Rattle.linear_spec.specs.declared.reply.Reply.{Reply}
use Rattle.linear_spec.specs.declared.reply.Reply.TheVariants.{FailedCheck, Innovative, NotInnovative, Conflicting}
use Rattle.linear_spec.specs.Passing.{Passes, IsFirstFailing}
use Rattle.linear_spec.specs.Cases.{IsFresh, IsWithin, IsConflicting}

-- the packets of records, in their order
abbrev pub packets_of : List Record → List Packet
packets_of records = map (λ record'. record'.packet) records

-- the reply to a packet that passes: its case at the front, with the number of the front's packets
abbrev pub IsCaseReply : ℕ → ℕ → List Packet → Packet → Reply → Type 0
IsCaseReply k s front packet (FailedCheck check at) = ⊥
IsCaseReply k s front packet (Innovative at) = IsFresh k front packet × (at ≡ length front)
IsCaseReply k s front packet (NotInnovative at) = IsWithin k s front packet × (at ≡ length front)
IsCaseReply k s front packet (Conflicting at) = IsConflicting k s front packet × (at ≡ length front)

-- the reply to an offer of a packet at a front: the first check that it fails, or else its case there
abbrev pub IsReply : Equations → List Packet → Packet → Reply → Type 0
IsReply equations front packet (FailedCheck check at) = IsFirstFailing equations packet check × (at ≡ length front)
IsReply equations front packet (Innovative at) = Passes equations packet × IsCaseReply equations.k equations.s front packet (Innovative at)
IsReply equations front packet (NotInnovative at) = Passes equations packet × IsCaseReply equations.k equations.s front packet (NotInnovative at)
IsReply equations front packet (Conflicting at) = Passes equations packet × IsCaseReply equations.k equations.s front packet (Conflicting at)

-- what an offer of this adds after a reply: an innovative one, and no other
abbrev pub recorded : {X : Type 0} → X → Reply → List X
recorded offered (FailedCheck check at) = []
recorded offered (Innovative at) = offered ∷ []
recorded offered (NotInnovative at) = []
recorded offered (Conflicting at) = []
