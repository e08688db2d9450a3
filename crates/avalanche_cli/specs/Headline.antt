-- The headline, over the words of a run, the bytes that it reads and writes, its end and its trace.
-- front: the packets that were recorded before the point of a call. before, now: what the output holds, where it tells that.
use Rattle.std.specs.Prelude.{◌≡◌, ◌⊎◌, ◌↔◌, ℕ, ◌+◌, ◌<◌, List, length, map, take, slice_index_or, Option, None, Some, Result, Ok, Err}
use Rattle.std.specs.List.{All, filter}
use Rattle.std.specs.Io.KnownBytes.{Appends, Keeps}
use Rattle.sha2.specs.Sha256.{sha256}
use Rattle.swarm_io.specs.Moved.{AppendsPrefix}
use Rattle.linear_spec.specs.declared.equations.Equations.{Equations}
use Rattle.linear_spec.specs.declared.packet.Packet.{Packet}
use Rattle.linear_spec.specs.declared.record.Record.{Record}
use Rattle.linear_spec.specs.declared.reply.Reply.{Reply}
use Rattle.linear_spec.specs.declared.reply.Reply.TheVariants.{FailedCheck, Innovative, NotInnovative, Conflicting}
use Rattle.linear_spec.specs.Cases.{IsConflicting, IsFresh, IsWithin}
use Rattle.linear_spec.specs.Packet.{vector_of, vectors_of}
use Rattle.linear_spec.specs.Passing.{Passes}
use Rattle.linear_spec.specs.SequentialBasis.{packets_of}
use Rattle.linear_spec.specs.Span.{InSpan}
use Rattle.basis_core.specs.declared.trace.BasisTrace.{BasisTrace}
use Rattle.basis_core.specs.Calls.{AreInOrder, IsDrawnAt, KeptCall, KeptOffer, KeptDraw, point_of_drawn, point_of_reply}
use Rattle.basis_core.specs.Merge.{all_calls, made_by, merge_of}
use Rattle.basis_core.specs.Run.{is_by}
use Rattle.generation.specs.Shape.{Dimensions, generations_of, symbols_per_block}
use Rattle.packet_wire.specs.Stream.{Contents}
use Rattle.shared_reception.specs.declared.sends.Sending.{Sending}
use Rattle.shared_reception.specs.Dealing.{given_below}
use Rattle.avalanche_args.specs.declared.command.Command.{Command}
use Rattle.avalanche_args.specs.declared.command.Command.TheVariants.{Seed, Fetch, Relay}
use Rattle.avalanche_args.specs.declared.command.RelayWords.{RelayWords}
use Rattle.avalanche_args.specs.declared.command.SeedWords.{SeedWords}
use Rattle.avalanche_args.specs.declared.usage.WordClass.{WordClass}
use Rattle.avalanche_cli.specs.EmptyTrace.{IsEmptyTrace}
use Rattle.avalanche_cli.specs.Fetch.{Holds}
use Rattle.avalanche_cli.specs.Files.{IsOnlyFileOf, recorded_packets}
use Rattle.avalanche_cli.specs.Packets.{equations_of}
use Rattle.avalanche_cli.specs.Relay.{sending_of, stream_of_relay}
use Rattle.avalanche_cli.specs.Seed.{IsSeedFile, generation_packets_of, seed_draws_of, shape_of_seed, stream_of_seed}
use Rattle.avalanche_cli.specs.Sends.{front_of, packet_of_send, sends_by}
use Rattle.avalanche_cli.specs.Trace.{IsLegalBasis, caller_count}
use Rattle.avalanche_cli.specs.declared.trace.SendEntry.{SendEntry}
use Rattle.avalanche_cli.specs.declared.trace.Trace.{Trace}
use Rattle.avalanche_cli.specs.declared.end.End.{End}
use Rattle.avalanche_cli.specs.declared.end.End.TheVariants.{Done, Usage, ReadFault, WriteFault, TooLarge, BadStream, Incomplete, Mismatch, Memory}

-- ---- one call

abbrev pub SaysFailed : Reply → Type 0
SaysFailed (FailedCheck check at) = Unit {0}
SaysFailed (Innovative at) = ⊥
SaysFailed (NotInnovative at) = ⊥
SaysFailed (Conflicting at) = ⊥

abbrev pub SaysRecorded : Reply → Type 0
SaysRecorded (FailedCheck check at) = ⊥
SaysRecorded (Innovative at) = Unit {0}
SaysRecorded (NotInnovative at) = ⊥
SaysRecorded (Conflicting at) = ⊥

abbrev pub SaysWithin : Reply → Type 0
SaysWithin (FailedCheck check at) = ⊥
SaysWithin (Innovative at) = ⊥
SaysWithin (NotInnovative at) = Unit {0}
SaysWithin (Conflicting at) = ⊥

abbrev pub SaysConflicting : Reply → Type 0
SaysConflicting (FailedCheck check at) = ⊥
SaysConflicting (Innovative at) = ⊥
SaysConflicting (NotInnovative at) = ⊥
SaysConflicting (Conflicting at) = Unit {0}

-- what a packet is answered at a front
pub record IsToldOf (equations : Equations) (front : List Packet) (packet : Packet) (reply : Reply) : Type 0 where
  -- it fails exactly if the equation of some check fails
  pub fails : SaysFailed reply ↔ (¬ Passes equations packet)
  -- it is recorded exactly if it passes and is innovative there
  pub records : SaysRecorded reply ↔ (Passes equations packet × IsFresh equations.k front packet)
  -- else it lies in the span of that front
  pub lies : SaysWithin reply ↔ (Passes equations packet × IsWithin equations.k equations.s front packet)
  -- or conflicts with it
  pub conflicts : SaysConflicting reply ↔ (Passes equations packet × IsConflicting equations.k equations.s front packet)

-- a call is told what it is to be told at the front of its point
abbrev pub IsTold : Equations → List Record → KeptCall → Type 0
IsTold equations records (KeptOffer tag packet reply) = IsToldOf equations (take (point_of_reply reply) (packets_of records)) packet reply
IsTold equations records (KeptDraw tag drawn) = IsDrawnAt (take (point_of_drawn drawn) (packets_of records)) drawn

-- ---- one basis

-- the calls of all callers on a basis form one legal history over its records, each once, after all that its caller had seen, and
-- each answered at its front: the receivers' offers of the packets that they were dealt, and the draws where something is to be sent
pub record IsOneHistory (equations : Equations) (receivers : ℕ) (sending : Option Sending) (packets : List Packet) (generation : ℕ) (basis : BasisTrace) : Type 0 where
  pub legal : IsLegalBasis equations receivers sending packets generation basis
  pub once : (number : ℕ) → number < caller_count receivers sending
      → filter (is_by number) (merge_of (all_calls (given_below (caller_count receivers sending) legal.kept) basis.records.items)) ≡ map (made_by number) (legal.kept number)
  pub after_all_seen : (number : ℕ) → number < caller_count receivers sending → AreInOrder (legal.kept number)
  pub told : (number : ℕ) → number < caller_count receivers sending → All (IsTold equations basis.records.items) (legal.kept number)

-- ---- a stream that was received

-- the input is a stream; there is a basis for each of its generations, on which all calls form one legal history; the draws were
-- sent, and nothing else; and `Written` holds of the stream's contents
pub record HasHistories (receivers : ℕ) (sending : Option Sending) (input : Option (List ℕ)) (trace : Trace) (Written : Contents → Type 0) : Type 0 where
  pub contents : Contents
  pub holds : Holds input contents
  pub count : length trace.bases.items ≡ generations_of contents.manifest.shape
  pub histories : (generation : ℕ) (other : BasisTrace) → generation < length trace.bases.items
      → IsOneHistory (equations_of contents) receivers sending contents.packets generation (slice_index_or trace.bases.items generation other)
  pub sends : trace.sends.items ≡ sends_by sending trace.bases.items
  pub written : Written contents

-- no calls are kept, and nothing was written
abbrev pub IsNothing : Option (List ℕ) → Option (List ℕ) → Trace → Type 0
IsNothing before now trace = IsEmptyTrace trace × Keeps before now

-- ---- a fetch

-- a file is given: its blocks, and no others, solve the equations that were recorded, and its digest is the manifest's
pub record IsGiven (trace : Trace) (Gained : List ℕ → Type 0) (contents : Contents) : Type 0 where
  pub file : List ℕ
  pub solves : IsOnlyFileOf contents.manifest.shape (recorded_packets trace.bases.items) file
  pub digest : sha256 file ≡ contents.manifest.digest
  pub gained : Gained file

-- by the end
abbrev pub IsHeadlineOfFetch : ℕ → Option (List ℕ) → Option (List ℕ) → Option (List ℕ) → Trace → End → Type 0
IsHeadlineOfFetch receivers input before now trace Done = HasHistories receivers None input trace (IsGiven trace (Appends before now))
IsHeadlineOfFetch receivers input before now trace (Usage class) = ⊥
IsHeadlineOfFetch receivers input before now trace ReadFault = IsNothing before now trace
IsHeadlineOfFetch receivers input before now trace WriteFault = HasHistories receivers None input trace (IsGiven trace (AppendsPrefix before now))
IsHeadlineOfFetch receivers input before now trace (TooLarge limit) = IsNothing before now trace
IsHeadlineOfFetch receivers input before now trace (BadStream fault) = IsNothing before now trace
IsHeadlineOfFetch receivers input before now trace (Incomplete generation rank) = HasHistories receivers None input trace (λ _. Keeps before now)
IsHeadlineOfFetch receivers input before now trace (Mismatch found) = HasHistories receivers None input trace (λ _. Keeps before now)
IsHeadlineOfFetch receivers input before now trace Memory =
    IsNothing before now trace ⊎ HasHistories receivers None input trace (IsGiven trace (AppendsPrefix before now))

-- ---- a relay

-- the packet of a send lies in the span of its front
abbrev pub LiesInFront : Dimensions → List ℕ → List BasisTrace → SendEntry → Type 0
LiesInFront d key bases send =
    InSpan (d.k + symbols_per_block d) (vectors_of (front_of bases send)) (vector_of (packet_of_send d key bases send))

-- packets are sent: each lies in the span of its front, and the stream that was written has them
pub record IsSent (words : RelayWords) (trace : Trace) (Gained : List ℕ → Type 0) (contents : Contents) : Type 0 where
  pub lie : All (LiesInFront contents.manifest.shape (sending_of words).key trace.bases.items) trace.sends.items
  pub gained : Gained (stream_of_relay words contents trace)

-- by the end
abbrev pub IsHeadlineOfRelay : RelayWords → Option (List ℕ) → Option (List ℕ) → Option (List ℕ) → Trace → End → Type 0
IsHeadlineOfRelay words input before now trace Done = HasHistories words.receivers (Some (sending_of words)) input trace (IsSent words trace (Appends before now))
IsHeadlineOfRelay words input before now trace (Usage class) = ⊥
IsHeadlineOfRelay words input before now trace ReadFault = IsNothing before now trace
IsHeadlineOfRelay words input before now trace WriteFault =
    HasHistories words.receivers (Some (sending_of words)) input trace (IsSent words trace (AppendsPrefix before now))
IsHeadlineOfRelay words input before now trace (TooLarge limit) = IsNothing before now trace
IsHeadlineOfRelay words input before now trace (BadStream fault) = IsNothing before now trace
IsHeadlineOfRelay words input before now trace (Incomplete generation rank) = ⊥
IsHeadlineOfRelay words input before now trace (Mismatch found) = ⊥
IsHeadlineOfRelay words input before now trace Memory =
    IsNothing before now trace
    ⊎ HasHistories words.receivers (Some (sending_of words)) input trace (IsSent words trace (AppendsPrefix before now))

-- ---- a seed

-- the draws of each generation lie in the span of its blocks' packets
abbrev pub DrawsLie : SeedWords → List ℕ → Type 0
DrawsLie words file = let d = shape_of_seed words file in (generation : ℕ) → generation < generations_of d
    → All (λ packet. InSpan (d.k + symbols_per_block d) (vectors_of (generation_packets_of d file generation)) (vector_of packet)) (seed_draws_of words file generation)

-- the output gained a prefix of the stream of the input, whose draws lie in their spans
pub record IsSeeded (words : SeedWords) (input before now : Option (List ℕ)) : Type 0 where
  pub file : List ℕ
  pub is : IsSeedFile words input file
  pub lie : DrawsLie words file
  pub gained : AppendsPrefix before now (stream_of_seed words file)

-- ---- the whole

-- by the command: of a seed no calls are kept, and it writes a prefix of its file's stream, or nothing
abbrev pub IsHeadline : Result Command WordClass → Option (List ℕ) → Option (List ℕ) → Option (List ℕ) → End → Trace → Type 0
IsHeadline (Ok (Seed words)) input before now end trace = IsEmptyTrace trace × (Keeps before now ⊎ IsSeeded words input before now)
IsHeadline (Ok (Fetch words)) input before now end trace = IsHeadlineOfFetch words.receivers input before now trace end
IsHeadline (Ok (Relay words)) input before now end trace = IsHeadlineOfRelay words input before now trace end
IsHeadline (Err class) input before now end trace = IsNothing before now trace
