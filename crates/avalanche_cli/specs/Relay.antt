-- What `relay` does with its input: the stream that it writes of what it received, and how it ends.
-- words: what it is to do. input: the bytes that a source has left, where it tells them. contents: what a stream holds.
-- before, now: what a sink holds, where it tells that. Same: that the output is as it was. Unread, Unwritten, Unheld: that the
-- counts of the input's faults, of the output's faults and of the output's wants rose. Sound: that the bytes which were read
-- have no fault but that they end too early. blocks: for each generation, as many blocks as it has.
use Rattle.std.specs.Prelude.{◌≡◌, ◌⊎◌, ◌<◌, ℕ, List, [], Option, IfSome, slice_index_or}
use Rattle.std.specs.List.{All}
use Rattle.std.specs.Io.KnownBytes.{Appends, Keeps}
use Rattle.linear_spec.specs.declared.packet.Packet.{Packet}
use Rattle.linear_spec.specs.Packet.{IsTrueTo}
use Rattle.linear_spec.specs.Passing.{Passes}
use Rattle.linear_spec.specs.Solving.{Solves}
use Rattle.swarm_io.specs.Moved.{AppendsPrefix}
use Rattle.generation.specs.Shape.{Dimensions, generations_of, symbols_per_block}
use Rattle.src_check.specs.Keys.{key_of_number}
use Rattle.packet_wire.specs.Stream.{Contents, IsStream, spelling_of}
use Rattle.shared_reception.specs.declared.sends.Sending.{Sending}
use Rattle.basis_core.specs.declared.trace.BasisTrace.{BasisTrace}
use Rattle.avalanche_args.specs.declared.command.RelayWords.{RelayWords}
use Rattle.avalanche_cli.specs.Delivery.{AppendsSome}
use Rattle.avalanche_cli.specs.EmptyTrace.{IsEmptyTrace}
use Rattle.avalanche_cli.specs.Fetch.{Holds, IsTooLong, IsUnfetchable, stream_limit}
use Rattle.avalanche_cli.specs.Files.{recorded_packets}
use Rattle.avalanche_cli.specs.Packets.{equations_of}
use Rattle.avalanche_cli.specs.Sends.{packets_sent}
use Rattle.avalanche_cli.specs.Trace.{IsLegalRelay}
use Rattle.avalanche_cli.specs.declared.trace.Trace.{Trace}
use Rattle.avalanche_cli.specs.declared.end.End.{End}
use Rattle.avalanche_cli.specs.declared.end.End.TheVariants.{Done, Usage, ReadFault, WriteFault, TooLarge, BadStream, Incomplete, Mismatch, Memory}

-- ---- what is sent

-- what the words ask to be sent
abbrev pub sending_of : RelayWords → Sending
sending_of words = record { key = key_of_number words.key; link = words.link; coded = words.coded }

-- what the relayed stream holds: the manifest and the ticket that were read, and the packets sent
abbrev pub contents_of_relay : RelayWords → Contents → Trace → Contents
contents_of_relay words contents trace = record {
  manifest = contents.manifest;
  ticket = contents.ticket;
  packets = packets_sent contents.manifest.shape (key_of_number words.key) trace;
}

-- and its bytes
abbrev pub stream_of_relay : RelayWords → Contents → Trace → List ℕ
stream_of_relay words contents trace = spelling_of (contents_of_relay words contents trace)

-- ---- truth

-- every record is true to the blocks of its generation
abbrev pub AreRecordedTrueTo : Dimensions → List BasisTrace → (ℕ → List (List ℕ)) → Type 0
AreRecordedTrueTo d bases blocks = (generation : ℕ) → generation < generations_of d
    → Solves d.k (symbols_per_block d) (slice_index_or (recorded_packets bases) generation []) (blocks generation)

-- every packet is true to the blocks of its generation
abbrev pub ArePacketsTrueTo : Dimensions → List Packet → (ℕ → List (List ℕ)) → Type 0
ArePacketsTrueTo d packets blocks = All (λ packet. IsTrueTo (symbols_per_block d) (blocks packet.generation) packet) packets

-- what a relay makes of a stream is a stream; no check of its ticket refuses a packet sent; and where all records are true to
-- some blocks so are all packets sent
pub record IsTrulyRelayed (words : RelayWords) (contents : Contents) (trace : Trace) : Type 0 where
  pub stream : IsStream (stream_of_relay words contents trace) (contents_of_relay words contents trace)
  pub pass : All (Passes (equations_of (contents_of_relay words contents trace))) (contents_of_relay words contents trace).packets
  pub truth : (blocks : ℕ → List (List ℕ)) → AreRecordedTrueTo contents.manifest.shape trace.bases.items blocks
      → ArePacketsTrueTo contents.manifest.shape (contents_of_relay words contents trace).packets blocks

-- ---- how a run ends

-- the input is a stream, and the trace is a legal one of its packets and of the draws
pub record IsRelayTraceOf (words : RelayWords) (input : Option (List ℕ)) (trace : Trace) : Type 0 where
  pub contents : Contents
  pub holds : Holds input contents
  pub legal : IsLegalRelay words.receivers (sending_of words) contents trace

-- the same, and the output gained so much of the relayed stream
pub record Relays (words : RelayWords) (input : Option (List ℕ)) (trace : Trace) (Gained : List ℕ → Type 0) : Type 0 where
  pub contents : Contents
  pub holds : Holds input contents
  pub legal : IsLegalRelay words.receivers (sending_of words) contents trace
  pub gained : Gained (stream_of_relay words contents trace)

-- the same, and what was relayed is a stream that passes, and true where its records are
pub record RelaysTruly (words : RelayWords) (input : Option (List ℕ)) (trace : Trace) (Gained : List ℕ → Type 0) : Type 0 where
  pub relays : Relays words input trace Gained
  pub truly : IsTrulyRelayed words relays.contents trace

-- what is kept of a relay that ends so: a legal trace where it came to writing, and else none. After want of memory there is a
-- trace where the output took some of the stream: the contract of `run` says when
abbrev pub IsKeptRelay : RelayWords → End → Option (List ℕ) → Trace → Type 0
IsKeptRelay words Done input trace = IsRelayTraceOf words input trace
IsKeptRelay words (Usage class) input trace = IsEmptyTrace trace
IsKeptRelay words ReadFault input trace = IsEmptyTrace trace
IsKeptRelay words WriteFault input trace = IsRelayTraceOf words input trace
IsKeptRelay words (TooLarge limit) input trace = IsEmptyTrace trace
IsKeptRelay words (BadStream fault) input trace = IsEmptyTrace trace
IsKeptRelay words (Incomplete generation rank) input trace = IsEmptyTrace trace
IsKeptRelay words (Mismatch found) input trace = IsEmptyTrace trace
IsKeptRelay words Memory input trace = IsEmptyTrace trace ⊎ IsRelayTraceOf words input trace

-- how a relay ends
abbrev pub IsRelayEnd : RelayWords → Option (List ℕ) → Trace → Option (List ℕ) → Option (List ℕ) → Type 0 → Type 0 → Type 0 → Type 0 → Type 0 → End → Type 0
IsRelayEnd words input trace before now Same Unread Sound Unwritten Unheld Done = Relays words input trace (Appends before now)
IsRelayEnd words input trace before now Same Unread Sound Unwritten Unheld (Usage class) = ⊥
IsRelayEnd words input trace before now Same Unread Sound Unwritten Unheld ReadFault = Same × (Unread × Sound)
IsRelayEnd words input trace before now Same Unread Sound Unwritten Unheld WriteFault = Relays words input trace (AppendsPrefix before now) × Unwritten
IsRelayEnd words input trace before now Same Unread Sound Unwritten Unheld (TooLarge limit) = Same × ((limit ≡ stream_limit) × IfSome input IsTooLong)
IsRelayEnd words input trace before now Same Unread Sound Unwritten Unheld (BadStream fault) = Same × IfSome input (λ bytes. IsUnfetchable bytes fault)
IsRelayEnd words input trace before now Same Unread Sound Unwritten Unheld (Incomplete generation rank) = ⊥
IsRelayEnd words input trace before now Same Unread Sound Unwritten Unheld (Mismatch found) = ⊥
IsRelayEnd words input trace before now Same Unread Sound Unwritten Unheld Memory =
    (IsEmptyTrace trace × (Same ⊎ (Keeps before now × Unheld))) ⊎ (Relays words input trace (AppendsSome before now) × Unheld)
