-- What `fetch` does with its input, and what it and `relay` know of the stream that they read.
-- input: the bytes that a source has left, where it tells them. contents: what a stream holds. receivers: the number of
-- callers that the packets are dealt to.
use Rattle.std.specs.Prelude.{◌≡◌, ◌≢◌, ◌≤◌, ◌<◌, ℕ, List, length, take, Option, IfSome}
use Rattle.std.specs.Io.KnownBytes.{Appends, Consumes}
use Rattle.sha2.specs.Sha256.{sha256}
use Rattle.swarm_io.specs.Moved.{AppendsPrefix}
use Rattle.packet_wire.specs.Stream.{Contents, IsStream}
use Rattle.packet_wire.specs.Faults.{IsFirstFault}
use Rattle.packet_wire.specs.declared.fault.WireFault.{WireFault}
use Rattle.packet_wire.specs.declared.fault.FaultKind.TheVariants.{Truncated}
use Rattle.avalanche_cli.specs.Delivery.{AppendsSome}
use Rattle.avalanche_cli.specs.Files.{IsFirstIncomplete, IsOnlyFileOf, recorded_packets}
use Rattle.avalanche_cli.specs.Packets.{HasFullRank}
use Rattle.avalanche_cli.specs.Trace.{IsLegalFetch}
use Rattle.avalanche_cli.specs.declared.trace.Trace.{Trace}

-- ---- the bytes

-- the most bytes of a stream that `fetch` and `relay` take
abbrev pub stream_limit : ℕ
stream_limit = 67108864

-- the bytes are within the limit, and a stream with these contents
pub record IsFetchable (bytes : List ℕ) (contents : Contents) : Type 0 where
  pub within : length bytes ≤ stream_limit
  pub stream : IsStream bytes contents

-- the first fault of the bytes, so far as they are within the limit; that they end too early is one only where they are all
pub record IsUnfetchable (bytes : List ℕ) (fault : WireFault) : Type 0 where
  pub first : IsFirstFault (take stream_limit bytes) fault
  pub whole : fault.kind ≡ Truncated → length bytes ≤ stream_limit

-- the bytes have no fault, unless it be that they end too early
abbrev pub IsSound : List ℕ → Type 0
IsSound bytes = (fault : WireFault) → IsFirstFault bytes fault → fault.kind ≡ Truncated

-- there are more bytes than the limit, and those within it are sound
pub record IsTooLong (bytes : List ℕ) : Type 0 where
  pub longer : stream_limit < length bytes
  pub sound : IsSound (take stream_limit bytes)

-- the bytes that a source lost were within the limit, and sound
pub record HasReadSound (before now : Option (List ℕ)) : Type 0 where
  pub read : List ℕ
  pub consumed : Consumes before now read
  pub within : length read ≤ stream_limit
  pub sound : IsSound read

-- the input is a stream with these contents and no others, so far as it tells its bytes
pub record Holds (input : Option (List ℕ)) (contents : Contents) : Type 0 where
  pub bytes : List ℕ
  pub told : IfSome input (λ all. all ≡ bytes)
  pub fetchable : IsFetchable bytes contents
  pub only : (other : Contents) → IsFetchable bytes other → other ≡ contents

-- ---- what a run tells of its input

-- the input is a stream, and the trace is a legal one of its packets
pub record IsTraceOf (receivers : ℕ) (input : Option (List ℕ)) (trace : Trace) : Type 0 where
  pub contents : Contents
  pub holds : Holds input contents
  pub legal : IsLegalFetch receivers contents trace

-- the input is a stream of full rank with this digest in its manifest; the trace is a legal one of its packets, and its
-- records have this file and no other, as long as the manifest says
pub record HasFile (receivers : ℕ) (input : Option (List ℕ)) (trace : Trace) (digest file : List ℕ) : Type 0 where
  pub contents : Contents
  pub holds : Holds input contents
  pub full : HasFullRank contents
  pub legal : IsLegalFetch receivers contents trace
  pub digest_is : contents.manifest.digest ≡ digest
  pub is_file : IsOnlyFileOf contents.manifest.shape (recorded_packets trace.bases.items) file

-- the file has the digest that the manifest says, and the output gained it
pub record Gives (receivers : ℕ) (input : Option (List ℕ)) (trace : Trace) (output-before output-now : Option (List ℕ)) : Type 0 where
  pub file : List ℕ
  pub has : HasFile receivers input trace (sha256 file) file
  pub gained : Appends output-before output-now file

-- the same, but the output gained a prefix of it
pub record GivesPrefix (receivers : ℕ) (input : Option (List ℕ)) (trace : Trace) (output-before output-now : Option (List ℕ)) : Type 0 where
  pub file : List ℕ
  pub has : HasFile receivers input trace (sha256 file) file
  pub gained : AppendsPrefix output-before output-now file

-- the same, and the prefix has a byte at least
pub record GivesSome (receivers : ℕ) (input : Option (List ℕ)) (trace : Trace) (output-before output-now : Option (List ℕ)) : Type 0 where
  pub file : List ℕ
  pub has : HasFile receivers input trace (sha256 file) file
  pub gained : AppendsSome output-before output-now file

-- the file has this digest, and the manifest says another
pub record HasOtherDigest (receivers : ℕ) (input : Option (List ℕ)) (trace : Trace) (found : List ℕ) : Type 0 where
  pub digest : List ℕ
  pub file : List ℕ
  pub has : HasFile receivers input trace digest file
  pub found_is : found ≡ sha256 file
  pub differs : found ≢ digest

-- this generation is the first whose packets lack rank, and they have this one
pub record LacksRank (input : Option (List ℕ)) (generation rank : ℕ) : Type 0 where
  pub contents : Contents
  pub holds : Holds input contents
  pub lacks : IsFirstIncomplete contents generation rank
