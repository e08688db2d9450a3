-- What reading a stream in pieces knows: for the private functions that read.
-- old, now: the bytes that the input has left, before all reads and by now. fed: the bytes that the decoder was fed. room:
-- how many more the limit lets in.
use Rattle.std.specs.Prelude.{◌≡◌, ◌<◌, ◌≤◌, ℕ, ◌+◌, List, [], ◌∷◌, ◌++◌, length, take, map, Option, Result, Ok, Err, IfSome}
use Rattle.std.specs.Io.KnownBytes.{Consumes}
use Rattle.linear_spec.specs.declared.packet.Packet.{Packet}
use Rattle.generation.specs.declared.ticket.Ticket.{Ticket}
use Rattle.packet_wire.specs.declared.decoder.Decoder.{Decoder}
use Rattle.packet_wire.specs.declared.fault.WireFault.{WireFault}
use Rattle.packet_wire.specs.declared.frame.Frame.{Frame}
use Rattle.packet_wire.specs.declared.frame.Frame.TheVariants as kinds
use Rattle.packet_wire.specs.declared.manifest.Manifest.{Manifest}
use Rattle.packet_wire.specs.Decoding.{IsAfter}
use Rattle.packet_wire.specs.Faults.{HasFailing}
use Rattle.packet_wire.specs.Frames.{frames_of}
use Rattle.packet_wire.specs.Stream.{Contents, IsStream}
use Rattle.packet_wire.specs.declared.fault.FeedError.{FeedError}
use Rattle.packet_wire.specs.declared.fault.FeedError.TheVariants.{Fault, Memory as OutOfMemory}
use Rattle.avalanche_cli.specs.Fetch.{stream_limit}
use Rattle.avalanche_cli.specs.declared.reading.NoStream.{NoStream}
use Rattle.avalanche_cli.specs.declared.reading.NoStream.TheVariants.{ReadFault, TooLarge, BadStream, Memory}
use Rattle.avalanche_cli.specs.declared.stream.Stream.{Stream}

-- what a stream that was read holds
abbrev pub contents_of : Stream → Contents
contents_of stream = record { manifest = stream.manifest; ticket = stream.ticket; packets = stream.packets.items }

-- the frames are those of a stream
abbrev pub AreStreamFrames : List Frame → Type 0
AreStreamFrames frames = (contents : Contents) × (frames ≡ frames_of contents)

-- which frame it is
abbrev pub IsPacketFrame : Frame → Type 0
IsPacketFrame frame = (packet : Packet) × (frame ≡ kinds.Packet packet)

abbrev pub IsTicketFrame : Frame → Type 0
IsTicketFrame frame = (ticket : Ticket) × (frame ≡ kinds.Ticket ticket)

abbrev pub IsManifestFrame : Frame → Type 0
IsManifestFrame frame = (manifest : Manifest) × (frame ≡ kinds.Manifest manifest)

-- the frames but for the end
abbrev pub body_of : Contents → List Frame
body_of contents = kinds.Manifest contents.manifest ∷ kinds.Ticket contents.ticket ∷ map kinds.Packet contents.packets

abbrev pub IsBody : List Frame → Type 0
IsBody frames = (contents : Contents) × (frames ≡ body_of contents)

-- the packets were taken out of the frames
pub record TakesPackets (before after : List Frame) (packets : List Packet) : Type 0 where
  pub contents : Contents
  pub before_is : before ≡ body_of contents
  pub packets_are : packets ≡ contents.packets
  pub after_is : after ≡ kinds.Manifest contents.manifest ∷ kinds.Ticket contents.ticket ∷ []

-- ---- reading

-- why the input gave no stream, where the decoder says so
abbrev pub reason_of : FeedError → NoStream
reason_of (Fault fault) = BadStream fault
reason_of OutOfMemory = Memory

-- the decoder was fed all that was read, which is within the limit and has no fault, and gave these frames
pub record IsReadTo (old now : Option (List ℕ)) (decoder : Decoder) (frames : List Frame) (room : ℕ) : Type 0 where
  pub fed : List ℕ
  pub consumed : Consumes old now fed
  pub room_is : length fed + room ≡ stream_limit
  pub after : IsAfter decoder fed frames
  pub sound : (fault : WireFault) → HasFailing fed fault → ⊥

-- what came of a piece, whatever the decoder was fed before
abbrev pub TakesIn : Decoder → List Frame → List ℕ → ℕ → Decoder → List Frame → Result ℕ NoStream → Type 0
TakesIn before given piece room after frames (Ok left) = (left + length piece ≡ room) × ((fed : List ℕ) → IsAfter before fed given
    → IsAfter after (fed ++ piece) frames × ((fault : WireFault) → HasFailing (fed ++ piece) fault → ⊥))
TakesIn before given piece room after frames (Err ReadFault) = ⊥
TakesIn before given piece room after frames (Err TooLarge) = (room < length piece) × ((fed : List ℕ) → IsAfter before fed given
    → (fault : WireFault) → HasFailing (fed ++ take room piece) fault → ⊥)
TakesIn before given piece room after frames (Err (BadStream fault)) =
    (fed : List ℕ) → IsAfter before fed given → HasFailing (fed ++ take room piece) fault
TakesIn before given piece room after frames (Err Memory) = Unit {0}

-- the input is a stream with these frames, so far as it tells its bytes
pub record HoldsFrames (input : Option (List ℕ)) (frames : List Frame) : Type 0 where
  pub bytes : List ℕ
  pub told : IfSome input (λ all. all ≡ bytes)
  pub within : length bytes ≤ stream_limit
  pub contents : Contents
  pub stream : IsStream bytes contents
  pub frames_are : frames ≡ frames_of contents
