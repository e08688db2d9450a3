-- A stream as its frames, one after another.
use Rattle.std.specs.Prelude.{◌≡◌, ℕ, List, [], ◌∷◌, ◌++◌, map}
use Rattle.std.specs.List.{flat_map}
use Rattle.packet_wire.specs.declared.frame.Frame.{Frame}
use Rattle.packet_wire.specs.declared.frame.Frame.TheVariants.{Manifest, Ticket, Packet, End}
use Rattle.packet_wire.specs.declared.phase.Phase.{Phase}
use Rattle.packet_wire.specs.declared.phase.Phase.TheVariants.{BeforeManifest, BeforeTicket, BeforeEnd, Ended}
use Rattle.packet_wire.specs.Stream.{IsManifest, IsTicket, IsPacket, manifest_frame, ticket_frame, packet_frame, end_frame, Contents}

-- the bytes of a frame
abbrev pub frame_spelling : Frame → List ℕ
frame_spelling (Manifest manifest) = manifest_frame manifest
frame_spelling (Ticket ticket) = ticket_frame ticket
frame_spelling (Packet packet) = packet_frame packet
frame_spelling End = end_frame

-- the bytes of frames, one after another
abbrev pub frames_spelling : List Frame → List ℕ
frames_spelling frames = flat_map frame_spelling frames

-- the frame may follow: a manifest first, then a ticket, then packets, and an end as the last
abbrev pub MayFollow : Phase → Frame → Type 0
MayFollow BeforeManifest (Manifest manifest) = IsManifest manifest
MayFollow (BeforeTicket shape) (Ticket ticket) = IsTicket shape ticket
MayFollow (BeforeEnd shape) (Packet packet) = IsPacket shape packet
MayFollow (BeforeEnd shape) End = Unit {0}
MayFollow _ _ = ⊥

-- how far the stream has come after a frame that may follow
abbrev pub phase_after : Phase → Frame → Phase
phase_after _ (Manifest manifest) = BeforeTicket manifest.shape
phase_after (BeforeTicket shape) (Ticket _) = BeforeEnd shape
phase_after phase (Ticket _) = phase
phase_after phase (Packet _) = phase
phase_after _ End = Ended

-- how far the stream has come after frames
abbrev pub phase_past : Phase → List Frame → Phase
phase_past phase [] = phase
phase_past phase (frame ∷ frames) = phase_past (phase_after phase frame) frames

-- each of the frames may follow where it stands
abbrev pub AreInOrder : Phase → List Frame → Type 0
AreInOrder _ [] = Unit {0}
AreInOrder phase (frame ∷ frames) = MayFollow phase frame × AreInOrder (phase_after phase frame) frames

-- the bytes begin with these frames
pub record BeginsWith (bytes : List ℕ) (frames : List Frame) : Type 0 where
  pub in_order : AreInOrder BeforeManifest frames
  pub rest : List ℕ
  pub spelled : bytes ≡ frames_spelling frames ++ rest

-- the frames of a stream
abbrev pub frames_of : Contents → List Frame
frames_of contents = Manifest contents.manifest ∷ Ticket contents.ticket ∷ (map Packet contents.packets ++ End ∷ [])
