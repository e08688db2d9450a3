-- A stream, version 1: one manifest, one ticket, any number of packets and one end, each a frame (docs/FORMATS.md).
use Rattle.std.specs.Prelude.{◌≡◌, ℕ, ◌*◌, ◌<◌, ◌≤◌, List, [], ◌∷◌, ◌++◌, length}
use Rattle.std.specs.Int.{w16, w64, to_be_bytes}
use Rattle.std.specs.List.{All, flat_map}
use Rattle.linear_spec.specs.declared.packet.Packet.{Packet}
use Rattle.linear_spec.specs.Packet.{Fits}
use Rattle.linear_spec.specs.Symbols.{AreBytes, IsVector, be_bytes_of}
use Rattle.generation.specs.declared.ticket.Ticket.{Ticket}
use Rattle.generation.specs.Shape.{Dimensions, IsShape, generations_of, symbols_per_block}
use Rattle.packet_wire.specs.declared.manifest.Manifest.{Manifest}
use Rattle.packet_wire.specs.declared.frame.Kind.TheVariants as kinds
use Rattle.packet_wire.specs.Frame.{frame, number_of}

-- ---- the spelling of each frame

-- the length of the file, K, B and the digest
unfoldable pub manifest_body : Manifest → List ℕ
manifest_body manifest =
    to_be_bytes w64 manifest.shape.len ++ (to_be_bytes w16 manifest.shape.k ++ (to_be_bytes w16 manifest.shape.block ++ manifest.digest))

-- the key, the number of checks and the sums
unfoldable pub ticket_body : Ticket → List ℕ
ticket_body ticket = ticket.key ++ (ticket.checks ∷ be_bytes_of ticket.sums)

-- the generation, the coefficients and the payload
unfoldable pub packet_body : Packet → List ℕ
packet_body packet = to_be_bytes w16 packet.generation ++ (be_bytes_of packet.coeffs ++ be_bytes_of packet.payload)

-- the frames of each
abbrev pub manifest_frame : Manifest → List ℕ
manifest_frame manifest = frame (number_of kinds.Manifest) (manifest_body manifest)

abbrev pub ticket_frame : Ticket → List ℕ
ticket_frame ticket = frame (number_of kinds.Ticket) (ticket_body ticket)

abbrev pub packet_frame : Packet → List ℕ
packet_frame packet = frame (number_of kinds.Packet) (packet_body packet)

abbrev pub end_frame : List ℕ
end_frame = frame (number_of kinds.End) []

-- ---- what may stand in each frame

-- a shape, and the 32 bytes of a digest
pub record IsManifest (manifest : Manifest) : Type 0 where
  pub shape : IsShape manifest.shape
  pub digest_bytes : AreBytes manifest.digest
  pub digest_length : length manifest.digest ≡ 32

-- the 32 bytes of a key, at most 8 checks, and for each check a sum of every block of the file
pub record IsTicket (shape : Dimensions) (ticket : Ticket) : Type 0 where
  pub key_bytes : AreBytes ticket.key
  pub key_length : length ticket.key ≡ 32
  pub checks : ticket.checks ≤ 8
  pub sums : IsVector (ticket.checks * generations_of shape * shape.k) ticket.sums

-- a packet of one of the shape's generations
pub record IsPacket (shape : Dimensions) (packet : Packet) : Type 0 where
  pub generation : packet.generation < generations_of shape
  pub fits : Fits shape.k (symbols_per_block shape) packet

-- ---- the stream

-- what a stream holds
pub record Contents : Type 0 where
  pub manifest : Manifest
  pub ticket : Ticket
  pub packets : List Packet

-- the bytes of a stream: one frame after another
unfoldable pub spelling_of : Contents → List ℕ
spelling_of contents =
    manifest_frame contents.manifest ++ (ticket_frame contents.ticket ++ (flat_map packet_frame contents.packets ++ end_frame))

-- what may stand in a stream: a manifest, and the ticket and the packets of its shape
pub record AreContents (contents : Contents) : Type 0 where
  pub manifest : IsManifest contents.manifest
  pub ticket : IsTicket contents.manifest.shape contents.ticket
  pub packets : All (IsPacket contents.manifest.shape) contents.packets

-- the bytes are a stream with these contents
pub record IsStream (bytes : List ℕ) (contents : Contents) : Type 0 where
  pub manifest : IsManifest contents.manifest
  pub ticket : IsTicket contents.manifest.shape contents.ticket
  pub packets : All (IsPacket contents.manifest.shape) contents.packets
  pub spelled : bytes ≡ spelling_of contents
