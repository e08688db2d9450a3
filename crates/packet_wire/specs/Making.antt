-- The bytes of one whole frame, and the frame that they are: for the private steps of a decoder.
use Rattle.std.specs.Prelude.{◌≡◌, ℕ, ◌+◌, ◌*◌, ◌≤◌, ◌==◌, if◌then◌else◌, List, length, slice_index, take, drop}
use Rattle.linear_spec.specs.declared.packet.Packet.{Packet}
use Rattle.linear_spec.specs.Symbols.{symbols_of}
use Rattle.generation.specs.declared.ticket.Ticket.{Ticket}
use Rattle.generation.specs.Shape.{Dimensions}
use Rattle.packet_wire.specs.declared.frame.Frame.{Frame}
use Rattle.packet_wire.specs.declared.frame.Frame.TheVariants as frames
use Rattle.packet_wire.specs.declared.manifest.Manifest.{Manifest}
use Rattle.packet_wire.specs.declared.phase.Phase.{Phase}
use Rattle.packet_wire.specs.declared.phase.Phase.TheVariants.{BeforeManifest, BeforeTicket, BeforeEnd, Ended}
use Rattle.packet_wire.specs.Faults.{NothingFails}
use Rattle.packet_wire.specs.Judgements.{body_len_in, kind_in, number16_at, shape_in}

-- a frame that is whole, in which nothing fails
pub record IsWholeFrame (phase : Phase) (held : List ℕ) : Type 0 where
  pub head_is_there : 10 ≤ length held
  pub body_is_there : length held ≡ 10 + body_len_in held
  pub nothing_fails : NothingFails phase held

-- the parts of a manifest, a ticket and a packet, at their places in the frame
abbrev pub manifest_in : List ℕ → Manifest
manifest_in held = record { shape = shape_in held; digest = drop 22 held }

abbrev pub ticket_in : List ℕ → Ticket
ticket_in held = record { key = take 32 (drop 10 held); checks = slice_index held 42; sums = symbols_of (drop 43 held) }

abbrev pub packet_in : Dimensions → List ℕ → Packet
packet_in shape held = record {
  generation = number16_at held 10;
  coeffs = symbols_of (take (2 * shape.k) (drop 12 held));
  payload = symbols_of (drop (2 * shape.k) (drop 12 held));
}

-- the frame that bytes are, where they are one
abbrev pub frame_in : Phase → List ℕ → Frame
frame_in BeforeManifest held = frames.Manifest (manifest_in held)
frame_in (BeforeTicket _) held = frames.Ticket (ticket_in held)
frame_in (BeforeEnd shape) held = if kind_in held == 3 then frames.Packet (packet_in shape held) else frames.End
frame_in Ended held = frames.End
