-- What is sent of the bases of a trace: one entry for each draw, and the packets of those that are Sent.
-- sending: what a relay sends. key: the 32 bytes of the key that it draws by. d: the dimensions of the file's shape.
use Rattle.std.specs.Prelude.{ℕ, Option, None, Some, List, [], ◌∷◌, length, map, take, slice_index_or}
use Rattle.std.specs.List.{flat_map}
use Rattle.linear_spec.specs.declared.packet.Packet.{Packet}
use Rattle.linear_spec.specs.declared.record.Drawn.{Drawn}
use Rattle.linear_spec.specs.declared.record.Drawn.TheVariants.{Sent, Nothing}
use Rattle.basis_core.specs.declared.trace.BasisTrace.{BasisTrace}
use Rattle.basis_core.specs.Calls.{point_of_drawn}
use Rattle.recode.specs.Draws.{drawn_over, drawn_packet, numbers_of}
use Rattle.shared_reception.specs.declared.sends.Sending.{Sending}
use Rattle.generation.specs.Shape.{Dimensions, symbols_per_block}
use Rattle.avalanche_cli.specs.Files.{recorded_packets}
use Rattle.avalanche_cli.specs.declared.trace.SendEntry.{SendEntry}
use Rattle.avalanche_cli.specs.declared.trace.Trace.{Trace}

-- ---- which draws are sent

-- a draw over n records of peer 0's basis, in round 1; q is its number on the link
abbrev pub send_of : Sending → ℕ → ℕ → ℕ → SendEntry
send_of sending generation n q = record {
  round = 1;
  link = sending.link;
  peer = 0;
  generation = generation;
  q = q;
  drawn = drawn_over n;
}

-- those of a basis, each over all its records
abbrev pub sends_of : Sending → BasisTrace → List SendEntry
sends_of sending basis = map (send_of sending basis.generation (length basis.records.items)) (numbers_of sending.coded basis.generation)

-- those of all bases, by generation and then by number
abbrev pub sends_of_all : Sending → List BasisTrace → List SendEntry
sends_of_all sending bases = flat_map (sends_of sending) bases

-- none where there is nothing to send
abbrev pub sends_by : Option Sending → List BasisTrace → List SendEntry
sends_by None bases = []
sends_by (Some sending) bases = sends_of_all sending bases

-- ---- the packets of sends

-- the front of a send: as many of its generation's records as its answer says
abbrev pub front_of : List BasisTrace → SendEntry → List Packet
front_of bases send = take (point_of_drawn send.drawn) (slice_index_or (recorded_packets bases) send.generation [])

-- its packet, drawn over that front
abbrev pub packet_of_send : Dimensions → List ℕ → List BasisTrace → SendEntry → Packet
packet_of_send d key bases send =
    drawn_packet d.k (symbols_per_block d) send.generation key send.link send.q (front_of bases send)

-- a packet goes out only where the draw is Sent
abbrev pub packets_by : Drawn → Packet → List Packet
packets_by (Sent front) packet = packet ∷ []
packets_by Nothing packet = []

-- the packets of sends over these bases, in order
abbrev pub packets_sent_of : Dimensions → List ℕ → List BasisTrace → List SendEntry → List Packet
packets_sent_of d key bases sends = flat_map (λ send. packets_by send.drawn (packet_of_send d key bases send)) sends

-- and of a trace
abbrev pub packets_sent : Dimensions → List ℕ → Trace → List Packet
packets_sent d key trace = packets_sent_of d key trace.bases.items trace.sends.items
