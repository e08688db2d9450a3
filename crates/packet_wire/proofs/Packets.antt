-- Packets' frames, one after another.
use Rattle.std.proofs.Common.{◌≡◌, ℕ, ◌+◌, ◌*◌, ◌≤◌, List, [], ◌∷◌, length, arith}
use Rattle.std.specs.List.{flat_map}
use Rattle.std.proofs.lemmas.List.{length-append}
use Rattle.linear_spec.specs.declared.packet.Packet.{Packet}
use Rattle.linear_spec.specs.SymbolLaws.{SymbolLaws}
use Rattle.linear_spec.specs.Symbols.{be_bytes_of}
use Rattle.generation.specs.Shape.{Dimensions, symbols_per_block}
use Rattle.packet_wire.specs.Frame.{frame, head}
use Rattle.packet_wire.specs.Stream.{IsPacket, packet_body, packet_frame}

pub length-packet_body : SymbolLaws → (shape : Dimensions) (packet : Packet) → IsPacket shape packet → length (packet_body packet) ≡ 2 + 2 * shape.k + 2 * symbols_per_block shape
unfolding packet_body
length-packet_body laws shape packet is =
    omega (arith, length-append (be_bytes_of packet.coeffs) (be_bytes_of packet.payload), laws.length packet.coeffs, laws.length packet.payload, is.fits.coeffs.count, is.fits.payload.count)

-- ---- a frame for each packet

frame_is_long : (kind : ℕ) (body : List ℕ) → 1 ≤ length (frame kind body)
unfolding frame head
frame_is_long kind body = omega arith

pub few_packets : (packets : List Packet) → length packets ≤ length (flat_map packet_frame packets)
few_packets [] = omega arith
few_packets (p ∷ packets) =
    let long = length-append (packet_frame p) (flat_map packet_frame packets) in
    let one = frame_is_long 3 (packet_body p) in
    let rest = few_packets packets in
    omega arith
