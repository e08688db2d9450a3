-- A packet's body determines the packet.
use Rattle.std.proofs.Common.{◌≡◌, ℕ, ◌<◌, ◌^◌, List, ◌++◌, length, refl, ap, sym, ◌∙◌, arith}
use Rattle.std.specs.Int.{w16, to_be_bytes}
use Rattle.linear_spec.specs.declared.packet.Packet.{Packet}
use Rattle.linear_spec.specs.SymbolLaws.{SymbolLaws}
use Rattle.linear_spec.specs.Symbols.{be_bytes_of, symbols_of}
use Rattle.generation.specs.Shape.{Dimensions, generations_of}
use Rattle.packet_wire.specs.Stream.{IsPacket, packet_body}
use Rattle.packet_wire.proofs.Frames.{fronts_of_one_length}
use Rattle.packet_wire.proofs.Bodies.{number16_unique}

pub packet_body_unique : SymbolLaws → (shape : Dimensions) (p q : Packet) → generations_of shape < 2 ^ 16 → IsPacket shape p → IsPacket shape q → packet_body p ≡ packet_body q → p ≡ q
unfolding packet_body
packet_body_unique laws shape p q few p-is q-is same =
    let numbers : to_be_bytes w16 p.generation ≡ to_be_bytes w16 q.generation = cc in
    let generations = number16_unique p.generation q.generation (omega (arith, p-is.generation)) (omega (arith, q-is.generation)) numbers in
    let tails : be_bytes_of p.coeffs ++ be_bytes_of p.payload ≡ be_bytes_of q.coeffs ++ be_bytes_of q.payload = cc in
    let lens : length (be_bytes_of p.coeffs) ≡ length (be_bytes_of q.coeffs) = omega (arith, laws.length p.coeffs, laws.length q.coeffs, p-is.fits.coeffs.count, q-is.fits.coeffs.count) in
    let parts = fronts_of_one_length (be_bytes_of p.coeffs) (be_bytes_of q.coeffs) (be_bytes_of p.payload) (be_bytes_of q.payload) lens tails in
    let coeffs : p.coeffs ≡ q.coeffs = sym (laws.symbols p.coeffs p-is.fits.coeffs.symbols) ∙ ap symbols_of parts.0 ∙ laws.symbols q.coeffs q-is.fits.coeffs.symbols in
    let payloads : p.payload ≡ q.payload = sym (laws.symbols p.payload p-is.fits.payload.symbols) ∙ ap symbols_of parts.1 ∙ laws.symbols q.payload q-is.fits.payload.symbols in
    rw (generations, coeffs, payloads) refl
