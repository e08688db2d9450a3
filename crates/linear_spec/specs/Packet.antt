-- What a packet is as a vector, and what it is measured by.
-- k: the number of coefficients of a packet. s: the number of symbols of its payload. vector: the coefficients, then the
-- payload, so k + s symbols. blocks: the source's lists of s symbols, which packets combine.
use Rattle.std.specs.Prelude.{◌≡◌, ℕ, List, ◌++◌, map, replicate}
use Rattle.linear_spec.specs.declared.packet.Packet.{Packet}
use Rattle.linear_spec.specs.Symbols.{IsVector}
use Rattle.linear_spec.specs.Combination.{combination_of}

-- the packet has k coefficients and a payload of s symbols
pub record Fits (k s : ℕ) (packet : Packet) : Type 0 where
  pub coeffs : IsVector k packet.coeffs
  pub payload : IsVector s packet.payload

-- the packet of a generation whose symbols are all 0
abbrev pub zeros_of : ℕ → ℕ → ℕ → Packet
zeros_of k s generation = record { generation = generation; coeffs = replicate k 0; payload = replicate s 0 }

-- a packet's vector: its coefficients, then its payload
abbrev pub vector_of : Packet → List ℕ
vector_of packet = packet.coeffs ++ packet.payload

-- the vectors of packets, in their order
abbrev pub vectors_of : List Packet → List (List ℕ)
vectors_of packets = map vector_of packets

-- the coefficients of packets, a list for each
abbrev pub coefficients_of : List Packet → List (List ℕ)
coefficients_of packets = map (λ packet. packet.coeffs) packets

-- the payloads of packets, a list for each
abbrev pub payloads_of : List Packet → List (List ℕ)
payloads_of packets = map (λ packet. packet.payload) packets

-- the payload is the combination of the source's blocks of s symbols with the packet's coefficients. It is meant for as
-- many blocks as the packet has coefficients
abbrev pub IsTrueTo : ℕ → List (List ℕ) → Packet → Type 0
IsTrueTo s blocks packet = combination_of s packet.coeffs blocks ≡ packet.payload
