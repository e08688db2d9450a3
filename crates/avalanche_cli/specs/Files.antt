-- What the packets of a stream come to: the file of the blocks that solve the records of its bases, or the first generation
-- that lacks packets.
-- packets, blocks: a list for each generation. bases: what is kept of the basis of each generation.
use Rattle.std.specs.Prelude.{◌≡◌, ◌<◌, ℕ, List, length, map}
use Rattle.std.specs.List.{AllZip, flat_map, range_with_len}
use Rattle.linear_spec.specs.declared.packet.Packet.{Packet}
use Rattle.linear_spec.specs.SequentialBasis.{packets_of}
use Rattle.linear_spec.specs.Solving.{Solves}
use Rattle.basis_core.specs.declared.trace.BasisTrace.{BasisTrace}
use Rattle.generation.specs.Shape.{Dimensions, generations_of, symbols_per_block}
use Rattle.generation.specs.Blocks.{file_of}
use Rattle.packet_wire.specs.Stream.{Contents}
use Rattle.avalanche_cli.specs.Packets.{HasPacketRank}

-- ---- the file

-- the packets of the records of each basis
abbrev pub recorded_packets : List BasisTrace → List (List Packet)
recorded_packets bases = map (λ basis. packets_of basis.records.items) bases

-- k packets, and these blocks solve them
pub record AreSolvedBy (k s : ℕ) (packets : List Packet) (blocks : List (List ℕ)) : Type 0 where
  pub full : length packets ≡ k
  pub solves : Solves k s packets blocks

-- each generation's packets are as many as it has blocks, and its blocks solve them
abbrev pub SolveEach : ℕ → ℕ → List (List Packet) → List (List (List ℕ)) → Type 0
SolveEach k s packets blocks = AllZip (AreSolvedBy k s) packets blocks

-- the file of packets: of the blocks that solve them, generation after generation
pub record IsFileOf (shape : Dimensions) (packets : List (List Packet)) (file : List ℕ) : Type 0 where
  pub blocks : List (List (List ℕ))
  pub solve : SolveEach shape.k (symbols_per_block shape) packets blocks
  pub file_is : file ≡ file_of shape (flat_map (λ generation. generation) blocks)

-- the file of packets, as long as the shape says, and there is no other
pub record IsOnlyFileOf (shape : Dimensions) (packets : List (List Packet)) (file : List ℕ) : Type 0 where
  pub is : IsFileOf shape packets file
  pub only : (other : List ℕ) → IsFileOf shape packets other → other ≡ file
  pub length_is : length file ≡ shape.len

-- the file of a source, whose blocks are given for each generation
abbrev pub source_file : Dimensions → (ℕ → List (List ℕ)) → List ℕ
source_file shape blocks = file_of shape (flat_map blocks (range_with_len 0 (generations_of shape)))

-- ---- a generation that lacks packets

-- the first generation whose passing packets have too low a rank, and that rank
pub record IsFirstIncomplete (contents : Contents) (generation rank : ℕ) : Type 0 where
  pub below : generation < generations_of contents.manifest.shape
  pub rank_is : HasPacketRank contents generation rank
  pub low : rank < contents.manifest.shape.k
  pub full_before : (earlier : ℕ) → earlier < generation → HasPacketRank contents earlier contents.manifest.shape.k
