-- The packets that carry the blocks themselves.
-- d: the dimensions of a file's shape. file: its bytes. g: a generation, from 0. i: a column, the place of a block in it.
use Rattle.std.specs.Prelude.{ℕ, List}
use Rattle.linear_spec.specs.declared.packet.Packet.{Packet}
use Rattle.linear_spec.specs.UnitVector.{unit_of}
use Rattle.generation.specs.Shape.{Dimensions}
use Rattle.generation.specs.Blocks.{block_of}

-- the packet of column i: the block itself, under the unit coefficients of its column
abbrev pub systematic_packet : Dimensions → List ℕ → ℕ → ℕ → Packet
systematic_packet d file g i = record { generation = g; coeffs = unit_of d.k i; payload = block_of d file g i }
