-- What contracts see of a basis: the lengths of its packets and the packets that it recorded; and when its rows are sound.
use Rattle.std.specs.Prelude.{ℕ, ◌<◌, ◌^◌, List}
use Rattle.std.specs.List.{All}
use Rattle.linear_spec.specs.declared.packet.Packet.{Packet}
use Rattle.linear_spec.specs.Packet.{Fits}
use Rattle.linear_spec.specs.Rows.{StandForAll}

-- packets of k coefficients and s payload symbols, in the order in which they were recorded
pub record Basis : Type 0 where
  pub k : ℕ
  pub s : ℕ
  pub packets : List Packet

-- k is a number of 16 bits, the packets fit, and the rows stand for them
pub record IsSound (k s : ℕ) (packets rows : List Packet) : Type 0 where
  pub narrow : k < 2 ^ 16
  pub fit : All (Fits k s) packets
  pub stand : StandForAll k s packets rows
