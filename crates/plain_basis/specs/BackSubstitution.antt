-- Rows by themselves, as back substitution sees them.
use Rattle.std.specs.Prelude.{ℕ, List}
use Rattle.std.specs.List.{All}
use Rattle.linear_spec.specs.declared.packet.Packet.{Packet}
use Rattle.linear_spec.specs.Packet.{Fits}
use Rattle.linear_spec.specs.Rows.{StandForAll}

-- there are packets of these lengths that they stand for
pub record AreRows (k s : ℕ) (rows : List Packet) : Type 0 where
  pub packets : List Packet
  pub fit : All (Fits k s) packets
  pub stand : StandForAll k s packets rows
