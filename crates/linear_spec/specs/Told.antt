-- What rows tell of a packet.
-- k, s: the numbers of coefficients and of payload symbols of each packet. packets: those that the rows stand for.
use Rattle.std.specs.Prelude.{ℕ, List}
use Rattle.std.specs.List.{All}
use Rattle.linear_spec.specs.declared.packet.Packet.{Packet}
use Rattle.linear_spec.specs.declared.cases.Case.{Case}
use Rattle.linear_spec.specs.declared.cases.Case.TheVariants.{Fresh, Within, Conflicting}
use Rattle.linear_spec.specs.Packet.{Fits}
use Rattle.linear_spec.specs.Cases.{IsFresh, IsWithin, IsConflicting}
use Rattle.linear_spec.specs.Rows.{StandsFor, StandForAll}

-- the packets fit, as the packet does, and the rows stand for them
pub record StandBefore (k s : ℕ) (packets rows : List Packet) (packet : Packet) : Type 0 where
  pub fits : Fits k s packet
  pub fit : All (Fits k s) packets
  pub stand : StandForAll k s packets rows

-- the rows stand for some packets, all of the packet's lengths
pub record AreRowsFor (packet : Packet) (rows : List Packet) : Type 0 where
  pub k : ℕ
  pub s : ℕ
  pub packets : List Packet
  pub before : StandBefore k s packets rows packet

-- the packet is of this case after the packets, and its row stands for it where it is fresh
abbrev pub IsCaseAt : ℕ → ℕ → List Packet → List Packet → Packet → Case → Type 0
IsCaseAt k s packets rows packet (Fresh row) = IsFresh k packets packet × StandsFor k s packets rows packet row
IsCaseAt k s packets rows packet Within = IsWithin k s packets packet
IsCaseAt k s packets rows packet Conflicting = IsConflicting k s packets packet

-- the packet is of this case after whatever packets the rows stand for
abbrev pub Tells : List Packet → Packet → Case → Type 0
Tells rows packet case = (k s : ℕ) (packets : List Packet) → StandBefore k s packets rows packet → IsCaseAt k s packets rows packet case
