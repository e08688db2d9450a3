-- Which columns a basis still misses.
-- flags: for each column below k whether it is missing.
use Rattle.std.specs.Prelude.{ℕ, ◌<◌, ◌↔◌, Bool, false, List, slice_index_or, IsTrue}
use Rattle.std.specs.List.{Contains}
use Rattle.linear_spec.specs.declared.packet.Packet.{Packet}
use Rattle.linear_spec.specs.Rows.{StandForAll, missing_columns_of}

-- rows stand for the packets, and the flags are true exactly at the columns at which none of these rows has its pivot
pub record TellMissingColumns (k s : ℕ) (packets : List Packet) (flags : List Bool) : Type 0 where
  pub rows : List Packet
  pub stand : StandForAll k s packets rows
  pub columns : (column : ℕ) → column < k → IsTrue (slice_index_or flags column false) ↔ Contains (missing_columns_of k rows) column
