-- What a pass works with at the words, between its calls and within them.
use Rattle.std.specs.Prelude.{◌≡◌, ◌+◌, ◌^◌, ◌<◌, ◌≤◌, length, vec_len}
use Rattle.linear_spec.specs.declared.packet.Packet.{Packet}
use Rattle.linear_spec.specs.Packet.{vector_of}
use Rattle.linear_spec.specs.Rows.{remainder_of}
use Rattle.table_rows.specs.declared.view.Parameters.{Parameters}
use Rattle.table_rows.specs.Steps.{IsSoundView}
use Rattle.table_rows.specs.Views.{IsPartOf, IsReadWhole, width_of}
use Rattle.shared_basis.specs.declared.desk.Desk.{Desk}
use Rattle.shared_basis.specs.Regions.{rows_seen}

-- the packet has as many coefficients and payload symbols as those of the basis
pub record HasLengths (p : Parameters) (packet : Packet) : Type 0 where
  pub coeffs : length packet.coeffs ≡ p.k
  pub payload : length packet.payload ≡ p.s

-- the seat's view is sound and read whole; draft and regions are those of the view; and there is room for what may come
pub record IsDesk (d : Desk) : Type 0 where
  pub sound : IsSoundView d.seat.view
  pub whole : IsReadWhole d.seat.view.sight.front
  pub draft : d.draft ≡ d.seat.view.draft
  pub known : d.known.items ≡ d.seat.view.sight.front.known
  pub room : d.seat.view.sight.parameters.k ≤ length d.known.items + d.known.spare
  pub words : vec_len d.words ≡ width_of d.seat.view.sight.parameters
  pub narrow : width_of d.seat.view.sight.parameters < 2 ^ 32
  pub left : HasLengths d.seat.view.sight.parameters d.left
  pub row : HasLengths d.seat.view.sight.parameters d.row

-- what the rows that were seen leave of the packet
abbrev pub IsLeftOf : Packet → Desk → Type 0
IsLeftOf packet d = vector_of d.left ≡ remainder_of (rows_seen d.seat.view) (vector_of packet)

-- after a desk was brought together with another: its front is the longer of the two, each a part of it, and it is sound. The rest
-- is as before, but for what was written into the draft; the list of regions is not yet that of the front
pub record IsBrought (before other after : Desk) : Type 0 where
  pub sound : IsSoundView after.seat.view
  pub whole : IsReadWhole after.seat.view.sight.front
  pub parameters : after.seat.view.sight.parameters ≡ before.seat.view.sight.parameters
  pub table : after.seat.table ≡ before.seat.table
  pub number : after.seat.view.number ≡ before.seat.view.number
  pub own : after.seat.view.own ≡ before.seat.view.own
  pub draft : after.seat.view.draft ≡ before.seat.view.draft
  pub part : IsPartOf before.seat.view.sight.front after.seat.view.sight.front
  pub first : length other.seat.view.sight.front.known ≤ length before.seat.view.sight.front.known
      → after.seat.view.sight.front ≡ before.seat.view.sight.front
  pub second : length before.seat.view.sight.front.known ≤ length other.seat.view.sight.front.known
      → after.seat.view.sight.front ≡ other.seat.view.sight.front
  pub draft_kept : after.draft ≡ before.draft
  pub known_kept : after.known ≡ before.known
  pub words_kept : after.words ≡ before.words
  pub left_kept : after.left ≡ before.left
  pub row_kept : after.row ≡ before.row
