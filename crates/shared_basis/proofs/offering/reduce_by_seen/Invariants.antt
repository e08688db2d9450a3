use Rattle.std.proofs.Common.{◌≡◌, ◌*◌, take}
use Rattle.linear_spec.specs.Packet.{vector_of}
use Rattle.linear_spec.specs.Rows.{remainder_of}
use Rattle.table_rows.specs.Seats.{IsCallerAt}
use Rattle.table_rows.specs.Views.{width_of}
use Rattle.shared_basis.specs.Desks.{IsDesk}
use Rattle.shared_basis.specs.Regions.{HasReread, rows_seen}
use Rattle.shared_basis.proofs.offering.reduce_by_seen.Given as goal

abbrev pub invariant-loop-n : goal.invariant-loop-n
invariant-loop-n l = record {
  desk : IsDesk l.desk;
  seat : IsCallerAt l.table l.desk.seat;
  view : HasReread (l.n * width_of l.table.parameters) l.initial.desk.seat.view l.desk.seat.view;
  left : vector_of l.desk.left ≡ remainder_of (take l.n (rows_seen l.initial.desk.seat.view)) (vector_of l.initial.desk.left);
  known : l.desk.known ≡ l.initial.desk.known;
}
