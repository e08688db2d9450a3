use Rattle.std.proofs.Common.{◌≡◌, ◌+◌, take}
use Rattle.table_rows.specs.Seats.{IsCallerAt}
use Rattle.shared_basis.specs.Desks.{IsDesk}
use Rattle.shared_basis.specs.Regions.{rows_seen}
use Rattle.shared_basis.proofs.ColumnLemmas.{AreMarked}
use Rattle.shared_basis.proofs.columns.mark_missing.Given as goal

-- the columns are marked by the rows so far, each of which cost one read
abbrev pub invariant-loop-n : goal.invariant-loop-n
invariant-loop-n l = record {
  desk : IsDesk l.desk;
  seat : IsCallerAt l.table l.desk.seat;
  view : l.desk.seat.view ≡ record l.fn.desk.seat.view { reads = l.fn.desk.seat.view.reads + l.n };
  known : l.desk.known ≡ l.fn.desk.known;
  marked : AreMarked l.table.parameters.k (take l.n (rows_seen l.fn.desk.seat.view)) l.out;
}
