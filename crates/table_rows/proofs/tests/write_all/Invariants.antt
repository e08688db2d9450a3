use Rattle.std.proofs.Common.{◌≡◌, ◌++◌, map, take, drop}
use Rattle.std.specs.Prelude.{Some}
use Rattle.table_rows.specs.Seats.{IsCallerAt}
use Rattle.table_rows.proofs.tests.write_all.Given as goal

abbrev pub invariant-loop-place : goal.invariant-loop-place
invariant-loop-place l = record {
  seat : IsCallerAt l.table l.seat;
  view : l.seat.view ≡ record l.fn.seat.view { written = map Some (take l.place l.words) ++ drop l.place l.fn.seat.view.written };
}
