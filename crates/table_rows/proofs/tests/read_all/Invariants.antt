use Rattle.std.proofs.Common.{◌≡◌, ◌+◌, ◌++◌, length, map, take, drop, get_or, set, []}
use Rattle.std.specs.Prelude.{Some}
use Rattle.table_rows.specs.Seats.{IsCallerAt}
use Rattle.table_rows.specs.declared.view.CallerView.{CallerView}
use Rattle.table_rows.proofs.tests.read_all.Given as goal

abbrev pub invariant-loop-place : goal.invariant-loop-place
invariant-loop-place l = let v : CallerView = l.fn.seat.view in record {
  seat : IsCallerAt l.table l.seat;
  long : length l.words ≡ 6;
  view : l.seat.view ≡ record v {
    sight = record v.sight {
      front = record v.sight.front {
        read = set v.sight.front.read l.n (map Some (take l.place l.words) ++ drop l.place (get_or v.sight.front.read l.n []));
      };
    };
    reads = v.reads + l.place;
  };
}
