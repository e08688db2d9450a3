use Rattle.std.proofs.Common.{◌≡◌, ◌+◌, [], drop, get_or, take}
use Rattle.table_rows.specs.Seats.{IsCallerAt}
use Rattle.table_rows.specs.Steps.{IsSoundView}
use Rattle.table_rows.specs.Views.{words_read}
use Rattle.shared_basis.proofs.looking.read_rest.Given as goal

-- the words so far are those of the region, and cost one read each
abbrev pub invariant-loop-place : goal.invariant-loop-place
invariant-loop-place l = record {
  seat : IsCallerAt l.table l.seat;
  view : l.seat.view ≡ record l.fn.seat.view { reads = l.fn.seat.view.reads + l.place };
  words : take l.place l.words ≡ take l.place (drop l.from (get_or (words_read l.fn.seat.view.sight.front) l.n []));
  sound : IsSoundView l.seat.view;
}
