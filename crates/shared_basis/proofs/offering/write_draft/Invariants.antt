use Rattle.std.proofs.Common.{◌≡◌, ◌<◌, take}
use Rattle.table_rows.specs.Seats.{IsCallerAt}
use Rattle.table_rows.specs.Steps.{IsSoundView, after_writes}
use Rattle.shared_basis.proofs.offering.write_draft.Given as goal

-- the words so far were written
abbrev pub invariant-loop-place : goal.invariant-loop-place
invariant-loop-place l = record {
  seat : IsCallerAt l.table l.seat;
  view : l.seat.view ≡ after_writes l.fn.seat.view (take l.place l.words);
  sound : 0 < l.place → IsSoundView l.seat.view;
}
