use Rattle.std.proofs.Common.{ℕ, ◌-◌, List, length}
use Rattle.table_rows.specs.Seats.{IsCallerAt}
use Rattle.shared_basis.specs.Desks.{IsDesk}
use Rattle.shared_basis.specs.Regions.{HasFound}
use Rattle.shared_basis.proofs.looking.look_on.Given as goal

-- the regions so far were found
abbrev pub invariant-loop-desk : goal.invariant-loop-desk
invariant-loop-desk l = record {
  desk : IsDesk l.desk;
  seat : IsCallerAt l.table l.desk.seat;
  found : (more : List (List ℕ)) × HasFound more l.fn.desk.seat.view l.desk.seat.view;
}

abbrev pub decreases-loop-desk : goal.decreases-loop-desk
decreases-loop-desk l = l.k - length l.desk.known.items
