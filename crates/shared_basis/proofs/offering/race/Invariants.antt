use Rattle.std.proofs.Common.{ℕ, ◌-◌, List, length}
use Rattle.table_rows.specs.Seats.{IsCallerAt}
use Rattle.shared_basis.specs.Desks.{IsDesk, IsLeftOf}
use Rattle.shared_basis.specs.Regions.{HasFound}
use Rattle.shared_basis.proofs.offering.race.Given as goal

abbrev pub invariant-loop-reply : goal.invariant-loop-reply
invariant-loop-reply l = record {
  desk : IsDesk l.desk;
  seat : IsCallerAt l.table l.desk.seat;
  found : (more : List (List ℕ)) × HasFound more l.initial.desk.seat.view l.desk.seat.view;
  left : IsLeftOf l.packet l.desk;
}

abbrev pub decreases-loop-reply : goal.decreases-loop-reply
decreases-loop-reply l = l.table.parameters.k - length l.desk.known.items
