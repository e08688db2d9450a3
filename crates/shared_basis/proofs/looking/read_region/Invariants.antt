use Rattle.std.proofs.Common.{◌≡◌, ◌<◌, ℕ, List, [], map, take, get_or}
use Rattle.std.specs.Prelude.{Some}
use Rattle.table_rows.specs.Seats.{IsCallerAt}
use Rattle.table_rows.specs.Steps.{IsSoundView, after_reads}
use Rattle.shared_basis.proofs.looking.read_region.Given as goal

-- the words so far were read, and are the same as ever
abbrev pub invariant-loop-place : goal.invariant-loop-place
invariant-loop-place l = record {
  seat : IsCallerAt l.table l.seat;
  view : l.seat.view ≡ after_reads l.fn.seat.view l.n (take l.place l.words);
  again : (before : List ℕ) → get_or l.fn.seat.view.sight.front.read l.n [] ≡ map Some before → take l.place l.words ≡ take l.place before;
  sound : 0 < l.place → IsSoundView l.seat.view;
}
