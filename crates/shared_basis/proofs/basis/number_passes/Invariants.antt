use Rattle.std.proofs.Common.{◌≡◌, None, replicate}
use Rattle.table_rows.specs.Seats.{IsFounderAt}
use Rattle.table_rows.specs.Views.{first_sight}
use Rattle.shared_basis.specs.Passes.{AreNewPasses}
use Rattle.shared_basis.proofs.basis.number_passes.Given as goal

abbrev pub invariant-loop-number : goal.invariant-loop-number
invariant-loop-number l = record {
  founder : IsFounderAt l.table l.founder;
  numbers : l.founder.view ≡ record { sight = first_sight l.table.parameters; joined = replicate l.number None };
  list : AreNewPasses (record { table = l.table.table; parameters = l.table.parameters; peer = l.params.peer }) l.number l.room l.list.items;
}
