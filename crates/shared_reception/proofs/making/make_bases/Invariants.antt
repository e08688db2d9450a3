use Rattle.std.proofs.Common.{◌≡◌, length}
use Rattle.shared_reception.specs.Steps.{HaveBases}
use Rattle.shared_reception.proofs.making.make_bases.Given as goal

abbrev pub invariant-loop-generation : goal.invariant-loop-generation
invariant-loop-generation l = record {
  count : length l.bases.items ≡ l.generation;
  have : HaveBases l.equations l.room l.bases.items l.initial.workers l.workers;
}
