use Rattle.std.proofs.Common.{take}
use Rattle.std.specs.List.{All}
use Rattle.avalanche_cli.specs.Reception.{IsFull}
use Rattle.avalanche_cli.proofs.reception.all_full.Given as goal

-- the bases so far are full
abbrev pub invariant-loop-generation : goal.invariant-loop-generation
invariant-loop-generation l = All (IsFull l.k) (take l.generation l.basis-items)
