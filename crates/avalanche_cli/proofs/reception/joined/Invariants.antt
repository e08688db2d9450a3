use Rattle.std.proofs.Common.{take}
use Rattle.generation.specs.Shape.{symbols_per_block}
use Rattle.avalanche_cli.specs.Reception.{AreSolvedBytes, packets_in}
use Rattle.avalanche_cli.proofs.reception.joined.Given as goal

-- the bytes of the bases so far
abbrev pub invariant-loop-basis : goal.invariant-loop-basis
invariant-loop-basis g l = record {
  solved : AreSolvedBytes l.shape.k (symbols_per_block l.shape) (packets_in (take l.basis-index l.basis-items)) l.file.items;
}
