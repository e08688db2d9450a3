use Rattle.std.specs.List.{All}
use Rattle.linear_spec.specs.Passing.{IsTestable}
use Rattle.shared_reception.proofs.tests.make_packets.Given as goal

abbrev pub invariant-loop-row : goal.invariant-loop-row
invariant-loop-row l = All (IsTestable l.equations) l.packets.items
