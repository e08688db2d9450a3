use Rattle.std.proofs.Common.{◌≡◌}
use Rattle.benchmarks.specs.Turns.{after_turns}
use Rattle.benchmarks.proofs.work.take_turns.Given as goal

-- the turns so far were taken
abbrev pub invariant-loop-turn : goal.invariant-loop-turn
invariant-loop-turn g l = l.dst ≡ after_turns l.kernel l.turn l.fn.dst l.src
