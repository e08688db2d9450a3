use Rattle.std.proofs.Common.{◌*◌, ◌≤◌}
use Rattle.benchmarks.proofs.offers.Offers.records_of_plain.Given as goal

-- the records of the turns so far
abbrev pub invariant-loop-turn : goal.invariant-loop-turn
invariant-loop-turn l = l.records ≤ l._turn * l.self.k
