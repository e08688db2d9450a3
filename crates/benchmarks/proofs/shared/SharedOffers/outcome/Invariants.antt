use Rattle.std.proofs.Common.{◌*◌, ◌≤◌}
use Rattle.benchmarks.proofs.shared.SharedOffers.outcome.Given as goal

-- the records and exchanges of the turns so far
abbrev pub invariant-loop-turn : goal.invariant-loop-turn
invariant-loop-turn g l = record {
  records : l.records ≤ l._turn * l.self.offers.k;
  tried : l.tried ≤ l._turn * (l.self.passes * l.self.offers.k);
  lost : l.lost ≤ l.tried;
}
