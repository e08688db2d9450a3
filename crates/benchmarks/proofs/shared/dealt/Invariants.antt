use Rattle.std.proofs.Common.{◌≤◌, length}
use Rattle.std.specs.List.{All}
use Rattle.benchmarks.specs.Offers.{IsOffered}
use Rattle.benchmarks.proofs.shared.dealt.Given as goal

-- the copies so far
abbrev pub invariant-loop-place : goal.invariant-loop-place
invariant-loop-place l = record {
  few : length l.inbox.items ≤ l.place;
  offered : All (λ tagged. IsOffered l.k l.s tagged.packet) l.inbox.items;
}
