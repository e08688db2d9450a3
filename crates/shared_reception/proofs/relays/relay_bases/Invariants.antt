use Rattle.std.proofs.Common.{◌≡◌, length, map, reverse}
use Rattle.shared_reception.specs.Relayed.{sent_from}
use Rattle.shared_reception.specs.Relaying.{IsRelayedOf}
use Rattle.shared_reception.proofs.Closings.{AreClosedFrom}
use Rattle.shared_reception.proofs.relays.relay_bases.Given as goal

abbrev pub invariant-loop-basis : goal.invariant-loop-basis
invariant-loop-basis l = record {
  closed : AreClosedFrom (IsRelayedOf l.sending l.fn.bases.items l.fn.workers.items) l.fn.bases.items l.fn.workers.items l.bases.items l.workers.items l.list.items;
  sent : reverse l.sent.items
      ≡ sent_from l.equations.k l.equations.s l.sending (length l.bases.items) (map (λ closed. closed.records.items) (reverse l.list.items));
}

abbrev pub decreases-loop-basis : goal.decreases-loop-basis
decreases-loop-basis l = length l.bases.items
