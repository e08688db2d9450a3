use Rattle.std.proofs.Common.{◌≡◌, drop, length, reverse, take}
use Rattle.shared_reception.specs.Steps.{AreDealt}
use Rattle.shared_reception.proofs.dealing.deal_out.Given as goal

abbrev pub invariant-loop-tag : goal.invariant-loop-tag
invariant-loop-tag l = record {
  left : l.packets.items ≡ reverse (drop l.tag l.fn.packets.items);
  dealt : AreDealt l.receivers (length l.workers) (take l.tag l.fn.packets.items) l.workers;
}
