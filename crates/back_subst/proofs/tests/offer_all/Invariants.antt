use Rattle.std.proofs.Common.{◌≡◌, ◌≤◌, ◌+◌, length}
use Rattle.shared_basis.specs.Passes.{IsPassOf}
use Rattle.back_subst.proofs.tests.offer_all.Given as goal

-- the pass keeps room for the packets that are left
abbrev pub invariant-loop-packet : goal.invariant-loop-packet
invariant-loop-packet l = record {
  pass : IsPassOf l.basis l.pass;
  number : l.pass.number ≡ l.fn.pass.number;
  room : length l.packets ≤ l.pass.spare + l.packet-index;
}
