use Rattle.std.proofs.Common.{◌+◌, ◌≤◌}
use Rattle.shared_reception.proofs.Senders.{HasDrawnSome}
use Rattle.shared_reception.proofs.drawing.draw_all.Given as goal

abbrev pub invariant-loop-place : goal.invariant-loop-place
invariant-loop-place l = record {
  drawn : HasDrawnSome l.basis.parameters.k l.basis.parameters.s l.sending l.basis.parameters.generation l.first l.place l.initial.sender l.sender l.sent.items;
  room : l.sending.coded ≤ l.sender.spare + l.place;
}
