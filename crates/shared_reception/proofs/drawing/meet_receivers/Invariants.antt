use Rattle.shared_basis.specs.Passes.{HasNotCalled, SeesOn}
use Rattle.shared_reception.proofs.Changes.{AreChangedBelow}
use Rattle.shared_reception.proofs.Senders.{MetBy}
use Rattle.shared_reception.proofs.drawing.meet_receivers.Given as goal

abbrev pub invariant-loop-receiver : goal.invariant-loop-receiver
invariant-loop-receiver l = record {
  met : AreChangedBelow (MetBy l.sender) l.receiver-index l.initial.receivers l.receivers;
  sees : SeesOn l.initial.sender l.sender;
  quiet : HasNotCalled l.initial.sender l.sender;
}
