use denote.Param.Send.{sendable}
use Rattle.linear_spec.proofs.packet.Packet.TheSendSync as packet
use Rattle.shared_basis.proofs.basis.SharedBasis.TheSendSync as basis
use Rattle.shared_basis.proofs.Sent.{pass_send}
use Rattle.shared_basis.proofs.tests.offered_by_two.Goals as goal

pub join-requires-send-F : goal.join-requires-send-F
join-requires-send-F g c κs within = search (sendable, pass_send, packet.the_sync, basis.the_sync) depth 20

pub join-requires-send-A : goal.join-requires-send-A
join-requires-send-A g c κs within = search (sendable, pass_send) depth 20
