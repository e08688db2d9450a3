use denote.Param.Send.{sendable}
use Rattle.receive_pass.proofs.Sent.{worker_send}
use Rattle.receive_pass.proofs.inbox.receive_all.Goals as goal

pub for_each_mut-requires-send-T : goal.for_each_mut-requires-send-T
for_each_mut-requires-send-T g c κs within = search (sendable, worker_send)
