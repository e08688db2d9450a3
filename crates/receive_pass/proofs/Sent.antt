-- That a worker may go to another thread: all that it holds may.
use denote.Struct.Declared.{shape}
use denote.Param.Send.{IsSend, recorded_send, sendable, struct_send}
use Rattle.linear_spec.proofs.list.List.TheSendSync as list
use Rattle.shared_basis.proofs.Sent.{pass_send}
use Rattle.receive_pass.proofs.worker.TaggedPacket.TheSendSync as tagged
use Rattle.receive_pass.specs.contracts.worker.Worker.{the_field, the_row, the_type}

pub worker_send : IsSend the_row
worker_send =
    recorded_send the_field.row _ _ the_type.to_one
    (struct_send (shape the_type) (search sendable, (list.the_send _ pass_send, (list.the_send _ tagged.the_send, tt))))
