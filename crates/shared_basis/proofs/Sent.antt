-- That a pass may go to another thread: all that it holds may.
use denote.Struct.Declared.{shape}
use denote.Param.Send.{IsSend, recorded_send, sendable, struct_send, view_send}
use Rattle.std.specs.contracts.snapshot.Snapshot as Snapshot
use Rattle.linear_spec.specs.contracts.packet.Packet as Packet
use Rattle.linear_spec.proofs.list.List.TheSendSync as list
use Rattle.table_rows.proofs.seats.FounderSeat.TheSendSync as founder
use Rattle.basis_core.proofs.trace.Call.TheSendSync as call
use Rattle.shared_basis.proofs.desk.Desk.TheSendSync as desk
use Rattle.shared_basis.specs.contracts.pass.Pass.{the_row}
use Rattle.shared_basis.specs.contracts.pass.Pass.TheInside as inside

-- a snapshot owns nothing
snapshot_send : IsSend (Snapshot.the_row Packet.the_row)
snapshot_send = record { owned = λ d vs. ((λ vss. (tt, ((λ uss. (tt, tt)), tt))), tt); leaving = λ k f vs. tt }

fields_send : IsSend inside.the_row
fields_send =
    recorded_send inside.the_field.row _ _ inside.the_type.to_one
    (struct_send (shape inside.the_type) (
      desk.the_field_send,
      (
        search (sendable, founder.the_send),
        (
          search sendable,
          (list.the_send _ call.the_send, (list.the_send _ snapshot_send, (search sendable, tt))),
        ),
      ),
    ))

pub pass_send : IsSend the_row
pass_send = view_send _ _ _ _ _ fields_send
