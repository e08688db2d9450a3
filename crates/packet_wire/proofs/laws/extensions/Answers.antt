use Rattle.packet_wire.proofs.Prefixes.{begins_on}
use Rattle.packet_wire.proofs.Streams.{failing_on, first_fault_stays}
use Rattle.packet_wire.proofs.laws.extensions.Goals as goal

pub returns-clause-fault : goal.returns-clause-fault
returns-clause-fault c = first_fault_stays

pub returns-clause-frames : goal.returns-clause-frames
returns-clause-frames c = failing_on

pub returns-clause-front : goal.returns-clause-front
returns-clause-front c = begins_on
