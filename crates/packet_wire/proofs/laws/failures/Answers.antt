use Rattle.packet_wire.proofs.FaultKindLemmas.{failing_kind}
use Rattle.packet_wire.proofs.laws.failures.Goals as goal

pub returns : goal.returns
returns c = failing_kind
