use Rattle.packet_wire.proofs.FaultKindLemmas.{few_in_stream}
use Rattle.packet_wire.proofs.laws.sizes.Goals as goal

pub returns : goal.returns
returns c = few_in_stream
