use Rattle.packet_wire.proofs.Streams.{streams_differ}
use Rattle.packet_wire.proofs.laws.spellings.Goals as goal

pub returns-clause-differ : goal.returns-clause-differ
returns-clause-differ c = streams_differ
