use Rattle.packet_wire.proofs.Prefixes.{first_of_failing, first_of_read}
use Rattle.packet_wire.proofs.Streams.{stream_is_read}
use Rattle.packet_wire.proofs.laws.fronts.Goals as goal

pub returns-clause-read : goal.returns-clause-read
returns-clause-read c =
    first_of_read c.bytes_spell_symbols.ensures

pub returns-clause-failing : goal.returns-clause-failing
returns-clause-failing c =
    first_of_failing c.bytes_spell_symbols.ensures

pub returns-clause-stream : goal.returns-clause-stream
returns-clause-stream c = stream_is_read
