use Rattle.packet_wire.proofs.Answering.{meaning, one_given}
use Rattle.packet_wire.proofs.laws.decoders.Goals as goal

pub returns-clause-meaning : goal.returns-clause-meaning
returns-clause-meaning c = meaning

pub returns-clause-one_given : goal.returns-clause-one_given
returns-clause-one_given c =
    let laws = c.bytes_spell_symbols.ensures in
    one_given laws
