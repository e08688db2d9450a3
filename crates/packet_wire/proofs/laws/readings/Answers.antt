use Rattle.packet_wire.specs.declared.phase.Phase.TheVariants.{BeforeManifest}
use Rattle.packet_wire.proofs.Readings.{not_both, one_reading}
use Rattle.packet_wire.proofs.Streams.{one_contents, one_failing, one_first_fault, stream_or_fault, stream_or_first_fault}
use Rattle.packet_wire.proofs.laws.readings.Goals as goal

pub returns-clause-some : goal.returns-clause-some
returns-clause-some c =
    let laws = c.bytes_spell_symbols.ensures in
    stream_or_first_fault laws

pub returns-clause-not_both : goal.returns-clause-not_both
returns-clause-not_both c =
    let laws = c.bytes_spell_symbols.ensures in
    stream_or_fault laws

pub returns-clause-one_contents : goal.returns-clause-one_contents
returns-clause-one_contents c =
    let laws = c.bytes_spell_symbols.ensures in
    one_contents laws

pub returns-clause-one_fault : goal.returns-clause-one_fault
returns-clause-one_fault c =
    let laws = c.bytes_spell_symbols.ensures in
    one_first_fault laws

pub returns-clause-one_front : goal.returns-clause-one_front
returns-clause-one_front c =
    let laws = c.bytes_spell_symbols.ensures in
    λ bytes fs gs x y x-is y-is. let one = one_failing laws bytes fs gs x y x-is y-is in one.0

pub returns-clause-read_or_failing : goal.returns-clause-read_or_failing
returns-clause-read_or_failing c =
    let laws = c.bytes_spell_symbols.ensures in
    λ bytes rest fs fault read failing. not_both laws BeforeManifest bytes fs failing.0 rest failing.1.0 tt read failing.1.1

pub returns-clause-one_reading : goal.returns-clause-one_reading
returns-clause-one_reading c =
    let laws = c.bytes_spell_symbols.ensures in
    λ bytes rest rest' fs gs r s. let one = one_reading laws BeforeManifest bytes fs gs rest rest' tt r s in one.0
