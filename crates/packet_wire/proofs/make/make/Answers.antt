use Rattle.std.proofs.Common.{subst, rules}
use Rattle.packet_wire.specs.declared.phase.Phase.{Phase}
use Rattle.packet_wire.specs.Making.{IsWholeFrame}
use Rattle.packet_wire.proofs.Wholes.{none_after_end, whole_manifest, whole_packet, whole_ticket}
use Rattle.packet_wire.proofs.make.make.Goals as goal

pub make_manifest-requires-clause-count : goal.make_manifest-requires-clause-count
make_manifest-requires-clause-count c =
    let laws = c.bytes_spell_symbols.ensures in
    let held = c.args.held.now in
    let whole = subst (λ (phase : Phase). IsWholeFrame phase held) c.in-BeforeManifest.is c.requires in
    let known = whole_manifest laws held c.are_bytes.ensures whole in
    known.0

pub make_manifest-requires-clause-shape : goal.make_manifest-requires-clause-shape
make_manifest-requires-clause-shape c =
    let laws = c.bytes_spell_symbols.ensures in
    let held = c.args.held.now in
    let whole = subst (λ (phase : Phase). IsWholeFrame phase held) c.in-BeforeManifest.is c.requires in
    let known = whole_manifest laws held c.are_bytes.ensures whole in
    known.1

pub make_ticket-requires : goal.make_ticket-requires
make_ticket-requires c =
    let laws = c.bytes_spell_symbols.ensures in
    let held = c.args.held.now in
    let whole = subst (λ (phase : Phase). IsWholeFrame phase held) c.in-BeforeTicket.is c.requires in
    whole_ticket laws c.in-BeforeTicket.field-0 held c.are_bytes.ensures whole

pub make_packet-requires : goal.make_packet-requires
make_packet-requires c =
    let laws = c.bytes_spell_symbols.ensures in
    let held = c.args.held.now in
    let whole = subst (λ (phase : Phase). IsWholeFrame phase held) c.in-BeforeEnd.is c.requires in
    whole_packet laws c.in-BeforeEnd.shape held c.are_bytes.ensures whole (search rules)

pub unreachable-requires : goal.unreachable-requires
unreachable-requires c =
    let held = c.args.held.now in
    none_after_end held (subst (λ (phase : Phase). IsWholeFrame phase held) c.in-Ended.is c.requires)
