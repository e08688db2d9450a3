use Rattle.std.proofs.Common.{◌≡◌, ◌+◌, ◌*◌, ◌++◌, length, rules}
use Rattle.std.specs.Int.{w16, to_be_bytes}
use Rattle.linear_spec.specs.Symbols.{be_bytes_of}
use Rattle.packet_wire.specs.Frame.{head}
use Rattle.packet_wire.proofs.Written.{packet_written}
use Rattle.packet_wire.proofs.writers.write_packet.Goals as goal

pub returns-clause-ok : goal.returns-clause-ok
returns-clause-ok c =
    let packet = c.args.packet.now in
    let len = 2 + 2 * length c.as_slice-coeffs.result.now + 2 * length c.as_slice-payload.result.now in
    let counted : len ≡ 2 + 2 * length packet.coeffs + 2 * length packet.payload = search rules in
    let headed : c.start_frame.new.out.items ≡ c.args.out.now.items ++ head 3 len = search rules in
    let generation : c.put_bytes.new.out.items ≡ c.start_frame.new.out.items ++ to_be_bytes w16 packet.generation = search rules in
    let coeffs : c.put_symbols.new.out.items ≡ c.put_bytes.new.out.items ++ be_bytes_of packet.coeffs = search rules in
    let payload : c.put_symbols-2.new.out.items ≡ c.put_symbols.new.out.items ++ be_bytes_of packet.payload = search rules in
    packet_written c.bytes_spell_symbols.ensures packet len _ _ _ _ _ counted headed generation coeffs payload
