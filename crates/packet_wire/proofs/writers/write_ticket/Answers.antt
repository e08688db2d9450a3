use Rattle.std.proofs.Common.{◌≡◌, ◌+◌, ◌*◌, ◌++◌, length, rules}
use Rattle.linear_spec.specs.Symbols.{be_bytes_of}
use Rattle.packet_wire.specs.Frame.{head}
use Rattle.packet_wire.proofs.Written.{ticket_written}
use Rattle.packet_wire.proofs.writers.write_ticket.Goals as goal

pub returns-clause-ok : goal.returns-clause-ok
returns-clause-ok c =
    let ticket = c.args.ticket.now in
    let len = 33 + 2 * length c.as_slice-sums.result.now in
    let counted : len ≡ 33 + 2 * length ticket.sums = search rules in
    let headed : c.start_frame.new.out.items ≡ c.args.out.now.items ++ head 2 len = search rules in
    let key_length : length ticket.key ≡ 32 = search rules in
    let sums : c.put_symbols.new.out.items ≡ c.put.new.self.items ++ be_bytes_of ticket.sums = search rules in
    ticket_written c.bytes_spell_symbols.ensures ticket len _ _ _ _ _ key_length counted headed c.put_bytes.ensures.items c.put.ensures.items sums
