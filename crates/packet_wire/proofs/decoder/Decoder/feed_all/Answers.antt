use Rattle.packet_wire.specs.Decoding.{joined}
use Rattle.packet_wire.proofs.Answering.{fails_in, nothing_fails_in, reads_on, out_of_memory, stays_at_fault, stays_out, unless_memory}
use Rattle.packet_wire.proofs.decoder.Decoder.feed_all.Goals as goal

pub returns-clause-after : goal.returns-clause-after
returns-clause-after c = unless_memory c.take_pieces.new.self.failure c.answer.result _ c.answer.ensures c.take_pieces.ensures.goes_on

pub returns-clause-ok_only : goal.returns-clause-ok_only
returns-clause-ok_only c =
    let laws = c.bytes_spell_symbols.ensures in
    nothing_fails_in laws c.args.self.now (joined c.args.pieces.now) c.take_pieces.new.self c.args.frames.now.items c.take_pieces.new.frames.items c.answer.result c.take_pieces.ensures c.answer.ensures

pub returns-clause-ok : goal.returns-clause-ok
returns-clause-ok c =
    reads_on c.args.self.now (joined c.args.pieces.now) c.take_pieces.new.self c.args.frames.now.items c.take_pieces.new.frames.items c.answer.result c.take_pieces.ensures c.answer.ensures

pub returns-clause-fault : goal.returns-clause-fault
returns-clause-fault c =
    fails_in c.args.self.now (joined c.args.pieces.now) c.take_pieces.new.self c.args.frames.now.items c.take_pieces.new.frames.items c.answer.result c.take_pieces.ensures c.answer.ensures

pub returns-clause-same_fault : goal.returns-clause-same_fault
returns-clause-same_fault c =
    let laws = c.bytes_spell_symbols.ensures in
    stays_at_fault laws c.args.self.now (joined c.args.pieces.now) c.take_pieces.new.self c.args.frames.now.items c.take_pieces.new.frames.items c.answer.result c.take_pieces.ensures c.answer.ensures

pub returns-clause-memory : goal.returns-clause-memory
returns-clause-memory c = out_of_memory c.take_pieces.new.self c.answer.result c.answer.ensures

pub returns-clause-stopped : goal.returns-clause-stopped
returns-clause-stopped c =
    stays_out c.args.self.now (joined c.args.pieces.now) c.take_pieces.new.self c.args.frames.now.items c.take_pieces.new.frames.items c.answer.result c.take_pieces.ensures c.answer.ensures
