use Rattle.std.proofs.Common.{take}
use Rattle.packet_wire.specs.Decoding.{IsFed, joined}
use Rattle.packet_wire.proofs.decoder.Decoder.take_pieces.Given as goal

-- the pieces so far were taken
abbrev pub invariant-loop-piece : goal.invariant-loop-piece
invariant-loop-piece l = IsFed l.initial.self (joined (take l.piece-index l.pieces)) l.self l.initial.frames.items l.frames.items
