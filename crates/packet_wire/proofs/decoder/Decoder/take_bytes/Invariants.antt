use Rattle.std.proofs.Common.{take}
use Rattle.packet_wire.specs.Decoding.{IsFed}
use Rattle.packet_wire.proofs.decoder.Decoder.take_bytes.Given as goal

-- the bytes so far were taken
abbrev pub invariant-loop-byte : goal.invariant-loop-byte
invariant-loop-byte l = IsFed l.initial.self (take l.byte-index l.piece) l.self l.initial.frames.items l.frames.items
