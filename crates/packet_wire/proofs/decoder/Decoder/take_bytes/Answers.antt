use Rattle.std.proofs.Common.{◌<◌, ◌∷◌, [], length, get_or, take, List, ℕ, arith, subst, sym}
use Rattle.std.proofs.lemmas.List.{take_more}
use Rattle.packet_wire.specs.Decoding.{IsFed}
use Rattle.packet_wire.proofs.Feeding.{fed_both, fed_nothing}
use Rattle.packet_wire.proofs.decoder.Decoder.take_bytes.Goals as goal

pub loop-byte-init : goal.loop-byte-init
loop-byte-init c = fed_nothing c.args.self.now c.args.frames.now.items

pub loop-byte-preserved : goal.loop-byte-preserved
loop-byte-preserved c =
    let piece = c.args.piece.now in
    let i = c.loop-byte.byte-index in
    let there : i < length piece = omega arith in
    let both = fed_both c.args.self.now (take i piece) c.loop-byte.self (get_or piece i 0 ∷ []) c.take_byte.new.self c.args.frames.now.items c.loop-byte.frames.items c.take_byte.new.frames.items c.loop-byte.invariant c.take_byte.ensures in
    subst (λ (s : List ℕ). IsFed c.args.self.now s c.take_byte.new.self c.args.frames.now.items c.take_byte.new.frames.items) (sym (take_more piece i 0 there)) both
