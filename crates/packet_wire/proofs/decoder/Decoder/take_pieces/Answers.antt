use Rattle.std.proofs.Common.{◌≡◌, ◌+◌, ◌<◌, ◌++◌, ◌∷◌, [], length, get_or, take, List, ℕ, ap, arith, subst, sym, ◌∙◌}
use Rattle.std.specs.Borrow.{Bor}
use Rattle.std.proofs.lemmas.Grind.{flat_map-append}
use Rattle.std.proofs.lemmas.List.{append-nil, take_more}
use Rattle.std.proofs.lemmas.List.Folds.{length-flat_map-take}
use Rattle.packet_wire.specs.Decoding.{IsFed, joined}
use Rattle.packet_wire.proofs.Feeding.{fed_both, fed_nothing}
use Rattle.packet_wire.proofs.decoder.Decoder.take_pieces.Goals as goal

joined_more : (pieces : List (Bor (List ℕ))) (i : ℕ) (none : Bor (List ℕ)) → i < length pieces → joined (take (i + 1) pieces) ≡ joined (take i pieces) ++ (get_or pieces i none).now
joined_more pieces i none there =
    ap joined (take_more pieces i none there) ∙ flat_map-append (λ (p : Bor (List ℕ)). p.now) (take i pieces) (get_or pieces i none ∷ [])
    ∙ ap (λ (s : List ℕ). joined (take i pieces) ++ s) (append-nil (get_or pieces i none).now)

pub loop-piece-init : goal.loop-piece-init
loop-piece-init c = fed_nothing c.args.self.now c.args.frames.now.items

pub take_bytes-requires : goal.take_bytes-requires
take_bytes-requires c =
    let pieces = c.args.pieces.now in
    let i = c.loop-piece.piece-index in
    let none : Bor (List ℕ) = record { ref_ptr = (0, 0); now = [] } in
    let there : i < length pieces = omega arith in
    omega (arith, c.loop-piece.invariant.taken, length-flat_map-take (λ (p : Bor (List ℕ)). p.now) pieces i none there)

pub loop-piece-preserved : goal.loop-piece-preserved
loop-piece-preserved c =
    let pieces = c.args.pieces.now in
    let i = c.loop-piece.piece-index in
    let none : Bor (List ℕ) = record { ref_ptr = (0, 0); now = [] } in
    let there : i < length pieces = omega arith in
    let both = fed_both c.args.self.now (joined (take i pieces)) c.loop-piece.self (get_or pieces i none).now c.take_bytes.new.self c.args.frames.now.items c.loop-piece.frames.items c.take_bytes.new.frames.items c.loop-piece.invariant c.take_bytes.ensures in
    subst (λ (s : List ℕ). IsFed c.args.self.now s c.take_bytes.new.self c.args.frames.now.items c.take_bytes.new.frames.items) (sym (joined_more pieces i none there)) both
