use Rattle.std.proofs.Common.{◌≡◌, length, ap, ◌∙◌, arith}
use Rattle.recode.proofs.DrawLemmas.{length-combination}
use Rattle.recode.proofs.draws.draw_polluted.Goals as goal

pub pollute-requires : goal.pollute-requires
pollute-requires c =
    let long : length c.draw-drawn.new.out.payload ≡ c.args.basis.now.parameters.s =
    ap (λ packet. length packet.payload) c.in-Sent.ensures.packet ∙ length-combination c.args.basis.now.parameters.s _ _ in
    omega (arith, c.requires.symbols)
