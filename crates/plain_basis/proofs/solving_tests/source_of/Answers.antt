use Rattle.std.proofs.Common.{◌≡◌, ℕ, ◌+◌, List, [], ◌∷◌, ◌++◌, length, ap, sym, subst, arith}
use Rattle.std.specs.List.{All}
use Rattle.std.proofs.lemmas.List.{length_push}
use Rattle.std.proofs.lemmas.List.Elements.{All-push}
use Rattle.linear_spec.specs.declared.packet.Packet.{Packet}
use Rattle.linear_spec.specs.Packet.{Fits}
use Rattle.plain_basis.proofs.solving_tests.source_of.Goals as goal

count_push : (i : ℕ) (packets after : List Packet) (packet : Packet) → length packets ≡ i → after ≡ packets ++ packet ∷ [] → length after ≡ i + 1
count_push i packets after packet count pushed = omega (arith, ap length pushed, length_push packets packet)

fit_push : (packets after : List Packet) (packet : Packet) → All (Fits 64 512) packets → Fits 64 512 packet → after ≡ packets ++ packet ∷ []
    → All (Fits 64 512) after
fit_push packets after packet fit fits pushed = subst (All (Fits 64 512)) (sym pushed) (All-push (Fits 64 512) packets packet fit fits)

pub loop-block-preserved : goal.loop-block-preserved
loop-block-preserved c = record {
  count = count_push c.loop-block.block c.loop-block.source.items c.push.new.self.items c.in_ok-packet.packet c.loop-block.invariant.count c.in_ok-push.ensures.ok;
  fit = fit_push c.loop-block.source.items c.push.new.self.items c.in_ok-packet.packet c.loop-block.invariant.fit c.in_ok-packet.ensures c.in_ok-push.ensures.ok;
}
