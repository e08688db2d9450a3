use Rattle.std.proofs.Common.{◌≡◌, ◌<◌, ◌+◌, ℕ, List, [], length, get_or, take, map, refl, ap, sym, subst, ◌∙◌, arith}
use Rattle.std.specs.List.{All}
use Rattle.std.proofs.lemmas.List.{length-map, get_or-map}
use Rattle.std.proofs.lemmas.List.Elements.{All-get_or}
use Rattle.gf16.specs.Field.{IsField}
use Rattle.gf16.specs.Sums.{plus_scaled}
use Rattle.linear_spec.specs.Packet.{Fits}
use Rattle.linear_spec.specs.Combination.{combination_of}
use Rattle.linear_spec.specs.declared.packet.Packet.{Packet}
use Rattle.linear_spec.proofs.SpanLaws.{combination-nil, combination_more, length-combination}
use Rattle.linear_spec.proofs.combination.combine_with.Goals as goal

-- a part of one packet more is combined
part_more : (part : Packet → List ℕ) → IsField → (n i c : ℕ) (cs : List ℕ) (packets : List Packet) (packet : Packet)
    → i < length cs → length cs ≡ length packets → c ≡ get_or cs i 0 → packet ≡ get_or packets i packet
    → plus_scaled (combination_of n (take i cs) (take i (map part packets))) c (part packet)
    ≡ combination_of n (take (i + 1) cs) (take (i + 1) (map part packets))
part_more part field n i c cs packets packet within same c_is is =
    let there : i < length packets = omega arith in
    combination_more field n i c cs (part packet) (map part packets) within (same ∙ sym (length-map packets part)) c_is
    (ap part is ∙ sym (get_or-map part packets i packet [] there))

fits : (k s i : ℕ) (packets others : List Packet) (packet : Packet) → others ≡ packets → i < length packets
    → packet ≡ get_or others i packet → All (Fits k s) packets → Fits k s packet
fits k s i packets others packet same there is all =
    subst (Fits k s) (sym (is ∙ ap (λ ps. get_or ps i packet) same)) (All-get_or (Fits k s) packets i packet there all)

pub loop-i-init : goal.loop-i-init
loop-i-init g c = record {
  coeffs = c.clear.ensures.coeffs ∙ sym (combination-nil (length c.args.out.now.coeffs) []);
  payload = c.clear.ensures.payload ∙ sym (combination-nil (length c.args.out.now.payload) []);
  generation = c.clear.ensures.generation;
}

this_fits : (g : _) (c : goal.After-index-packets-i g) → Fits (length c.args.out.now.coeffs) (length c.args.out.now.payload) c.index-packets-i.result
this_fits g c =
    let there : c.loop-i.i < length c.args.packets.now.items = omega arith in
    fits (length c.args.out.now.coeffs) (length c.args.out.now.payload) c.loop-i.i c.args.packets.now.items c.as_slice-packets.result.now
    c.index-packets-i.result c.as_slice-packets.ensures there c.index-packets-i.is c.requires.fit

pub add_scaled-requires-clause-coeffs : goal.add_scaled-requires-clause-coeffs
add_scaled-requires-clause-coeffs g c =
    let fit = this_fits g c in
    fit.coeffs.count ∙ sym (ap length c.loop-i.invariant.coeffs ∙ length-combination (length c.args.out.now.coeffs) _ _)

pub add_scaled-requires-clause-payload : goal.add_scaled-requires-clause-payload
add_scaled-requires-clause-payload g c =
    let fit = this_fits g c in
    fit.payload.count ∙ sym (ap length c.loop-i.invariant.payload ∙ length-combination (length c.args.out.now.payload) _ _)

pub loop-i-preserved : goal.loop-i-preserved
loop-i-preserved g c =
    let same : length c.args.coeffs.now ≡ length c.as_slice-packets.result.now = c.requires.count ∙ ap length (sym c.as_slice-packets.ensures) in
    let i = c.loop-i.i in
    let within : i < length c.args.coeffs.now = omega arith in
    let packets = c.as_slice-packets.result.now in
    let packet = c.index-packets-i.result in
    let coeff = get_or c.args.coeffs.now i 0 in
    record {
      coeffs =
          c.add_scaled.ensures.coeffs ∙ ap (λ u. plus_scaled u coeff packet.coeffs) c.loop-i.invariant.coeffs
          ∙ part_more (λ p. p.coeffs) c.field.ensures (length c.args.out.now.coeffs) i coeff c.args.coeffs.now packets packet within same refl c.index-packets-i.is;
      payload =
          c.add_scaled.ensures.payload ∙ ap (λ u. plus_scaled u coeff packet.payload) c.loop-i.invariant.payload
          ∙ part_more (λ p. p.payload) c.field.ensures (length c.args.out.now.payload) i coeff c.args.coeffs.now packets packet within same refl c.index-packets-i.is;
      generation = c.add_scaled.ensures.generation ∙ c.loop-i.invariant.generation;
    }
