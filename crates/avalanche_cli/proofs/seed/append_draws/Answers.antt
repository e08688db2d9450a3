use Rattle.std.proofs.Common.{ℕ, ◌+◌, ◌*◌, ◌++◌, length, map, refl, sym, ap, ◌∙◌, append-nil, arith}
use Rattle.std.specs.List.{flat_map, range_with_len}
use Rattle.std.proofs.Math.Nat.{mul-le-mul_left}
use Rattle.std.proofs.lemmas.List.{length-replicate}
use Rattle.packet_wire.specs.Stream.{packet_frame}
use Rattle.avalanche_cli.specs.Seed.{seed_draw}
use Rattle.avalanche_cli.proofs.PieceLemmas.{frame_more}
use Rattle.avalanche_cli.proofs.SystematicLemmas.{draw_is, drawn_lengths, fit_lengths, length-generation_packets, of_generation}
use Rattle.avalanche_cli.proofs.seed.append_draws.Goals as goal

pub overflow_mul-first : goal.overflow_mul-first
overflow_mul-first c =
    let few = mul-le-mul_left c.from-3.result c.requires.words.coded in
    omega (arith, few, c.from-3.ensures)

pub draw_plain-requires : goal.draw_plain-requires
draw_plain-requires c =
    let count = ap length c.requires.blocks ∙ length-generation_packets c.args.shape.now c.args.file.now c.args.generation in
    record {
      some = omega (arith, count, c.k.ensures.shape.k.0);
      few = omega (arith, count, c.k.ensures.shape.k.1);
      fit = fit_lengths c.args.shape.now c.loop-place.packet c.args.blocks.now.items c.loop-place.invariant.coeffs c.loop-place.invariant.payload c.requires.fit;
      generation = of_generation c.args.shape.now c.args.file.now c.args.generation c.loop-place.packet.generation c.args.blocks.now.items
          c.requires.blocks c.loop-place.invariant.generation;
    }

pub write_packet-requires : goal.write_packet-requires
write_packet-requires c =
    let long = drawn_lengths c.loop-place.packet c.draw_plain.new.out _ _ c.args.blocks.now.items c.draw_plain.ensures in
    record {
      coeffs = omega (arith, long.1, c.loop-place.invariant.coeffs, c.k.ensures.shape.k.1);
      payload = omega (arith, long.2, c.loop-place.invariant.payload, c.k.ensures.shape.block.2);
    }

pub loop-place-init : goal.loop-place-init
loop-place-init c = record {
  drawn = sym (append-nil c.args.stream.now.items);
  generation = refl;
  coeffs = ap length c.in_ok-zeros.ensures ∙ length-replicate {A = ℕ} c.from.result 0 ∙ c.from.ensures ∙ c.k.ensures.value;
  payload = ap length c.in_ok-zeros-2.ensures ∙ length-replicate {A = ℕ} c.from-2.result 0 ∙ c.from-2.ensures ∙ c.symbols_per_block.ensures.value;
}

pub loop-place-preserved : goal.loop-place-preserved
loop-place-preserved c =
    let words = c.args.words.now in
    let file = c.args.file.now in
    let g = c.args.generation in
    let first : ℕ = g * words.coded in
    let place : ℕ = c.loop-place.place in
    let before = c.loop-place.packet in
    let after = c.draw_plain.new.out in
    let long = drawn_lengths before after _ _ c.args.blocks.now.items c.draw_plain.ensures in
    let is = draw_is words file c.args.shape.now g _ (first + place) _ c.args.blocks.now.items before after c.requires.shape c.requires.blocks c.number_key-key.ensures
    (ap (λ (m : ℕ). m * words.coded + place) c.from-3.ensures)
    c.loop-place.invariant.generation c.loop-place.invariant.coeffs c.loop-place.invariant.payload c.draw_plain.ensures in
    record {
      drawn = frame_more packet_frame (seed_draw words file g) first place c.args.stream.now.items c.loop-place.stream.items _ after
          c.loop-place.invariant.drawn is c.in_ok-write_packet.ensures.ok;
      generation = long.0 ∙ c.loop-place.invariant.generation;
      coeffs = long.1 ∙ c.loop-place.invariant.coeffs;
      payload = long.2 ∙ c.loop-place.invariant.payload;
    }

pub returns : goal.returns
returns c =
    let words = c.args.words.now in
    c.loop-place.invariant.drawn
    ∙ ap (λ (n : ℕ). c.args.stream.now.items ++ flat_map packet_frame (map (seed_draw words c.args.file.now c.args.generation) (range_with_len (c.args.generation * words.coded) n)))
    (omega (arith, c.loop-place.auto.place-end, c.loop-place-test.false))
