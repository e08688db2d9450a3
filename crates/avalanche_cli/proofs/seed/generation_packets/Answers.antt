use Rattle.std.proofs.Common.{ℕ, List, [], ◌∷◌, ◌++◌, map, sym, ap, ap₂, ◌∙◌, arith}
use Rattle.std.specs.List.{range_with_len}
use Rattle.std.proofs.lemmas.List.Elements.{All-nil, All-push, All-same}
use Rattle.std.proofs.lemmas.List.FromFn.{map-range_with_len_more}
use Rattle.linear_spec.specs.Packet.{Fits}
use Rattle.linear_spec.specs.declared.packet.Packet.{Packet}
use Rattle.generation.specs.Shape.{symbols_per_block}
use Rattle.recode.specs.Systematic.{systematic_packet}
use Rattle.avalanche_cli.specs.Seed.{generation_packets_of}
use Rattle.avalanche_cli.proofs.SystematicLemmas.{fit_frames}
use Rattle.avalanche_cli.proofs.seed.generation_packets.Goals as goal

pub loop-column-init : goal.loop-column-init
loop-column-init c =
    let none = c.reserve.ensures.items ∙ c.new-packets.ensures in
    let P : Packet → Type 0 = Fits c.args.shape.now.k (symbols_per_block c.args.shape.now) in
    record {
      packets = none;
      fit = All-same P c.reserve.new.self.items [] none (All-nil P);
      room = omega (arith, c.in_ok-reserve.ensures.room, c.from.ensures, c.k.ensures.value);
    }

pub put-requires : goal.put-requires
put-requires c = omega (arith, c.loop-column.invariant.room, c.k-column-end.ensures.value, c.loop-column-test.true)

pub loop-column-preserved : goal.loop-column-preserved
loop-column-preserved c =
    let f : ℕ → Packet = systematic_packet c.args.shape.now c.args.file.now c.args.generation in
    let P : Packet → Type 0 = Fits c.args.shape.now.k (symbols_per_block c.args.shape.now) in
    let packet : Packet = c.in_ok-systematic.field-0 in
    record {
      packets =
          c.put.ensures.items ∙ ap₂ (λ (l : List Packet) (p : Packet). l ++ p ∷ []) c.loop-column.invariant.packets c.in_ok-systematic.ensures.value
          ∙ sym (map-range_with_len_more f 0 c.loop-column.column c.loop-column.column (omega arith));
      fit = All-same P c.put.new.self.items _ c.put.ensures.items (All-push P c.loop-column.packets.items packet c.loop-column.invariant.fit c.in_ok-systematic.ensures.fits);
      room = omega (arith, c.loop-column.invariant.room, c.put.ensures.spare);
    }

pub returns-clause-packets : goal.returns-clause-packets
unfolding generation_packets_of
returns-clause-packets c =
    c.loop-column.invariant.packets
    ∙ ap (λ (n : ℕ). map (systematic_packet c.args.shape.now c.args.file.now c.args.generation) (range_with_len 0 n))
    (omega (arith, c.k-column-end.ensures.value, c.loop-column.auto.column-end, c.loop-column-test.false))

pub returns-clause-frames : goal.returns-clause-frames
returns-clause-frames c = fit_frames c.args.shape.now c.loop-column.packets.items c.k.ensures.shape c.loop-column.invariant.fit
