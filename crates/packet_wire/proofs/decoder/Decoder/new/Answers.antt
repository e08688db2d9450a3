use Rattle.std.proofs.Common.{arith, refl}
use Rattle.packet_wire.specs.declared.phase.Phase.TheVariants.{BeforeManifest}
use Rattle.packet_wire.proofs.Answering.{after_nothing}
use Rattle.packet_wire.proofs.Feeding.{clean_at_none, part_at_none}
use Rattle.packet_wire.proofs.decoder.Decoder.new.Goals as goal

pub returns-clause-after : goal.returns-clause-after
returns-clause-after c = after_nothing _ refl refl refl c.new.ensures.items

pub invariant_of-result : goal.invariant_of-result
invariant_of-result c = record {
  counted = omega (arith, c.new.ensures.len);
  clean = clean_at_none BeforeManifest c.new.result.items c.new.ensures.items;
  part = part_at_none c.new.result.items c.new.ensures.items;
}
