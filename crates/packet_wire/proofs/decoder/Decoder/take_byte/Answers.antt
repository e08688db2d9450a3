use Rattle.std.proofs.Common.{◌≡◌, ◌++◌, ◌∷◌, [], length, None, ap, refl, rules, arith}
use Rattle.std.proofs.lemmas.List.{length-append}
use Rattle.packet_wire.proofs.Feeding.{clean_at_none, clean_more, fed_failed, fed_fault, fed_frame, fed_held, fed_none, part_at_none, part_more, some_error}
use Rattle.packet_wire.proofs.decoder.Decoder.take_byte.Goals as goal

pub returns-then-is_some : goal.returns-then-is_some
returns-then-is_some c =
    let known = some_error c.args.self.now.failure (search rules) in
    fed_failed c.args.self.now c.args.byte c.args.frames.now.items known.0 known.1

pub invariant_of-self : goal.invariant_of-self
invariant_of-self c =
    let before = c.args.self.now in
    let held = c.admit.new.held in
    record {
      counted = omega (arith, held.ok.0, before.held.ok.0, ap length c.in-Held.ensures.held, length-append before.held.items (c.args.byte ∷ []));
      clean = clean_more before.phase before.held.items c.args.byte held.items before.clean c.in-Held.ensures;
      part = part_more before.phase before.held.items c.args.byte held.items c.in-Held.ensures;
    }

pub invariant_of-self-then-is_err : goal.invariant_of-self-then-is_err
invariant_of-self-then-is_err c =
    let before = c.args.self.now in
    record {
      counted = omega (arith, c.clear.ensures.len, c.len.ensures, before.counted, c.admit.new.held.ok.0, before.held.ok.0, ap length c.in-Whole.ensures.held, length-append before.held.items (c.args.byte ∷ []));
      clean = clean_at_none c.next_phase-self.result c.clear.new.self.items c.clear.ensures.items;
      part = part_at_none c.clear.new.self.items c.clear.ensures.items;
    }

pub invariant_of-self-else-is_err : goal.invariant_of-self-else-is_err
invariant_of-self-else-is_err c =
    let before = c.args.self.now in
    record {
      counted = omega (arith, c.clear.ensures.len, c.len.ensures, before.counted, c.admit.new.held.ok.0, before.held.ok.0, ap length c.in-Whole.ensures.held, length-append before.held.items (c.args.byte ∷ []));
      clean = clean_at_none c.next_phase-self.result c.clear.new.self.items c.clear.ensures.items;
      part = part_at_none c.clear.new.self.items c.clear.ensures.items;
    }

pub invariant_of-self-in-Failed : goal.invariant_of-self-in-Failed
invariant_of-self-in-Failed c =
    let before = c.args.self.now in
    record {
      counted = omega (arith, c.clear-in-Failed.ensures.len, before.counted);
      clean = clean_at_none before.phase c.clear-in-Failed.new.self.items c.clear-in-Failed.ensures.items;
      part = part_at_none c.clear-in-Failed.new.self.items c.clear-in-Failed.ensures.items;
    }

pub invariant_of-self-in-Memory : goal.invariant_of-self-in-Memory
invariant_of-self-in-Memory c =
    let before = c.args.self.now in
    record {
      counted = omega (arith, c.clear-in-Memory.ensures.len, before.counted);
      clean = clean_at_none before.phase c.clear-in-Memory.new.self.items c.clear-in-Memory.ensures.items;
      part = part_at_none c.clear-in-Memory.new.self.items c.clear-in-Memory.ensures.items;
    }

pub returns-in-Held : goal.returns-in-Held
returns-in-Held c =
    let none : c.args.self.now.failure ≡ None = search rules in
    fed_held c.args.self.now c.args.byte _ c.args.frames.now.items none refl refl refl c.in-Held.ensures

pub returns-else-is_err : goal.returns-else-is_err
returns-else-is_err c =
    let none : c.args.self.now.failure ≡ None = search rules in
    let pushed : c.push.new.self.items ≡ c.args.frames.now.items ++ c.in-Whole.frame ∷ [] = search rules in
    fed_frame c.args.self.now c.args.byte _ c.admit.new.held.items c.in-Whole.frame c.args.frames.now.items c.push.new.self.items none refl c.next_phase-self.ensures (omega (arith, c.len.ensures, c.admit.new.held.ok.0)) c.clear.ensures.items c.in-Whole.ensures pushed

pub returns-in-Failed : goal.returns-in-Failed
returns-in-Failed c =
    let none : c.args.self.now.failure ≡ None = search rules in
    fed_fault c.args.self.now c.args.byte _ c.admit.new.held.items c.in-Failed.fault c.args.frames.now.items none refl (omega (arith, c.clear-in-Failed.ensures.len)) c.in-Failed.ensures

pub returns-in-Memory : goal.returns-in-Memory
returns-in-Memory c =
    let none : c.args.self.now.failure ≡ None = search rules in
    fed_none c.args.self.now c.args.byte _ c.args.frames.now.items none refl (omega (arith, c.clear-in-Memory.ensures.len))
