use Rattle.std.proofs.Common.{◌≡◌, ◌+◌, ◌≤◌, [], ◌∷◌, ◌++◌, length, None, Some, rules, ◌∙◌, ap, subst}
use Rattle.linear_spec.specs.Symbols.{AreBytes}
use Rattle.packet_wire.specs.Judgements.{body_len_in, fault_at}
use Rattle.packet_wire.specs.Making.{frame_in}
use Rattle.packet_wire.proofs.Admits.{fails_now, is_whole, makes_frame}
use Rattle.packet_wire.proofs.admit.admit.Goals as goal

pub returns-in-Some : goal.returns-in-Some
returns-in-Some c =
    let before = c.args.held.now.items in
    let held : c.push.new.self.items ≡ before ++ c.args.byte ∷ [] = search rules in
    let fails : fault_at c.args.phase.now c.push.new.self.items ≡ Some c.in-Some.fault = search rules in
    fails_now c.args.phase.now before c.args.byte c.push.new.self.items c.in-Some.fault held fails

pub make-requires : goal.make-requires
make-requires c =
    let before = c.args.held.now.items in
    let after = c.deref-4.result.now in
    let held : after ≡ before ++ c.args.byte ∷ [] = search rules in
    let passes : fault_at c.args.phase.now after ≡ None = search rules in
    let there : 10 ≤ length after = search rules in
    let reached : 10 + body_len_in after ≤ length after = search rules in
    is_whole c.args.phase.now before c.args.byte after held c.requires.clean c.requires.part passes there reached

pub returns-in-Ok : goal.returns-in-Ok
returns-in-Ok c =
    let laws = c.bytes_spell_symbols.ensures in
    let before = c.args.held.now.items in
    let after = c.make_room.new.held.items in
    let held : after ≡ before ++ c.args.byte ∷ [] = search rules in
    let passes : fault_at c.args.phase.now after ≡ None = search rules in
    let there : 10 ≤ length after = search rules in
    let reached : 10 + body_len_in after ≤ length after = search rules in
    let whole = is_whole c.args.phase.now before c.args.byte after held c.requires.clean c.requires.part passes there reached in
    let bytes : AreBytes after = subst AreBytes c.deref-3.ensures.value c.are_bytes.ensures in
    let frame : c.in-Ok.frame ≡ frame_in c.args.phase.now after = c.in-Ok.ensures ∙ ap (frame_in c.args.phase.now) c.deref-4.ensures.value in
    makes_frame laws c.args.phase.now before c.args.byte after c.in-Ok.frame held bytes whole frame
