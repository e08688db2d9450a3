use Rattle.std.proofs.Common.{◌≡◌, ◌∷◌, [], ◌++◌, length, sym, ap, ◌∙◌, subst, arith}
use Rattle.linear_spec.specs.declared.cases.Case.TheVariants.{Fresh, Within, Conflicting}
use Rattle.linear_spec.specs.Cases.{IsFresh, IsWithin, IsConflicting}
use Rattle.linear_spec.specs.Packet.{Fits}
use Rattle.linear_spec.specs.Rows.{StandsFor}
use Rattle.plain_basis.specs.Basis.{IsSound}
use Rattle.plain_basis.proofs.Offers.{rows_for, told, sound_after}
use Rattle.plain_basis.proofs.basis.PlainBasis.offer.Goals as goal

pub examine-requires : goal.examine-requires
examine-requires c =
    let inside = c.self.inside in
    rows_for inside.k inside.s inside.packets.items inside.rows.items c.self.invariant c.reserve-2.new.self.items c.args.packet
    (subst (λ b. Fits b.k b.s c.args.packet) (sym c.self.view_is) c.requires) c.reserve-2.ensures.items

pub overflow_cast-front : goal.overflow_cast-front
overflow_cast-front c =
    let inside = c.self.inside in
    let sound = c.self.invariant in
    let most = c.rows.ensures.at_most inside.k inside.s inside.packets.items inside.rows.items sound.stand in
    let count = sound.stand.count in
    let narrow = sound.narrow in
    let same = ap length c.reserve.ensures.items in
    omega (arith, c.len-front.ensures)

pub invariant_of-self-in-Fresh : goal.invariant_of-self-in-Fresh
invariant_of-self-in-Fresh c =
    let inside = c.self.inside in
    let fits = subst (λ b. Fits b.k b.s c.args.packet) (sym c.self.view_is) c.requires in
    let case : IsFresh inside.k inside.packets.items c.args.packet × StandsFor inside.k inside.s inside.packets.items inside.rows.items c.args.packet c.in-Fresh.row =
    told inside.k inside.s inside.packets.items inside.rows.items c.self.invariant c.reserve-2.new.self.items c.args.packet c.in_ok-case.case (Fresh c.in-Fresh.row)
    fits c.reserve-2.ensures.items c.in-Fresh.is c.in_ok-case.ensures in
    let packets : c.put.new.self.items ≡ inside.packets.items ++ c.args.packet ∷ [] = c.put.ensures.items ∙ ap (λ ps. ps ++ c.args.packet ∷ []) c.reserve.ensures.items in
    let rows : c.put-in-Fresh.new.self.items ≡ inside.rows.items ++ c.in-Fresh.row ∷ [] = c.put-in-Fresh.ensures.items ∙ ap (λ rs. rs ++ c.in-Fresh.row ∷ []) c.reserve-2.ensures.items in
    subst (λ ps. IsSound inside.k inside.s ps c.put-in-Fresh.new.self.items) (sym packets)
    (subst (IsSound inside.k inside.s (inside.packets.items ++ c.args.packet ∷ [])) (sym rows)
    (sound_after inside.k inside.s inside.packets.items inside.rows.items c.self.invariant c.decision.ensures.joins c.args.packet c.in-Fresh.row fits case.1))

pub returns-in-Fresh-clause-reply : goal.returns-in-Fresh-clause-reply
returns-in-Fresh-clause-reply c =
    let inside = c.self.inside in
    let case : IsFresh inside.k inside.packets.items c.args.packet × StandsFor inside.k inside.s inside.packets.items inside.rows.items c.args.packet c.in-Fresh.row =
    told inside.k inside.s inside.packets.items inside.rows.items c.self.invariant c.reserve-2.new.self.items c.args.packet c.in_ok-case.case (Fresh c.in-Fresh.row)
    (subst (λ b. Fits b.k b.s c.args.packet) (sym c.self.view_is) c.requires) c.reserve-2.ensures.items c.in-Fresh.is c.in_ok-case.ensures in
    let front : c.len-front.result ≡ length inside.packets.items = c.len-front.ensures ∙ ap length c.reserve.ensures.items in
    subst (λ b. IsFresh b.k b.packets c.args.packet × (c.len-front.result ≡ length b.packets)) c.self.view_is (case.0, front)

pub returns-in-Within-clause-reply : goal.returns-in-Within-clause-reply
returns-in-Within-clause-reply c =
    let inside = c.self.inside in
    let case : IsWithin inside.k inside.s inside.packets.items c.args.packet =
    told inside.k inside.s inside.packets.items inside.rows.items c.self.invariant c.reserve-2.new.self.items c.args.packet c.in_ok-case.case Within
    (subst (λ b. Fits b.k b.s c.args.packet) (sym c.self.view_is) c.requires) c.reserve-2.ensures.items c.in-Within.is c.in_ok-case.ensures in
    let front : c.len-front.result ≡ length inside.packets.items = c.len-front.ensures ∙ ap length c.reserve.ensures.items in
    subst (λ b. IsWithin b.k b.s b.packets c.args.packet × (c.len-front.result ≡ length b.packets)) c.self.view_is (case, front)

pub returns-in-Conflicting-clause-reply : goal.returns-in-Conflicting-clause-reply
returns-in-Conflicting-clause-reply c =
    let inside = c.self.inside in
    let case : IsConflicting inside.k inside.s inside.packets.items c.args.packet =
    told inside.k inside.s inside.packets.items inside.rows.items c.self.invariant c.reserve-2.new.self.items c.args.packet c.in_ok-case.case Conflicting
    (subst (λ b. Fits b.k b.s c.args.packet) (sym c.self.view_is) c.requires) c.reserve-2.ensures.items c.in-Conflicting.is c.in_ok-case.ensures in
    let front : c.len-front.result ≡ length inside.packets.items = c.len-front.ensures ∙ ap length c.reserve.ensures.items in
    subst (λ b. IsConflicting b.k b.s b.packets c.args.packet × (c.len-front.result ≡ length b.packets)) c.self.view_is (case, front)
