use Rattle.std.proofs.Common.{◌≡◌, [], ◌∷◌, ◌++◌, length, sym, ap, ◌∙◌, subst, arith}
use Rattle.std.proofs.lemmas.List.{length-map}
use Rattle.linear_spec.specs.declared.record.Record.{Record}
use Rattle.linear_spec.specs.Cases.{IsFresh, IsWithin, IsConflicting}
use Rattle.linear_spec.specs.Packet.{Fits}
use Rattle.linear_spec.specs.SequentialBasis.{packets_of}
use Rattle.linear_spec.specs.Told.{Tells}
use Rattle.linear_spec.specs.declared.cases.Case.TheVariants.{Fresh, Within, Conflicting}
use Rattle.basis_core.proofs.Offers.{few, are_rows, case_here, sound_after}
use Rattle.basis_core.proofs.machine.Core.judge.Goals as goal

pub overflow_cast-front : goal.overflow_cast-front
overflow_cast-front c =
    let inside = c.self.inside in
    let bound = few inside.k inside.s inside.records.items inside.rows.items c.self.invariant c.rows.ensures in
    let same = ap length c.reserve-2.ensures.items in
    omega (arith, c.len-front.ensures)

pub examine-requires : goal.examine-requires
examine-requires c =
    let inside = c.self.inside in
    are_rows inside.k inside.s inside.records.items inside.rows.items c.reserve-3.new.self.items c.args.packet.now c.self.invariant
    (subst (λ b. Fits b.k b.s c.args.packet.now) (sym c.self.view_is) c.requires.fits) c.reserve-3.ensures.items

pub invariant_of-self-in-Fresh : goal.invariant_of-self-in-Fresh
invariant_of-self-in-Fresh c =
    let inside = c.self.inside in
    let r : Record = record { caller = c.args.caller; call = c.calls_made-call.result; packet = c.in_ok-packet-in-Fresh.packet } in
    sound_after inside.k inside.s inside.records.items inside.rows.items c.reserve-3.new.self.items c.args.packet.now c.self.invariant
    (subst (λ b. Fits b.k b.s c.args.packet.now) (sym c.self.view_is) c.requires.fits) c.reserve-3.ensures.items
    c.decision.ensures c.in-Fresh.row r c.put-in-Fresh.new.self.items c.put-in-Fresh-2.new.self.items
    (subst (Tells c.reserve-3.new.self.items c.args.packet.now) c.in-Fresh.is c.in_ok-row.ensures) c.in_ok-packet-in-Fresh.ensures
    (c.put-in-Fresh.ensures.items ∙ ap (λ rs. rs ++ r ∷ []) c.reserve-2.ensures.items) c.put-in-Fresh-2.ensures.items

pub returns-in_ok-packet-in-Fresh-clause-reply : goal.returns-in_ok-packet-in-Fresh-clause-reply
returns-in_ok-packet-in-Fresh-clause-reply c =
    let inside = c.self.inside in
    let front : c.len-front.result ≡ length (packets_of inside.records.items) =
    c.len-front.ensures ∙ ap length c.reserve-2.ensures.items ∙ sym (length-map inside.records.items (λ r. r.packet)) in
    subst (λ b. IsFresh b.k (packets_of b.records) c.args.packet.now × (c.len-front.result ≡ length (packets_of b.records))) c.self.view_is (
      (case_here inside.k inside.s inside.records.items inside.rows.items c.reserve-3.new.self.items c.args.packet.now c.self.invariant
          (subst (λ b. Fits b.k b.s c.args.packet.now) (sym c.self.view_is) c.requires.fits) c.reserve-3.ensures.items
          (Fresh c.in-Fresh.row) (subst (Tells c.reserve-3.new.self.items c.args.packet.now) c.in-Fresh.is c.in_ok-row.ensures)).0,
      front,
    )

pub returns-in-Within-clause-reply : goal.returns-in-Within-clause-reply
returns-in-Within-clause-reply c =
    let inside = c.self.inside in
    let front : c.len-front.result ≡ length (packets_of inside.records.items) =
    c.len-front.ensures ∙ ap length c.reserve-2.ensures.items ∙ sym (length-map inside.records.items (λ r. r.packet)) in
    subst (λ b. IsWithin b.k b.s (packets_of b.records) c.args.packet.now × (c.len-front.result ≡ length (packets_of b.records))) c.self.view_is (
      case_here inside.k inside.s inside.records.items inside.rows.items c.reserve-3.new.self.items c.args.packet.now c.self.invariant
          (subst (λ b. Fits b.k b.s c.args.packet.now) (sym c.self.view_is) c.requires.fits) c.reserve-3.ensures.items
          Within (subst (Tells c.reserve-3.new.self.items c.args.packet.now) c.in-Within.is c.in_ok-row.ensures),
      front,
    )

pub returns-in-Conflicting-clause-reply : goal.returns-in-Conflicting-clause-reply
returns-in-Conflicting-clause-reply c =
    let inside = c.self.inside in
    let front : c.len-front.result ≡ length (packets_of inside.records.items) =
    c.len-front.ensures ∙ ap length c.reserve-2.ensures.items ∙ sym (length-map inside.records.items (λ r. r.packet)) in
    subst (λ b. IsConflicting b.k b.s (packets_of b.records) c.args.packet.now × (c.len-front.result ≡ length (packets_of b.records))) c.self.view_is (
      case_here inside.k inside.s inside.records.items inside.rows.items c.reserve-3.new.self.items c.args.packet.now c.self.invariant
          (subst (λ b. Fits b.k b.s c.args.packet.now) (sym c.self.view_is) c.requires.fits) c.reserve-3.ensures.items
          Conflicting (subst (Tells c.reserve-3.new.self.items c.args.packet.now) c.in-Conflicting.is c.in_ok-row.ensures),
      front,
    )
