use Rattle.std.proofs.Common.{◌≡◌, ℕ, List, [], ◌∷◌, ◌++◌, length, sym, subst}
use Rattle.std.specs.List.{All}
use Rattle.std.proofs.lemmas.List.Elements.{All-nil, All-push, All-same}
use Rattle.linear_spec.specs.Packet.{Fits}
use Rattle.linear_spec.specs.declared.packet.Packet.{Packet}
use Rattle.linear_spec.proofs.tests.combines_two_packets.Goals as goal

both_fit : (k s : ℕ) (none one two : List Packet) (p q out : Packet) → none ≡ [] → one ≡ none ++ p ∷ [] → two ≡ one ++ q ∷ []
    → Fits k s p → Fits k s q → Fits k s out → All (Fits (length out.coeffs) (length out.payload)) two
both_fit k s none one two p q out is_none is_one is_two p_fits q_fits out_fits =
    let P = Fits k s in
    let all : All P two =
    All-same P two (one ++ q ∷ []) is_two
    (All-push P one q (All-same P one (none ++ p ∷ []) is_one (All-push P none p (All-same P none [] is_none (All-nil P)) p_fits)) q_fits) in
    subst (λ m. All (Fits m (length out.payload)) two) (sym out_fits.coeffs.count)
    (subst (λ m. All (Fits k m) two) (sym out_fits.payload.count) all)

pub combine-requires-clause-fit : goal.combine-requires-clause-fit
combine-requires-clause-fit g c =
    both_fit 2 1 c.new-packets.result.items c.push.new.self.items c.push-2.new.self.items c.in_ok-packet_of.field-0 c.in_ok-packet_of-2.field-0 c.in_ok-out.out
    c.new-packets.ensures c.in_ok-push.ensures.ok c.in_ok-push-2.ensures.ok
    c.in_ok-packet_of.ensures c.in_ok-packet_of-2.ensures c.in_ok-out.ensures
