use Rattle.std.proofs.Common.{◌≤◌, ◌*◌, List, length, map, ap, subst, ◌∙◌, arith}
use Rattle.std.proofs.lemmas.Nat.{mul-le}
use Rattle.linear_spec.specs.declared.equations.Equations.{Equations}
use Rattle.linear_spec.specs.declared.packet.Packet.{Packet}
use Rattle.packet_wire.specs.Stream.{Contents, spelling_of}
use Rattle.shared_reception.specs.declared.sends.SentDraw.{SentDraw}
use Rattle.avalanche_cli.specs.SendSteps.{entry_of, packets_of_draws}
use Rattle.avalanche_cli.proofs.JudgedLemmas.{same_equations}
use Rattle.avalanche_cli.proofs.RelayLemmas.{AreRelayed, legal_relay, sent_packets}
use Rattle.avalanche_cli.proofs.SendLemmas.{sent_count}
use Rattle.avalanche_cli.proofs.sending.receive_and_draw.Goals as goal

pub stream_of-requires-clause-few : goal.stream_of-requires-clause-few
stream_of-requires-clause-few g c =
    let bases = c.in_ok-bases.field-0.bases.items in
    let coded = c.args.sending.now.coded in
    let few : length bases ≤ 256 = omega (arith, c.in_ok-bases.ensures.count, c.in_ok-equations.ensures.value.generations, c.requires.manifest.shape.generations) in
    let most : length bases * coded ≤ 256 * 1024 = mul-le (length bases) coded 256 1024 few c.requires.sending.1 in
    let sent = ap (λ (l : List SentDraw). length l) (c.as_slice-sent.ensures ∙ c.in_ok-bases.ensures.sent) in
    omega (arith, sent, most, sent_count c.in_ok-equations.equations.k c.in_ok-equations.equations.s c.args.sending.now bases)

pub returns-clause-legal : goal.returns-clause-legal
returns-clause-legal g c =
    let contents : Contents = record { manifest = c.args.manifest.now; ticket = c.args.ticket.now; packets = c.args.packets.items } in
    let bases = c.in_ok-bases.field-0.bases.items in
    let sent = c.in_ok-bases.field-0.sent.items in
    let are = subst (λ (e : Equations). AreRelayed e c.args.receivers c.args.sending.now contents.packets bases sent) (same_equations contents c.in_ok-equations.equations c.in_ok-equations.ensures.value) (record { count = c.in_ok-bases.ensures.count; each = c.in_ok-bases.ensures.each; sent_is = c.in_ok-bases.ensures.sent }) in
    legal_relay contents c.args.receivers c.args.sending.now bases sent (record { bases = c.in_ok-bases-2.bases; sends = c.in_ok-sends.sends }) are c.in_ok-bases-2.ensures
    (c.in_ok-sends.ensures ∙ ap (λ (l : List SentDraw). map (entry_of c.args.sending.now) l) c.as_slice-sent.ensures)

pub returns-clause-stream : goal.returns-clause-stream
returns-clause-stream g c =
    let contents : Contents = record { manifest = c.args.manifest.now; ticket = c.args.ticket.now; packets = c.args.packets.items } in
    let bases = c.in_ok-bases.field-0.bases.items in
    let sent = c.in_ok-bases.field-0.sent.items in
    let are = subst (λ (e : Equations). AreRelayed e c.args.receivers c.args.sending.now contents.packets bases sent) (same_equations contents c.in_ok-equations.equations c.in_ok-equations.ensures.value) (record { count = c.in_ok-bases.ensures.count; each = c.in_ok-bases.ensures.each; sent_is = c.in_ok-bases.ensures.sent }) in
    let packets = sent_packets contents c.args.receivers c.args.sending.now bases sent (record { bases = c.in_ok-bases-2.bases; sends = c.in_ok-sends.sends }) are c.in_ok-bases-2.ensures
    (c.in_ok-sends.ensures ∙ ap (λ (l : List SentDraw). map (entry_of c.args.sending.now) l) c.as_slice-sent.ensures) in
    c.in_ok-stream.ensures ∙ ap (λ (l : List Packet). spelling_of (record { manifest = c.args.manifest.now; ticket = c.args.ticket.now; packets = l })) (ap packets_of_draws c.as_slice-sent.ensures ∙ packets)
