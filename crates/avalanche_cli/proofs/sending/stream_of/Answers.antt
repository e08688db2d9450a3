use Rattle.std.proofs.Common.{◌++◌, List, ℕ, ap, ◌∙◌}
use Rattle.std.specs.List.{flat_map}
use Rattle.packet_wire.specs.Stream.{end_frame, manifest_frame, packet_frame, spelling_of, ticket_frame}
use Rattle.avalanche_cli.specs.SendSteps.{packets_of_draws}
use Rattle.avalanche_cli.proofs.LineLemmas.{then_four}
use Rattle.avalanche_cli.proofs.sending.stream_of.Goals as goal

pub returns : goal.returns
unfolding spelling_of
returns c =
    let manifest = manifest_frame c.args.manifest.now in
    let ticket = ticket_frame c.args.ticket.now in
    let packets = flat_map packet_frame (packets_of_draws c.args.sent.now) in
    let all = then_four c.reserve.new.self.items manifest ticket packets end_frame
    _ _ _ _ c.in_ok-write_manifest.ensures.ok c.in_ok-write_ticket.ensures.ok c.in_ok-append_sent.ensures c.in_ok-write_end.ensures.ok in
    all ∙ ap (λ (l : List ℕ). l ++ (manifest ++ (ticket ++ (packets ++ end_frame)))) (c.in_ok-reserve.ensures.items ∙ c.new-stream.ensures)
