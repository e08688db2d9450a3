use Rattle.std.proofs.Common.{◌≡◌, List, ℕ, ◌++◌, ap, ◌∙◌}
use Rattle.std.specs.List.{flat_map}
use Rattle.packet_wire.specs.Stream.{end_frame, manifest_frame, packet_frame, spelling_of, ticket_frame}
use Rattle.avalanche_cli.specs.Seed.{manifest_of_seed, packets_of_seed, stream_of_seed, ticket_of_seed}
use Rattle.avalanche_cli.proofs.LineLemmas.{then_four}
use Rattle.avalanche_cli.proofs.seed.stream_of_file.Goals as goal

pub returns : goal.returns
unfolding spelling_of
returns c =
    let words = c.args.words.now in
    let file = c.args.file.now in
    let manifest : c.write_manifest.new.out.items ≡ c.new-stream.result.items ++ manifest_frame (manifest_of_seed words file) = cc (c.in_ok-write_manifest.ensures.ok, c.shape_of-shape.ensures, c.digest.ensures) in
    let all = then_four c.new-stream.result.items (manifest_frame (manifest_of_seed words file)) (ticket_frame (ticket_of_seed words file)) (flat_map packet_frame (packets_of_seed words file)) end_frame
    _ _ _ _ manifest c.in_ok-append_ticket.ensures c.in_ok-append_packets.ensures c.in_ok-write_end.ensures.ok in
    all ∙ ap (λ (l : List ℕ). l ++ stream_of_seed words file) c.new-stream.ensures
