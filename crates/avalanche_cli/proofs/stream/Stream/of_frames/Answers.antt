use Rattle.avalanche_cli.proofs.FrameLemmas.{manifest_last, same_stream, taken_off, ticket_last, without_end}
use Rattle.avalanche_cli.proofs.stream.Stream.of_frames.Goals as goal

pub take_packets-requires : goal.take_packets-requires
take_packets-requires c = (c.requires.0, without_end c.requires.0 _ _ c.pop-end.result c.requires.1 c.pop-end.ensures.items c.pop-end.ensures.variant)

pub ticket_of-ticket-requires : goal.ticket_of-ticket-requires
ticket_of-ticket-requires c =
    let takes = c.in_ok-packets.ensures in
    let ticket = ticket_last takes.contents _ c.pop.new.self.items c.unwrap.result takes.after_is (taken_off _ _ c.pop.result c.unwrap.result c.pop.ensures.items c.unwrap.ensures) in
    (takes.contents.ticket, ticket.0)

pub manifest_of-manifest-requires : goal.manifest_of-manifest-requires
manifest_of-manifest-requires c =
    let takes = c.in_ok-packets.ensures in
    let ticket = ticket_last takes.contents _ c.pop.new.self.items c.unwrap.result takes.after_is (taken_off _ _ c.pop.result c.unwrap.result c.pop.ensures.items c.unwrap.ensures) in
    (takes.contents.manifest, manifest_last takes.contents _ c.pop-2.new.self.items c.unwrap-2.result ticket.1 (taken_off _ _ c.pop-2.result c.unwrap-2.result c.pop-2.ensures.items c.unwrap-2.ensures))

pub returns : goal.returns
returns c =
    let takes = c.in_ok-packets.ensures in
    let ticket = ticket_last takes.contents _ c.pop.new.self.items c.unwrap.result takes.after_is (taken_off _ _ c.pop.result c.unwrap.result c.pop.ensures.items c.unwrap.ensures) in
    let manifest = manifest_last takes.contents _ c.pop-2.new.self.items c.unwrap-2.result ticket.1 (taken_off _ _ c.pop-2.result c.unwrap-2.result c.pop-2.ensures.items c.unwrap-2.ensures) in
    same_stream c.requires.0 _ (record { manifest = c.manifest_of-manifest.result; ticket = c.ticket_of-ticket.result; packets = c.in_ok-packets.packets }) c.unwrap-2.result c.unwrap.result _ _ c.requires.1
    (without_end c.requires.0 _ _ c.pop-end.result c.requires.1 c.pop-end.ensures.items c.pop-end.ensures.variant) takes manifest c.manifest_of-manifest.ensures ticket.0 c.ticket_of-ticket.ensures
