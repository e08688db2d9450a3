use Rattle.std.proofs.Common.{◌≡◌, ℕ, ◌<◌, ◌++◌, List, length, get_or, sym, ap, ◌∙◌, subst, take_all, arith}
use Rattle.std.specs.List.{All, flat_map}
use Rattle.std.proofs.lemmas.List.Elements.{All-same}
use Rattle.linear_spec.specs.declared.packet.Packet.{Packet}
use Rattle.packet_wire.specs.Stream.{packet_frame}
use Rattle.avalanche_cli.specs.SendSteps.{FitsFrame}
use Rattle.avalanche_cli.proofs.PieceLemmas.{frame_taken}
use Rattle.avalanche_cli.proofs.seed.append_all.Goals as goal

-- a frame has room for an item of a slice of the packets
has_room : (packets slice : List Packet) (i : ℕ) (item : Packet) → slice ≡ packets → i < length slice → item ≡ get_or slice i item → All FitsFrame packets → FitsFrame item
has_room packets slice i item same below is all = subst FitsFrame (sym is) (All-same FitsFrame slice packets same all i item below)

pub write_packet-requires : goal.write_packet-requires
write_packet-requires c =
    let room = has_room c.args.packets.now.items c.as_slice-packet-items.result.now c.loop-packet.packet-index c.packet-item.result
    c.as_slice-packet-items.ensures c.loop-packet-test.true c.packet-item.is c.requires in
    record { coeffs = room.coeffs; payload = room.payload }

pub loop-packet-preserved : goal.loop-packet-preserved
loop-packet-preserved c =
    let i : ℕ = c.loop-packet.packet-index in
    let item : Packet = c.packet-item.result in
    frame_taken packet_frame c.args.packets.now.items i c.args.stream.now.items c.loop-packet.stream.items _ item
    (subst (λ (l : List Packet). i < length l) c.as_slice-packet-items.ensures c.loop-packet-test.true)
    (subst (λ (l : List Packet). item ≡ get_or l i item) c.as_slice-packet-items.ensures c.packet-item.is)
    c.loop-packet.invariant c.in_ok-write_packet.ensures.ok

pub returns : goal.returns
returns c =
    let same = ap (λ (l : List Packet). length l) c.as_slice-packet-items.ensures in
    c.loop-packet.invariant
    ∙ ap (λ (l : List Packet). c.args.stream.now.items ++ flat_map packet_frame l)
    (take_all c.loop-packet.packet-index c.args.packets.now.items (omega (arith, same, c.loop-packet-test.false)))
