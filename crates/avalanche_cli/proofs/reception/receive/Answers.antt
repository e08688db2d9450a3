use Rattle.std.proofs.Common.{◌∙◌, List, ap, subst}
use Rattle.std.specs.List.{All}
use Rattle.std.proofs.lemmas.List.Elements.{All-weaker}
use Rattle.linear_spec.specs.declared.equations.Equations.{Equations}
use Rattle.linear_spec.specs.Packet.{Fits}
use Rattle.basis_core.specs.declared.trace.BasisTrace.{BasisTrace}
use Rattle.generation.specs.Shape.{symbols_per_block}
use Rattle.packet_wire.specs.Stream.{Contents, IsPacket}
use Rattle.avalanche_cli.specs.Files.{recorded_packets}
use Rattle.avalanche_cli.proofs.BasesLemmas.{AreReceived, have_shape, legal_fetch, ranks_are}
use Rattle.avalanche_cli.proofs.JudgedLemmas.{judged_of, same_equations}
use Rattle.avalanche_cli.proofs.TraceLemmas.{recorded_of}
use Rattle.avalanche_cli.proofs.reception.receive.Goals as goal

pub solved-file-requires-after_bounds : goal.solved-file-requires-after_bounds
solved-file-requires-after_bounds g c κs within =
    let contents : Contents = record { manifest = c.args.manifest.now; ticket = c.args.ticket.now; packets = c.args.packets.items } in
    let bases = c.in_ok-bases.bases.items in
    let are = subst (λ (e : Equations). AreReceived e c.args.receivers contents.packets bases) (same_equations contents c.in_ok-equations.equations c.in_ok-equations.ensures.value) (record { count = c.in_ok-bases.ensures.count; each = c.in_ok-bases.ensures.each }) in
    have_shape c.records.ensures.innovative c.records.ensures.at_most contents c.args.receivers bases c.requires.manifest.shape are

pub returns-clause-legal : goal.returns-clause-legal
returns-clause-legal g c =
    let contents : Contents = record { manifest = c.args.manifest.now; ticket = c.args.ticket.now; packets = c.args.packets.items } in
    let bases = c.in_ok-bases.bases.items in
    let are = subst (λ (e : Equations). AreReceived e c.args.receivers contents.packets bases) (same_equations contents c.in_ok-equations.equations c.in_ok-equations.ensures.value) (record { count = c.in_ok-bases.ensures.count; each = c.in_ok-bases.ensures.each }) in
    legal_fetch c.args.receivers contents bases (record { bases = c.in_ok-traces.traces; sends = c.new.result }) are c.in_ok-traces.ensures c.new.ensures

pub returns-clause-judged : goal.returns-clause-judged
returns-clause-judged g c =
    let contents : Contents = record { manifest = c.args.manifest.now; ticket = c.args.ticket.now; packets = c.args.packets.items } in
    let shape = contents.manifest.shape in
    let bases = c.in_ok-bases.bases.items in
    let are = subst (λ (e : Equations). AreReceived e c.args.receivers contents.packets bases) (same_equations contents c.in_ok-equations.equations c.in_ok-equations.ensures.value) (record { count = c.in_ok-bases.ensures.count; each = c.in_ok-bases.ensures.each }) in
    let fits : All (Fits shape.k (symbols_per_block shape)) contents.packets = All-weaker (IsPacket shape) (Fits shape.k (symbols_per_block shape)) (λ p it. it.fits) contents.packets c.requires.packets in
    judged_of contents (record { bases = c.in_ok-traces.traces; sends = c.new.result }) bases are.count
    (ranks_are c.callers.ensures.recorded c.records.ensures.innovative c.calls.ensures.spans c.calls.ensures.rank c.spans.ensures c.ranks.ensures contents c.args.receivers bases c.requires.some fits are)
    c.solved-file.result (ap (λ (l : List BasisTrace). recorded_packets l) c.in_ok-traces.ensures ∙ recorded_of 0 bases)
    c.solved-file.ensures.full c.solved-file.ensures.file c.solved-file.ensures.digest c.solved-file.ensures.stop
