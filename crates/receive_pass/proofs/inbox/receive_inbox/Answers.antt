use Rattle.std.proofs.Common.{◌≡◌, ◌+◌, [], ◌∷◌, ◌++◌, List, length, take, sym, ap, ◌∙◌, subst, arith}
use Rattle.std.proofs.lemmas.List.{length-take-le, take_more}
use Rattle.receive_pass.specs.declared.worker.TaggedPacket.{TaggedPacket}
use Rattle.receive_pass.specs.Workers.{HaveOffered}
use Rattle.receive_pass.proofs.Inboxes.{have_then, passes_left}
use Rattle.receive_pass.proofs.inbox.receive_inbox.Goals as goal

pub receive_one-requires-clause-passes : goal.receive_one-requires-clause-passes
receive_one-requires-clause-passes g c =
    let items = c.as_slice-inbox.result.now in
    let at = c.loop-place.place in
    let taken : length (take at items) ≡ at = length-take-le at items (omega arith) in
    let same : length items ≡ length c.args.worker.now.inbox.items = ap length c.as_slice-inbox.ensures in
    passes_left c.args.bases.now.items (length c.args.worker.now.inbox.items) 1 (take at items) c.args.worker.now.passes.items c.loop-place.passes.items
    (omega arith) c.requires.passes_are c.loop-place.invariant

pub loop-place-preserved : goal.loop-place-preserved
loop-place-preserved g c =
    let items = c.as_slice-inbox.result.now in
    let at = c.loop-place.place in
    let tagged : TaggedPacket = c.index-inbox-place.result in
    let more : take (at + 1) items ≡ take at items ++ tagged ∷ [] =
    take_more items at tagged c.loop-place-test.true ∙ ap (λ (t : TaggedPacket). take at items ++ t ∷ []) (sym c.index-inbox-place.is) in
    subst (λ (l : List TaggedPacket). HaveOffered l c.args.worker.now.passes.items c.receive_one.new.passes.items) (sym more)
    (have_then (take at items) (tagged ∷ []) c.args.worker.now.passes.items c.loop-place.passes.items c.receive_one.new.passes.items c.loop-place.invariant c.receive_one.ensures)
