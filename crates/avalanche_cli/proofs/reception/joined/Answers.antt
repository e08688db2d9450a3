use Rattle.std.proofs.Common.{◌≡◌, ◌<◌, ◌+◌, ◌∙◌, ◌++◌, List, [], ◌∷◌, length, get_or, take, sym, ap, subst, arith}
use Rattle.std.proofs.lemmas.List.{length-map, map-append, take_all, take_more}
use Rattle.linear_spec.specs.declared.packet.Packet.{Packet}
use Rattle.linear_spec.specs.SequentialBasis.{packets_of}
use Rattle.shared_basis.specs.declared.params.Closed.{Closed}
use Rattle.generation.specs.Shape.{symbols_per_block}
use Rattle.avalanche_cli.specs.Files.{IsOnlyFileOf}
use Rattle.avalanche_cli.specs.Reception.{AreSolvedBytes, IsFull, packets_in}
use Rattle.avalanche_cli.proofs.ReceptionLemmas.{only_file, solved_more}
use Rattle.avalanche_cli.proofs.reception.joined.Goals as goal

pub loop-basis-preserved : goal.loop-basis-preserved
loop-basis-preserved g c =
    let items = c.as_slice-basis-items.result.now in
    let index = c.loop-basis.basis-index in
    let basis = c.basis-item.result in
    let same = c.as_slice-basis-items.ensures in
    let k = c.args.shape.now.k in
    let s = symbols_per_block c.args.shape.now in
    let below : index < length c.args.bases.now.items = subst (λ (l : List Closed). index < length l) same c.loop-basis-test.true in
    let is : basis ≡ get_or c.args.bases.now.items index basis = c.basis-item.is ∙ ap (λ (l : List Closed). get_or l index basis) same in
    let own : Closed → List Packet = λ b. packets_of b.records.items in
    let more : packets_in (take (index + 1) items) ≡ packets_in (take index items) ++ own basis ∷ [] = ap packets_in (take_more items index basis c.loop-basis-test.true) ∙ map-append own (take index items) (get_or items index basis ∷ []) ∙ ap (λ (b : Closed). packets_in (take index items) ++ own b ∷ []) (sym c.basis-item.is) in
    record {
      solved = subst (λ (l : List (List Packet)). AreSolvedBytes k s l c.append_solved.new.bytes.items) (sym more)
          (solved_more k s (packets_in (take index items)) basis c.loop-basis.file.items c.append_solved.new.bytes.items
          (subst (IsFull k) (sym is) (c.requires.full index basis below))
          c.loop-basis.invariant.solved c.in_ok-append_solved.ensures);
    }

pub returns : goal.returns
returns g c =
    let items = c.as_slice-basis-items.result.now in
    let shape = c.args.shape.now in
    let bases = c.args.bases.now.items in
    let whole : take c.loop-basis.basis-index items ≡ bases = take_all c.loop-basis.basis-index items (omega arith) ∙ c.as_slice-basis-items.ensures in
    let solved = subst (λ (l : List Closed). AreSolvedBytes shape.k (symbols_per_block shape) (packets_in l) c.loop-basis.file.items) whole c.loop-basis.invariant.solved in
    let count : length (packets_in bases) ≡ length bases = length-map bases (λ (b : Closed). packets_of b.records.items) in
    let cut : c.cut.new.bytes.items ≡ take shape.len c.loop-basis.file.items = c.cut.ensures ∙ ap (λ n. take n c.loop-basis.file.items) c.len-len.ensures.value in
    subst (IsOnlyFileOf shape (packets_in bases)) (sym cut)
    (only_file c.bytes_spell_symbols.ensures.length shape (packets_in bases) c.loop-basis.file.items c.requires.shape.is_shape (count ∙ c.requires.shape.count) solved)
