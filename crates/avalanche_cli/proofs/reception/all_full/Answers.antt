use Rattle.std.proofs.Common.{◌≡◌, ◌<◌, ◌≤◌, ◌∙◌, List, length, get_or, take, ap, subst, sym, arith}
use Rattle.std.specs.List.{All}
use Rattle.std.proofs.lemmas.List.{take_all}
use Rattle.std.proofs.lemmas.List.Elements.{All-more}
use Rattle.shared_basis.specs.declared.params.Closed.{Closed}
use Rattle.avalanche_cli.specs.Reception.{IsFull}
use Rattle.avalanche_cli.proofs.reception.all_full.Goals as goal

pub loop-generation-preserved : goal.loop-generation-preserved
loop-generation-preserved c =
    let items = c.as_slice-basis-items.result.now in
    let generation = c.loop-generation.generation in
    let basis = c.basis-item.result in
    let same = c.as_slice-basis-items.ensures in
    let below : generation < length c.args.bases.now.items = subst (λ (l : List Closed). generation < length l) same c.loop-generation-test.true in
    let is : basis ≡ get_or c.args.bases.now.items generation basis = c.basis-item.is ∙ ap (λ (l : List Closed). get_or l generation basis) same in
    let most : length basis.records.items ≤ c.args.k = subst (λ (b : Closed). length b.records.items ≤ c.args.k) (sym is) (c.requires.at_most generation basis below) in
    let full : IsFull c.args.k basis = omega arith in
    All-more (IsFull c.args.k) items generation basis c.loop-generation-test.true c.loop-generation.invariant (subst (IsFull c.args.k) c.basis-item.is full)

pub returns-clause-full : goal.returns-clause-full
returns-clause-full c =
    let items = c.as_slice-basis-items.result.now in
    let whole : take c.loop-generation.generation items ≡ items = take_all c.loop-generation.generation items (omega arith) in
    subst (All (IsFull c.args.k)) (whole ∙ c.as_slice-basis-items.ensures) c.loop-generation.invariant
