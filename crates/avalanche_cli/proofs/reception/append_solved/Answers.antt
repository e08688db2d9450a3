use Rattle.std.proofs.Common.{◌++◌, ◌∙◌, List, ℕ, ap, arith}
use Rattle.std.specs.List.{flat_map}
use Rattle.std.proofs.lemmas.List.{take_all}
use Rattle.linear_spec.specs.Symbols.{be_bytes_of}
use Rattle.generation.specs.Shape.{symbols_per_block}
use Rattle.avalanche_cli.proofs.ReceptionLemmas.{appended_of, own_stand}
use Rattle.avalanche_cli.proofs.reception.append_solved.Goals as goal

pub solve-requires-clause-rows : goal.solve-requires-clause-rows
solve-requires-clause-rows g c κs within =
    let shape = c.args.shape.now in
    let blocks = c.requires.shape.k in
    own_stand shape.k (symbols_per_block shape) c.args.basis.now (omega (arith, blocks)) c.requires.basis c.requires.full

pub returns : goal.returns
returns g c =
    let shape = c.args.shape.now in
    let blocks = c.requires.shape.k in
    let items = c.as_slice-block-items.result.now in
    appended_of shape.k (symbols_per_block shape) c.args.basis.now c.in_ok-blocks.blocks.items c.args.bytes.now.items c.loop-block.bytes.items (omega (arith, blocks)) c.requires.basis c.requires.full
    c.in_ok-blocks.ensures.solves c.in_ok-blocks.ensures.only
    (c.loop-block.invariant ∙ ap (λ (l : List (List ℕ)). c.args.bytes.now.items ++ flat_map be_bytes_of l) (take_all c.loop-block.block-index items (omega arith) ∙ c.as_slice-block-items.ensures))
