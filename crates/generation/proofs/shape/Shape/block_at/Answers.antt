use Rattle.std.proofs.Common.{◌≡◌, ap, ◌∙◌, length}
use Rattle.linear_spec.specs.Symbols.{symbols_of}
use Rattle.generation.specs.Blocks.{block_at}
use Rattle.generation.proofs.BlockLemmas.{IfOk-vector, block_at-from}
use Rattle.generation.proofs.PaddingLemmas.{length-zero_padded}
use Rattle.generation.proofs.shape.Shape.block_at.Goals as goal

-- the symbols that were read are those of the block
is_block : (c : goal.After-drop-bytes) → symbols_of c.as_slice.result.now ≡ block_at c.args.self.now c.args.file.now c.args.number
is_block c =
    let start_is = rw (c.from-block.ensures, c.block.ensures.value) at c.min-start.ensures in
    let bytes_are = rw (c.from-block.ensures, c.block.ensures.value) at (c.as_slice.ensures.value ∙ c.in_ok-bytes.ensures) in
    block_at-from c.args.self.now c.args.file.now c.as_slice.result.now c.args.number c.min-start.result start_is bytes_are

pub returns-clause-value : goal.returns-clause-value
returns-clause-value c = rw (is_block c) at c.from_be_bytes.ensures.symbols

pub returns-clause-vector : goal.returns-clause-vector
returns-clause-vector c =
    let read = ap length (c.as_slice.ensures.value ∙ c.in_ok-bytes.ensures) ∙ length-zero_padded _ _ in
    let whole = read ∙ c.from-block.ensures ∙ c.block.ensures.value in
    IfOk-vector _ _ (rw whole at c.from_be_bytes.ensures.count) c.from_be_bytes.ensures.are_symbols
