use Rattle.std.proofs.Common.{arith}
use Rattle.std.proofs.lemmas.Grind.{common_steps}
use Rattle.generation.specs.Blocks.{file_of}
use Rattle.generation.proofs.FileLemmas.{length-file_of}
use Rattle.generation.proofs.shape.Shape.join_blocks.Goals as goal

pub returns-clause-len : goal.returns-clause-len
unfolding file_of
returns-clause-len c =
    let whole = length-file_of c.bytes_spell_symbols.ensures c.args.self.now c.args.blocks.now.items c.len-len.ensures.shape c.requires in
    grind (arith, common_steps, whole)
