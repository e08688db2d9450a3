use Rattle.generation.proofs.CutLemmas.{AreBlocks-blocks_of, AreZeroPadded-blocks_of, blocks_of-file_of, file_of-blocks_of, slice_get-blocks_of}
use Rattle.generation.proofs.laws.cut_and_join.Goals as goal

pub returns-clause-are_blocks : goal.returns-clause-are_blocks
returns-clause-are_blocks c d file shape is =
    AreBlocks-blocks_of d shape c.bytes_spell_symbols.ensures file is

pub returns-clause-zero_padded : goal.returns-clause-zero_padded
returns-clause-zero_padded c d file shape is =
    AreZeroPadded-blocks_of d shape c.bytes_spell_symbols.ensures file is

pub returns-clause-in_order : goal.returns-clause-in_order
returns-clause-in_order c = slice_get-blocks_of

pub returns-clause-file : goal.returns-clause-file
returns-clause-file c d file shape is =
    file_of-blocks_of d shape c.bytes_spell_symbols.ensures file is

pub returns-clause-blocks : goal.returns-clause-blocks
returns-clause-blocks c d blocks shape are padded =
    blocks_of-file_of d shape c.bytes_spell_symbols.ensures blocks are padded
