use Rattle.src_check.proofs.BlockLists.{blocks_in_order, generation_vectors}
use Rattle.src_check.proofs.Sums.{length_generation_blocks}
use Rattle.src_check.proofs.laws.blocks_by_generation.Goals as goal

pub returns-clause-count : goal.returns-clause-count
returns-clause-count c = length_generation_blocks

pub returns-clause-vectors : goal.returns-clause-vectors
returns-clause-vectors c d file g shape is below =
    let law = c.cut_and_join.ensures in
    generation_vectors d file g (law.are_blocks d file shape is) (λ i within. law.in_order d file g i below within)

pub returns-clause-in_order : goal.returns-clause-in_order
returns-clause-in_order c = blocks_in_order
