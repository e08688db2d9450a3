use Rattle.std.proofs.Common.{arith}
use Rattle.std.proofs.lemmas.Grind.{common_steps}
use Rattle.std.proofs.lemmas.List.{drop-replicate}
use Rattle.generation.proofs.PaddingLemmas.{zero_padded-split}
use Rattle.generation.proofs.blocks.padded_with_zeros.Goals as goal

pub returns : goal.returns
returns c =
    let split = zero_padded-split c.args.len c.args.bytes.now in
    grind (arith, common_steps, split, drop-replicate)
