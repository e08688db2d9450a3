use Rattle.std.proofs.Common.{◌≡◌, ◌++◌, codes, decimal}
use Rattle.avalanche_cli.proofs.LineLemmas.{then_four}
use Rattle.avalanche_cli.proofs.line.append_rank.Goals as goal

pub returns-clause-items : goal.returns-clause-items
returns-clause-items c =
    let generation : c.append_number.new.line.items ≡ c.append.new.line.items ++ decimal c.args.generation = cc (c.append_number.ensures.items, c.from.ensures) in
    let rank : c.append_number-2.new.line.items ≡ c.append-2.new.line.items ++ decimal c.args.rank = cc (c.append_number-2.ensures.items, c.from-2.ensures) in
    then_four _ (codes "incomplete: generation ") (decimal c.args.generation) (codes " rank ") (decimal c.args.rank) _ _ _ _ c.append.ensures generation c.append-2.ensures rank
