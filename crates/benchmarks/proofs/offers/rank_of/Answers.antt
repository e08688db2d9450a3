use Rattle.linear_spec.specs.Packet.{coefficients_of}
use Rattle.benchmarks.proofs.SharedLemmas.{coefficients_fit}
use Rattle.benchmarks.proofs.offers.rank_of.Goals as goal

-- vectors of K symbols have at most the rank K
pub returns : goal.returns
returns c =
    let basis = c.args.basis.now in
    c.ranks.ensures.at_most_symbols basis.k (coefficients_of basis.packets) c.rank.result
    (coefficients_fit basis.k basis.s basis.packets c.records.ensures.fit) c.rank.ensures.rank
