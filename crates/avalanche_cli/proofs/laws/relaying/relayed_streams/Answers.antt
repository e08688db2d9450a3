use Rattle.avalanche_cli.proofs.RelayLaws.{relayed_truth, sends_lie, truly_relayed}
use Rattle.avalanche_cli.proofs.laws.relaying.relayed_streams.Goals as goal

pub returns-clause-lie : goal.returns-clause-lie
returns-clause-lie c = λ bytes words contents trace stream legal.
    sends_lie c.callers.ensures.recorded c.records.ensures.innovative words contents trace legal bytes stream c.spans.ensures.span

pub returns-clause-truly : goal.returns-clause-truly
returns-clause-truly c = λ bytes words contents trace stream legal.
    truly_relayed c.callers.ensures.recorded c.records.ensures.innovative words contents trace legal bytes stream c.spans.ensures.fits
    c.passing.ensures c.weights_and_sums.ensures.weights c.truth.ensures.drawn

pub returns-clause-chain : goal.returns-clause-chain
returns-clause-chain c = λ bytes words contents trace blocks stream legal are.
    relayed_truth c.callers.ensures.recorded c.records.ensures.innovative words contents trace legal bytes stream c.truth.ensures.drawn blocks are
