use Rattle.avalanche_cli.proofs.HistoryLemmas.{one_history}
use Rattle.avalanche_cli.proofs.laws.one_history.Goals as goal

pub returns : goal.returns
returns c = one_history c.one_case.ensures c.callers.ensures.answered c.callers.ensures.once c.callers.ensures.recorded c.records.ensures.innovative
