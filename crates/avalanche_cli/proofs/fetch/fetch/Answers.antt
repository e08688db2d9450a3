use Rattle.avalanche_cli.proofs.FetchLemmas.{end_of_reception, kept_of_reception}
use Rattle.avalanche_cli.proofs.fetch.fetch.Goals as goal

pub returns-in-Ok-clause-end : goal.returns-in-Ok-clause-end
returns-in-Ok-clause-end g c =
    end_of_reception _ _ _ _ _ _ _ _ _ c.finished.result c.in-Ok.reception.trace c.in-Ok.reception.file c.in-Ok.ensures.received c.finished.ensures.finished

pub returns-in-Ok-clause-kept : goal.returns-in-Ok-clause-kept
returns-in-Ok-clause-kept g c =
    kept_of_reception _ _ _ _ _ (Unit {0}) (Unit {0}) _ _ c.finished.result c.in-Ok.reception.trace c.in-Ok.reception.file c.in-Ok.ensures.received c.finished.ensures.finished
