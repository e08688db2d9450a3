use Rattle.avalanche_cli.proofs.RelayEndLemmas.{end_of_delivery, kept_of_delivery}
use Rattle.avalanche_cli.proofs.relay.relay.Goals as goal

pub returns-in-Ok-clause-end : goal.returns-in-Ok-clause-end
returns-in-Ok-clause-end g c =
    end_of_delivery _ _ c.after_delivery.result _ _ _ _ _ _ _ c.in-Ok.field-0.trace c.in-Ok.field-0.stream.items _ c.deliver.result c.as_slice.ensures c.in-Ok.ensures.relayed c.deliver.ensures.delivered c.after_delivery.ensures

pub returns-in-Ok-clause-kept : goal.returns-in-Ok-clause-kept
returns-in-Ok-clause-kept g c =
    kept_of_delivery _ _ c.after_delivery.result c.in-Ok.field-0.trace c.in-Ok.field-0.stream.items c.deliver.result c.in-Ok.ensures.relayed c.after_delivery.ensures
