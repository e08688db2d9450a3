use Rattle.std.proofs.lemmas.List.{take_rest}
use Rattle.avalanche_cli.proofs.DeliveryLemmas.{delivered_on, rose_from}
use Rattle.avalanche_cli.proofs.delivery.deliver.Goals as goal

pub returns-in-Ok-clause-delivered : goal.returns-in-Ok-clause-delivered
returns-in-Ok-clause-delivered g c =
    delivered_on _ _ _ _ _ _ _ c.args.file.now _ c.in-Ok.count c.deliver_rest.result c.in-Ok.ensures.bound.0 c.in-Ok.ensures.bound.1 (take_rest c.args.file.now c.in-Ok.count) c.in-Ok.ensures.bytes c.deliver_rest.ensures.delivered
    (rose_from _ _ _ c.write.ensures.faults) (rose_from _ _ _ c.write.ensures.wants)
