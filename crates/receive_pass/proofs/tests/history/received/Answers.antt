use Rattle.receive_pass.proofs.Made.{all_left}
use Rattle.receive_pass.proofs.tests.history.received.Goals as goal

pub taken_apart-requires-clause-workers : goal.taken_apart-requires-clause-workers
taken_apart-requires-clause-workers g c =
    all_left c.args.equations.now c.in_ok-bases.bases.items c.in_ok-workers.workers.items c.receive_all.new.workers.items c.receive_all.ensures.count
    c.receive_all.ensures.each c.in_ok-workers.ensures
