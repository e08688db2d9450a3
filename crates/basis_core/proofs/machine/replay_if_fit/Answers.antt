use Rattle.std.proofs.Common.{eqb, arith}
use Rattle.std.proofs.lemmas.List.Sums.{length-filter, count_by-le-length}
use Rattle.basis_core.specs.Machine.{caller_of}
use Rattle.basis_core.proofs.machine.replay_if_fit.Goals as goal

pub replay-requires-clause-room : goal.replay-requires-clause-room
replay-requires-clause-room c = λ caller.
    let events = c.args.events.now.items in
    let most = count_by-le-length (λ event. eqb (caller_of event) caller) events in
    let count = length-filter (λ event. eqb (caller_of event) caller) events in
    omega arith
