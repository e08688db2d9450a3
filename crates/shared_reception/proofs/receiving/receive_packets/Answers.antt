use Rattle.std.proofs.Common.{ℕ, ◌<◌, ◌≤◌, length, sym, subst}
use Rattle.std.proofs.lemmas.List.Elements.{All-same}
use Rattle.std.proofs.lemmas.Result.{IfOk-weaker}
use Rattle.receive_pass.specs.declared.worker.Worker.{Worker}
use Rattle.shared_reception.proofs.Receptions.{HistoryLaws, all_left, all_ready, few_dealt, is_received, written_back}
use Rattle.shared_reception.proofs.receiving.receive_packets.Goals as goal

pub longest_inbox-room-requires : goal.longest_inbox-room-requires
longest_inbox-room-requires g c =
    All-same (λ (worker : Worker). length worker.inbox.items < 4294967296) c.as_slice.result.now c.in_ok-workers.workers.items c.as_slice.ensures
    (few_dealt c.args.receivers c.args.receivers c.args.packets.items c.in_ok-workers.workers.items c.in_ok-workers.ensures c.requires.few)

pub receive_all-requires-after_bounds : goal.receive_all-requires-after_bounds
receive_all-requires-after_bounds g c κs within =
    all_ready c.args.equations.now c.args.receivers c.args.receivers c.longest_inbox-room.result c.args.packets.items c.in_ok-bases.bases.items c.in_ok-workers.workers.items _
    c.in_ok-workers.ensures c.requires.testable
    (written_back c.args.equations.now c.longest_inbox-room.result c.in_ok-bases.bases.items c.in_ok-workers.workers.items c.as_mut_slice.result.now c.make_bases.new.workers
    c.as_mut_slice.ensures.value c.in_ok-bases.ensures.bases)
    c.in_ok-bases.ensures.count
    (All-same (λ (worker : Worker). length worker.inbox.items ≤ c.longest_inbox-room.result) c.in_ok-workers.workers.items c.as_slice.result.now (sym c.as_slice.ensures)
    c.longest_inbox-room.ensures)

pub close_bases-requires : goal.close_bases-requires
close_bases-requires g c =
    all_left c.args.equations.now c.longest_inbox-room.result c.in_ok-bases.bases.items c.in_ok-workers.workers.items _ c.receive_all.new.workers.items
    (written_back c.args.equations.now c.longest_inbox-room.result c.in_ok-bases.bases.items c.in_ok-workers.workers.items c.as_mut_slice.result.now c.make_bases.new.workers
    c.as_mut_slice.ensures.value c.in_ok-bases.ensures.bases)
    c.receive_all.ensures.count c.receive_all.ensures.each

pub returns-clause-each : goal.returns-clause-each
returns-clause-each g c =
    let laws : HistoryLaws = record { together = c.histories.ensures.together; apart = c.histories.ensures.apart } in
    IfOk-weaker c.close_bases.result _ _ (λ list each generation other low.
    is_received laws c.args.equations.now c.args.receivers c.longest_inbox-room.result generation c.args.packets.items c.in_ok-bases.bases.items c.in_ok-workers.workers.items _
    c.receive_all.new.workers.items _ c.requires.receivers.0 c.in_ok-workers.ensures
    (written_back c.args.equations.now c.longest_inbox-room.result c.in_ok-bases.bases.items c.in_ok-workers.workers.items c.as_mut_slice.result.now c.make_bases.new.workers
    c.as_mut_slice.ensures.value c.in_ok-bases.ensures.bases)
    c.receive_all.ensures.each c.receive_all.ensures.count
    (subst (λ (n : ℕ). generation < n) (sym c.in_ok-bases.ensures.count) low)
    (each generation other (subst (λ (n : ℕ). generation < n) (sym c.in_ok-bases.ensures.count) low))) c.close_bases.ensures.each
