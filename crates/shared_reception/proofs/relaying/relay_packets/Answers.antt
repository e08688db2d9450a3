use Rattle.std.proofs.Common.{◌≡◌, ℕ, ◌+◌, ◌<◌, ◌≤◌, ◌∙◌, List, length, max, sym, subst, arith}
use Rattle.std.specs.List.{All}
use Rattle.std.proofs.lemmas.List.Elements.{All-same}
use Rattle.std.proofs.lemmas.Result.{IfOk-weaker}
use Rattle.linear_spec.specs.declared.equations.Equations.{Equations}
use Rattle.shared_basis.specs.Bases.{BasisValue}
use Rattle.receive_pass.specs.declared.worker.Worker.{Worker}
use Rattle.shared_reception.specs.Steps.{AreMadeWith, HaveBases}
use Rattle.shared_reception.proofs.DrawFits.{all_fit}
use Rattle.shared_reception.proofs.Receptions.{HistoryLaws, all_left, all_ready, few_dealt, written_back}
use Rattle.shared_reception.proofs.RelayReceptions.{is_relayed, sender_left}
use Rattle.shared_reception.proofs.relaying.relay_packets.Goals as goal

-- no inbox exceeds a larger room either
within_room : (longest coded room : ℕ) (workers lent : List Worker) → lent ≡ workers → room ≡ max longest coded
    → All (λ worker. length worker.inbox.items ≤ longest) lent → All (λ worker. length worker.inbox.items ≤ room) workers
within_room longest coded room workers lent same is within = λ number other low.
    let mine : All (λ worker. length worker.inbox.items ≤ longest) workers = All-same (λ worker. length worker.inbox.items ≤ longest) workers lent (sym same) within in
    let fits = mine number other low in
    omega arith

coded_within : (longest coded room : ℕ) → room ≡ max longest coded → coded ≤ room
coded_within longest coded room is = omega arith

-- the bases are made for as many passes as there are workers at the end
made_for_all : (equations : Equations) (bases : List BasisValue) (room : ℕ) (dealt before after : List Worker) → HaveBases equations room bases dealt before
    → length after ≡ length before → AreMadeWith equations (length after) bases
made_for_all equations bases room dealt before after have same =
    subst (λ (n : ℕ). AreMadeWith equations n bases) (sym (same ∙ have.count)) have.made

pub longest_inbox-requires : goal.longest_inbox-requires
longest_inbox-requires g c =
    All-same (λ (worker : Worker). length worker.inbox.items < 4294967296) c.as_slice.result.now c.in_ok-workers.workers.items c.as_slice.ensures
    (few_dealt c.args.receivers (c.args.receivers + 1) c.args.packets.items c.in_ok-workers.workers.items c.in_ok-workers.ensures c.requires.few)

pub receive_all-requires-after_bounds : goal.receive_all-requires-after_bounds
receive_all-requires-after_bounds g c κs within =
    all_ready c.args.equations.now c.args.receivers (c.args.receivers + 1) c.max-room.result c.args.packets.items c.in_ok-bases.bases.items c.in_ok-workers.workers.items _
    c.in_ok-workers.ensures c.requires.testable
    (written_back c.args.equations.now c.max-room.result c.in_ok-bases.bases.items c.in_ok-workers.workers.items c.as_mut_slice.result.now c.make_bases.new.workers
    c.as_mut_slice.ensures.value c.in_ok-bases.ensures.bases)
    c.in_ok-bases.ensures.count
    (within_room c.longest_inbox.result c.args.sending.now.coded c.max-room.result c.in_ok-workers.workers.items c.as_slice.result.now c.as_slice.ensures c.max-room.ensures
    c.longest_inbox.ensures)

pub relay_bases-requires-clause-made : goal.relay_bases-requires-clause-made
relay_bases-requires-clause-made g c =
    made_for_all c.args.equations.now c.in_ok-bases.bases.items c.max-room.result c.in_ok-workers.workers.items _ c.receive_all.new.workers.items
    (written_back c.args.equations.now c.max-room.result c.in_ok-bases.bases.items c.in_ok-workers.workers.items c.as_mut_slice.result.now c.make_bases.new.workers
    c.as_mut_slice.ensures.value c.in_ok-bases.ensures.bases)
    c.receive_all.ensures.count

pub relay_bases-requires-clause-passes : goal.relay_bases-requires-clause-passes
relay_bases-requires-clause-passes g c =
    all_left c.args.equations.now c.max-room.result c.in_ok-bases.bases.items c.in_ok-workers.workers.items _ c.receive_all.new.workers.items
    (written_back c.args.equations.now c.max-room.result c.in_ok-bases.bases.items c.in_ok-workers.workers.items c.as_mut_slice.result.now c.make_bases.new.workers
    c.as_mut_slice.ensures.value c.in_ok-bases.ensures.bases)
    c.receive_all.ensures.count c.receive_all.ensures.each

pub relay_bases-requires-clause-sender : goal.relay_bases-requires-clause-sender
relay_bases-requires-clause-sender g c =
    sender_left c.args.receivers c.max-room.result c.args.sending.now.coded c.args.packets.items c.in_ok-bases.bases.items c.in_ok-workers.workers.items _
    c.receive_all.new.workers.items c.args.equations.now c.requires.receivers.0
    (coded_within c.longest_inbox.result c.args.sending.now.coded c.max-room.result c.max-room.ensures) c.in_ok-workers.ensures
    (written_back c.args.equations.now c.max-room.result c.in_ok-bases.bases.items c.in_ok-workers.workers.items c.as_mut_slice.result.now c.make_bases.new.workers
    c.as_mut_slice.ensures.value c.in_ok-bases.ensures.bases)
    c.receive_all.ensures.each c.receive_all.ensures.count

pub returns-clause-each : goal.returns-clause-each
returns-clause-each g c =
    let laws : HistoryLaws = record { together = c.histories.ensures.together; apart = c.histories.ensures.apart } in
    IfOk-weaker c.relay_bases.result _ _ (λ relayed each generation other low.
    let there : generation < length c.in_ok-bases.bases.items = subst (λ (n : ℕ). generation < n) (sym c.in_ok-bases.ensures.count) low in
    is_relayed laws c.args.equations.now c.args.receivers c.max-room.result generation c.args.packets.items c.args.sending.now c.in_ok-bases.bases.items
    c.in_ok-workers.workers.items _ c.receive_all.new.workers.items _ c.requires.receivers.0 c.in_ok-workers.ensures
    (written_back c.args.equations.now c.max-room.result c.in_ok-bases.bases.items c.in_ok-workers.workers.items c.as_mut_slice.result.now c.make_bases.new.workers
    c.as_mut_slice.ensures.value c.in_ok-bases.ensures.bases)
    c.receive_all.ensures.each c.receive_all.ensures.count there (each generation other there)) c.relay_bases.ensures.each

pub returns-clause-fits : goal.returns-clause-fits
returns-clause-fits g c =
    all_fit c.relay_bases.result c.spans.ensures c.args.equations.now c.args.receivers c.args.packets.items c.args.sending.now
    (IfOk-weaker c.relay_bases.result _ _ (λ relayed same. same ∙ c.in_ok-bases.ensures.count) c.relay_bases.ensures.count) (returns-clause-each g c) c.relay_bases.ensures.sent
