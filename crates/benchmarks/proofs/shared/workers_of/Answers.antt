use Rattle.std.proofs.Common.{◌≡◌, List, [], ◌∷◌, ◌++◌, length, sym, ap, ◌∙◌, subst}
use Rattle.std.specs.List.{All}
use Rattle.std.specs.Option.{option_to_list}
use Rattle.shared_basis.specs.Bases.{PassValue}
use Rattle.receive_pass.specs.declared.worker.Worker.{Worker}
use Rattle.receive_pass.specs.Workers.{IsReady}
use Rattle.benchmarks.specs.Offers.{IsRoomyPassOf}
use Rattle.benchmarks.proofs.SharedLemmas.{all_last, all_less, all_more, one_on}
use Rattle.benchmarks.proofs.shared.workers_of.Goals as goal

-- the pass was one of those that were left
pub worker_with-requires-clause-pass : goal.worker_with-requires-clause-pass
worker_with-requires-clause-pass c =
    let left = c.pop.new.self.items in
    let pass : PassValue = c.in-Some.pass in
    let popped : c.loop-pass.passes.items ≡ left ++ pass ∷ [] = c.pop.ensures.items ∙ ap (λ r. left ++ option_to_list r) c.in-Some.is in
    let P = IsRoomyPassOf c.args.bases.now.items (length c.args.packets.now) in
    all_last P left pass (subst (λ (l : List PassValue). All P l) popped c.loop-pass.invariant.passes)

-- the worker is one more
pub loop-pass-preserved : goal.loop-pass-preserved
loop-pass-preserved c =
    let left = c.pop.new.self.items in
    let pass : PassValue = c.in-Some.pass in
    let worker : Worker = c.in_ok-worker.worker in
    let workers = c.loop-pass.workers.items in
    let popped : c.loop-pass.passes.items ≡ left ++ pass ∷ [] = c.pop.ensures.items ∙ ap (λ r. left ++ option_to_list r) c.in-Some.is in
    let pushed : c.push.new.self.items ≡ workers ++ worker ∷ [] = c.in_ok-push.ensures.ok in
    let P = IsRoomyPassOf c.args.bases.now.items (length c.args.packets.now) in
    let Q = IsReady c.args.equations.now c.args.bases.now.items in
    record {
      passes = all_less P left pass (subst (λ (l : List PassValue). All P l) popped c.loop-pass.invariant.passes);
      ready = subst (λ (l : List Worker). All Q l) (sym pushed) (all_more Q workers worker c.loop-pass.invariant.ready c.in_ok-worker.ensures);
      made = one_on workers c.push.new.self.items worker c.loop-pass.passes.items left pass c.len-count.result pushed popped c.loop-pass.invariant.made;
      count = c.loop-pass.invariant.count;
    }
