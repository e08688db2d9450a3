use Rattle.std.proofs.Common.{rules, refl}
use Rattle.benchmarks.proofs.SharedLemmas.{ready_with}
use Rattle.benchmarks.proofs.shared.worker_with.Goals as goal

-- it has the pass and the inbox
pub returns : goal.returns
returns c =
    ready_with c.args.equations.now c.args.bases.now.items c.args.room c.args.pass c.args.inbox.items _ c.requires.basis c.requires.pass c.requires.few
    c.requires.inbox (search rules) refl
