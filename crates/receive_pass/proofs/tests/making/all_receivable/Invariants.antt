use Rattle.std.proofs.Common.{ℕ, ◌<◌, get_or}
use Rattle.receive_pass.specs.declared.worker.TaggedPacket.{TaggedPacket}
use Rattle.receive_pass.specs.Workers.{IsReceivable}
use Rattle.receive_pass.proofs.tests.making.all_receivable.Given as goal

abbrev pub invariant-loop-tagged : goal.invariant-loop-tagged
invariant-loop-tagged l = (j : ℕ) (d : TaggedPacket) → j < l.tagged-index → IsReceivable l.equations l.bases.items (get_or l.inbox j d)
