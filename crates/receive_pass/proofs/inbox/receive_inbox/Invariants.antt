use Rattle.std.proofs.Common.{take}
use Rattle.receive_pass.specs.Workers.{HaveOffered}
use Rattle.receive_pass.proofs.inbox.receive_inbox.Given as goal

-- the packets so far were received
abbrev pub invariant-loop-place : goal.invariant-loop-place
invariant-loop-place g l = HaveOffered (take l.place l.inbox) l.initial.passes.items l.passes.items
