use Rattle.std.proofs.Common.{◌≡◌, List, ◌++◌, map, take, drop}
use Rattle.linear_spec.specs.declared.record.Record.{Record}
use Rattle.basis_core.specs.declared.trace.Answer.{Answer}
use Rattle.basis_core.specs.Machine.{IsReplay, IsReplayAfter, caller_of}
use Rattle.basis_core.proofs.machine.replay.Given as goal

-- whatever replays the events that are left replays them all, behind the answers so far
abbrev pub invariant-loop-event : goal.invariant-loop-event
invariant-loop-event l = record {
  k : l.core.k ≡ l.k;
  s : l.core.s ≡ l.s;
  callers : l.core.callers ≡ map caller_of (take l.event-index l.events);
  replays : (rest : List Answer) (after : List Record) → IsReplayAfter l.k l.s l.core.callers l.core.records (drop l.event-index l.events) rest after
      → IsReplay l.k l.s l.events (l.answers.items ++ rest) after;
}
