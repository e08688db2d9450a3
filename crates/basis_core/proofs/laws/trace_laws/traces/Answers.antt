use Rattle.basis_core.proofs.Merged.{entries_complete, trace_merged}
use Rattle.basis_core.proofs.TraceReplays.{trace_replays}
use Rattle.basis_core.proofs.OneReplay.{one_replay}
use Rattle.basis_core.proofs.laws.trace_laws.traces.Goals as goal

pub returns : goal.returns
returns c = record {
  complete = λ caller own has.
      entries_complete caller.number caller.calls.items own.packets.items own.failed.items has.packets has.failed;
  merged = trace_merged;
  replays = trace_replays;
  one_replay = one_replay c.one_case.ensures;
}
