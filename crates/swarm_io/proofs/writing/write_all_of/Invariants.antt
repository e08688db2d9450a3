use Rattle.std.proofs.Common.{◌≡◌, ◌-◌, ◌≤◌, length, take}
use Rattle.std.specs.Io.KnownBytes.{Appends}
use Rattle.swarm_io.proofs.writing.write_all_of.Given as goal

-- the sink took the bytes that are done, refused none, and is untouched until there are some
abbrev pub invariant-loop-done : goal.invariant-loop-done
invariant-loop-done g l = record {
  within : l.done ≤ length l.bytes;
  appended : Appends (g.O.Sink.contents l.initial.output) (g.O.Sink.contents l.output) (take l.done l.bytes);
  untouched : l.done ≡ 0 → l.output ≡ l.initial.output;
  faults : g.O.Sink.faults l.output ≡ g.O.Sink.faults l.initial.output;
  wants : g.O.Sink.wants l.output ≡ g.O.Sink.wants l.initial.output;
}

abbrev pub decreases-loop-done : goal.decreases-loop-done
decreases-loop-done g l = length l.bytes - l.done
