use Rattle.std.proofs.Common.{◌≡◌, ◌+◌, length}
use Rattle.std.specs.Io.KnownBytes.{Consumes}
use Rattle.swarm_io.proofs.reading.read_all.Given as goal

-- the bytes so far were taken, with the room they are the limit, and no read failed
abbrev pub invariant-loop-bytes : goal.invariant-loop-bytes
invariant-loop-bytes g l = record {
  taken : Consumes (g.I.Source.remaining l.initial.input) (g.I.Source.remaining l.input) l.bytes.items;
  count : length l.bytes.items + l.room ≡ l.limit;
  faults : g.I.Source.faults l.input ≡ g.I.Source.faults l.initial.input;
}

abbrev pub decreases-loop-bytes : goal.decreases-loop-bytes
decreases-loop-bytes g l = l.room
