use Rattle.std.proofs.Common.{◌+◌, ◌≤◌}
use Rattle.packet_wire.specs.Decoding.{taken_by}
use Rattle.avalanche_cli.specs.Fetch.{stream_limit}
use Rattle.avalanche_cli.specs.Reading.{IsReadTo}
use Rattle.avalanche_cli.proofs.reading.read_frames.Given as goal

-- the decoder was fed what was read so far
abbrev pub invariant-loop-frames : goal.invariant-loop-frames
invariant-loop-frames g l = record {
  read : IsReadTo (g.I.Source.remaining l.initial.input) (g.I.Source.remaining l.input) l.decoder l.frames.items l.room;
  taken : taken_by l.decoder + l.room ≤ stream_limit;
  faults : g.I.Source.faults l.initial.input ≤ g.I.Source.faults l.input;
}

abbrev pub decreases-loop-frames : goal.decreases-loop-frames
decreases-loop-frames g l = l.room
