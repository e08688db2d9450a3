use Rattle.std.proofs.Common.{◌+◌, ◌≤◌, length}
use Rattle.packet_wire.specs.Decoding.{taken_by}
use Rattle.benchmarks.proofs.DecodingLemmas.{IsFedTo}
use Rattle.benchmarks.proofs.decoding.count_frames.Given as goal

-- the decoder was fed all bytes but the rest
abbrev pub invariant-loop-rest : goal.invariant-loop-rest
invariant-loop-rest l = record {
  fed : IsFedTo l.bytes l.decoder l.frames.items l.rest;
  taken : taken_by l.decoder + length l.rest ≤ length l.bytes;
}

abbrev pub decreases-loop-rest : goal.decreases-loop-rest
decreases-loop-rest l = length l.rest
