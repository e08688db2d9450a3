use Rattle.std.proofs.Common.{◌≡◌, ◌*◌, ◌≤◌, ◌<◌, length}
use Rattle.packet_wire.specs.Frames.{frames_of}
use Rattle.packet_wire.specs.Stream.{Contents, IsStream}
use Rattle.benchmarks.proofs.decoding.Decoding.frames_given.Given as goal

-- the frames of the turns so far; from the first turn on it is known that the bytes are a stream
abbrev pub invariant-loop-turn : goal.invariant-loop-turn
invariant-loop-turn l = record {
  number : (contents : Contents) → IsStream l.bytes contents → l.given ≡ l._turn * length (frames_of contents);
  bound : l.given ≤ l._turn * 67108867;
  stream : 0 < l._turn → (contents : Contents) × IsStream l.bytes contents;
}
