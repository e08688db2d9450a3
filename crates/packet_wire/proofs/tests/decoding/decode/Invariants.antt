use Rattle.std.proofs.Common.{◌+◌, ◌≤◌, length}
use Rattle.packet_wire.specs.Decoding.{taken_by}
use Rattle.packet_wire.proofs.tests.decoding.decode.Given as goal

-- it took no more than the bytes before the rest
abbrev pub invariant-loop-rest : goal.invariant-loop-rest
invariant-loop-rest l = taken_by l.decoder + length l.rest ≤ length l.bytes

abbrev pub decreases-loop-rest : goal.decreases-loop-rest
decreases-loop-rest l = length l.rest
