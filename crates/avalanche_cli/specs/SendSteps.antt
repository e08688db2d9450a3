-- What the steps of a relay make of its draws, and which packets frames have room for: for private functions.
use Rattle.std.specs.Prelude.{◌≤◌, List, length}
use Rattle.std.specs.List.{flat_map}
use Rattle.linear_spec.specs.declared.packet.Packet.{Packet}
use Rattle.shared_reception.specs.declared.sends.SentDraw.{SentDraw}
use Rattle.shared_reception.specs.declared.sends.Sending.{Sending}
use Rattle.avalanche_cli.specs.Sends.{packets_by}
use Rattle.avalanche_cli.specs.declared.trace.SendEntry.{SendEntry}

-- a draw as a trace has it
abbrev pub entry_of : Sending → SentDraw → SendEntry
entry_of sending draw = record {
  round = 1;
  link = sending.link;
  peer = 0;
  generation = draw.generation;
  q = draw.q;
  drawn = draw.drawn;
}

-- the packets that draws send
abbrev pub packets_of_draws : List SentDraw → List Packet
packets_of_draws draws = flat_map (λ draw. packets_by draw.drawn draw.packet) draws

-- a frame has room for the packet
pub record FitsFrame (packet : Packet) : Type 0 where
  pub coeffs : length packet.coeffs ≤ 64
  pub payload : length packet.payload ≤ 2048
