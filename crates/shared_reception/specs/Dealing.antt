-- How packets are dealt to receivers.
-- receivers: how many there are, numbered from 0. tag: the place of a packet in its stream, from 0, over all generations.
use Rattle.std.specs.Prelude.{ℕ, ◌+◌, ◌%◌, ◌==◌, cond, nat_lt, List, [], ◌∷◌, Some, None}
use Rattle.std.specs.List.{filter}
use Rattle.linear_spec.specs.declared.packet.Packet.{Packet}
use Rattle.basis_core.specs.Calls.{KeptCall}
use Rattle.basis_core.specs.Merge.{Given}
use Rattle.receive_pass.specs.declared.worker.TaggedPacket.{TaggedPacket}
use Rattle.receive_pass.specs.Workers.{of_generation}

-- packets with their tags, counted on from this one
abbrev pub tagged_from : List Packet → ℕ → List TaggedPacket
tagged_from [] tag = []
tagged_from (packet ∷ packets) tag = record { tag = tag; packet = packet } ∷ tagged_from packets (tag + 1)

-- the packets that a receiver gets, in order: by their tags packets go to the receivers in turn
abbrev pub inbox_of : ℕ → ℕ → List Packet → List TaggedPacket
inbox_of receivers receiver packets = filter (λ tagged. tagged.tag % receivers == receiver) (tagged_from packets 0)

-- those of a generation
abbrev pub dealt_to : ℕ → ℕ → ℕ → List Packet → List TaggedPacket
dealt_to receivers receiver generation packets = of_generation generation (inbox_of receivers receiver packets)

-- given are the calls of the callers with numbers below this count
abbrev pub given_below : ℕ → (ℕ → List KeptCall) → Given
given_below count kept number = cond (nat_lt number count) (Some (kept number)) None
