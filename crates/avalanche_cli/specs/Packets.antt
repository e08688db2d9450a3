-- What the packets of a stream tell: which pass its ticket's checks, their ranks, and the blocks that they are true to.
-- generation: the number of one, from 0. blocks: for each generation, as many blocks as it has.
use Rattle.std.specs.Prelude.{ℕ, ◌==◌, ◌<◌, Bool, true, false, ◌&&◌, not, List, Option, find}
use Rattle.std.specs.List.{filter, range_with_len}
use Rattle.std.specs.Option.{option_map_or}
use Rattle.gf16.specs.Sums.{dot_of}
use Rattle.linear_spec.specs.declared.equations.Equations.{Equations}
use Rattle.linear_spec.specs.declared.packet.Packet.{Packet}
use Rattle.linear_spec.specs.Packet.{coefficients_of}
use Rattle.linear_spec.specs.Passing.{sums_of, weights_of}
use Rattle.linear_spec.specs.Solving.{Solves}
use Rattle.linear_spec.specs.Span.{HasRank}
use Rattle.generation.specs.Shape.{generations_of, symbols_per_block}
use Rattle.src_check.specs.Weights.{weights_of_checks}
use Rattle.packet_wire.specs.Stream.{Contents}

-- the equations of a stream: the weights of its ticket's key, and the ticket's sums
abbrev pub equations_of : Contents → Equations
equations_of contents = record {
  checks = contents.ticket.checks;
  k = contents.manifest.shape.k;
  s = symbols_per_block contents.manifest.shape;
  generations = generations_of contents.manifest.shape;
  weights = weights_of_checks contents.ticket.key (symbols_per_block contents.manifest.shape) contents.ticket.checks;
  sums = contents.ticket.sums;
}

-- whether the packet meets a check: see Meets
abbrev pub meets : Equations → Packet → ℕ → Bool
meets equations packet check = dot_of (weights_of equations check) packet.payload == dot_of packet.coeffs (sums_of equations packet.generation check)

-- the least check that it does not meet: see IsFirstFailing
unfoldable pub first_failing_check : Equations → Packet → Option ℕ
first_failing_check equations packet = find (λ check. not (meets equations packet check)) (range_with_len 0 equations.checks)

-- whether it meets them all: see Passes
abbrev pub passes : Equations → Packet → Bool
passes equations packet = option_map_or (λ _. false) (first_failing_check equations packet) true

-- the packets of a generation that pass, in the stream's order
abbrev pub passing_in : Equations → ℕ → List Packet → List Packet
passing_in equations generation packets = filter (λ packet. (packet.generation == generation) && passes equations packet) packets

abbrev pub passing_of : Contents → ℕ → List Packet
passing_of contents generation = passing_in (equations_of contents) generation contents.packets

-- the rank of their coefficients
abbrev pub HasPacketRank : Contents → ℕ → ℕ → Type 0
HasPacketRank contents generation rank = HasRank contents.manifest.shape.k (coefficients_of (passing_of contents generation)) rank

-- every generation has full rank
abbrev pub HasFullRank : Contents → Type 0
HasFullRank contents = (generation : ℕ) → generation < generations_of contents.manifest.shape
    → HasPacketRank contents generation contents.manifest.shape.k

-- every packet that passes is true to the blocks of its generation
abbrev pub AreTrueTo : Contents → (ℕ → List (List ℕ)) → Type 0
AreTrueTo contents blocks = (generation : ℕ) → generation < generations_of contents.manifest.shape
    → Solves contents.manifest.shape.k (symbols_per_block contents.manifest.shape) (passing_of contents generation) (blocks generation)
