-- The laws of the check, for all equations and packets.
use Rattle.std.specs.Prelude.{◌≡◌, ℕ, List}
use Rattle.std.specs.List.{All}
use Rattle.linear_spec.specs.declared.equations.Equations.{Equations}
use Rattle.linear_spec.specs.declared.packet.Packet.{Packet}
use Rattle.linear_spec.specs.Symbols.{AreSymbols, IsVector}
use Rattle.linear_spec.specs.Combination.{combination_of}
use Rattle.linear_spec.specs.Packet.{Fits, IsTrueTo, coefficients_of, payloads_of}
use Rattle.linear_spec.specs.Passing.{AreEquations, HaveSumsOf, IsTestable, Passes}

-- the check is linear, and a packet that is true to blocks passes equations that have the weighted sums of these blocks
pub record CheckLaws : Type 0 where
  -- a combination of packets of one generation that pass the equations passes them too
  pub linear : (equations : Equations) (packets : List Packet) (coefficients : List ℕ)
      (combined : Packet) → AreEquations equations → AreSymbols coefficients
      → All (Fits equations.k equations.s) packets
      → All (λ packet. packet.generation ≡ combined.generation) packets → All (Passes equations) packets
      → combined.coeffs ≡ combination_of equations.k coefficients (coefficients_of packets)
      → combined.payload ≡ combination_of equations.s coefficients (payloads_of packets)
      → Passes equations combined
  -- a packet true to blocks passes their sums
  pub truth : (equations : Equations) (blocks : List (List ℕ)) (packet : Packet)
      → IsTestable equations packet → All (IsVector equations.s) blocks → HaveSumsOf equations packet.generation blocks
      → IsTrueTo equations.s blocks packet → Passes equations packet
