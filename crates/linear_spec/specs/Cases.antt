-- The three cases of a packet at a front: fresh, within or conflicting.
-- k, s: the numbers of coefficients and of payload symbols of each packet. front: the packets that there were before.
-- combination of the front: of the front's packets, with a symbol as the coefficient of each.
use Rattle.std.specs.Prelude.{◌⊎◌, ℕ, ◌+◌, List}
use Rattle.linear_spec.specs.declared.packet.Packet.{Packet}
use Rattle.linear_spec.specs.Packet.{vector_of, vectors_of, coefficients_of}
use Rattle.linear_spec.specs.Span.{InSpan}

-- it tells something new: no combination of the front has its coefficients
abbrev pub IsFresh : ℕ → List Packet → Packet → Type 0
IsFresh k front packet = ¬ InSpan k (coefficients_of front) packet.coeffs

-- it follows from the front: some combination of the front is the packet, coefficients and payload
abbrev pub IsWithin : ℕ → ℕ → List Packet → Packet → Type 0
IsWithin k s front packet = InSpan (k + s) (vectors_of front) (vector_of packet)

-- neither: combinations of the front have its coefficients, but none its payload as well
abbrev pub IsConflicting : ℕ → ℕ → List Packet → Packet → Type 0
IsConflicting k s front packet = (¬ IsFresh k front packet) × (¬ IsWithin k s front packet)

-- exactly one case holds
pub record IsOneCase (k s : ℕ) (front : List Packet) (packet : Packet) : Type 0 where
  pub some : IsFresh k front packet ⊎ (IsWithin k s front packet ⊎ IsConflicting k s front packet)
  pub within_is_not_fresh : IsWithin k s front packet → ¬ IsFresh k front packet
