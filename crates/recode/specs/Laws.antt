-- The statements of the laws of draws: what a packet drawn has of the packets of its front.
-- k, s: the numbers of coefficients and of payload symbols of each packet. generation: that of the packet drawn. key, link, q: what
-- a draw takes its words by. front: the packets that are combined. blocks: the source's lists of s symbols.
use Rattle.std.specs.Prelude.{◌≡◌, ◌≤◌, ◌+◌, ℕ, List, length}
use Rattle.std.specs.List.{All}
use Rattle.linear_spec.specs.declared.equations.Equations.{Equations}
use Rattle.linear_spec.specs.declared.packet.Packet.{Packet}
use Rattle.linear_spec.specs.Packet.{Fits, IsTrueTo, vector_of, vectors_of}
use Rattle.linear_spec.specs.Passing.{AreEquations, Passes}
use Rattle.linear_spec.specs.Span.{InSpan}
use Rattle.linear_spec.specs.Symbols.{IsVector}
use Rattle.recode.specs.Draws.{drawn_packet, polluted_packet}

-- where a packet drawn over a front that fits lies
pub record DrawSpanLaws : Type 0 where
  -- it fits
  pub fits : (k s generation link q : ℕ) (key : List ℕ) (front : List Packet) → All (Fits k s) front
      → Fits k s (drawn_packet k s generation key link q front)
  -- it lies in the span of its front
  pub span : (k s generation link q : ℕ) (key : List ℕ) (front : List Packet) → All (Fits k s) front
      → InSpan (k + s) (vectors_of front) (vector_of (drawn_packet k s generation key link q front))
  -- with a polluted draw's change it fits still
  pub polluted : (k s generation link q : ℕ) (key : List ℕ) (front : List Packet) → All (Fits k s) front
      → Fits k s (polluted_packet key link q (drawn_packet k s generation key link q front))

-- no check refuses a packet drawn over a front of one generation whose packets all pass
abbrev pub DrawPassingLaw : Type 0
DrawPassingLaw = (equations : Equations) (generation link q : ℕ) (key : List ℕ) (front : List Packet) → AreEquations equations
    → All (Fits equations.k equations.s) front → All (λ packet. packet.generation ≡ generation) front
    → All (Passes equations) front → Passes equations (drawn_packet equations.k equations.s generation key link q front)

-- what draws do to truth, over a front whose packets are true to some blocks
pub record DrawTruthLaws : Type 0 where
  -- the packet drawn is true to them too
  pub drawn : (k s generation link q : ℕ) (key : List ℕ) (front : List Packet) (blocks : List (List ℕ))
      → All (Fits k s) front → All (IsTrueTo s blocks) front → length blocks ≡ k → All (IsVector s) blocks
      → IsTrueTo s blocks (drawn_packet k s generation key link q front)
  -- with a polluted draw's change, where there is a payload, it no longer is
  pub polluted : (k s generation link q : ℕ) (key : List ℕ) (front : List Packet) (blocks : List (List ℕ))
      → All (Fits k s) front → All (IsTrueTo s blocks) front → length blocks ≡ k → All (IsVector s) blocks → 1 ≤ s
      → ¬ IsTrueTo s blocks (polluted_packet key link q (drawn_packet k s generation key link q front))
