-- Which packets pass given equations: two plain sums for each check. What is said here is meant for packets that are
-- testable by the equations.
-- checks: the number of checks. k, s: the numbers of coefficients and of payload symbols of a packet, so of the blocks of
-- a generation and of the symbols of a block. generations: their number. weights: s symbols for each check. sums: for each
-- generation and check k symbols, the weighted sum of each block.
use Rattle.std.specs.Prelude.{◌≡◌, ℕ, ◌+◌, ◌*◌, ◌<◌, List, [], take, drop, map}
use Rattle.gf16.specs.Sums.{dot_of}
use Rattle.linear_spec.specs.declared.equations.Equations.{Equations}
use Rattle.linear_spec.specs.declared.packet.Packet.{Packet}
use Rattle.linear_spec.specs.Symbols.{IsVector}
use Rattle.linear_spec.specs.Packet.{Fits}

-- the lists have the lengths that the numbers say
pub record AreEquations (equations : Equations) : Type 0 where
  pub weights : IsVector (equations.checks * equations.s) equations.weights
  pub sums : IsVector (equations.generations * equations.checks * equations.k) equations.sums

-- the equations of generations of k blocks of s symbols with no check
abbrev pub without_checks : ℕ → ℕ → ℕ → Equations
without_checks k s generations = record {
  checks = 0;
  k = k;
  s = s;
  generations = generations;
  weights = [];
  sums = [];
}

-- a packet that the equations speak of: it has their lengths, and its generation is one of theirs. For another packet the
-- lists below may be cut short, and Meets and Passes then say nothing of a source
pub record IsTestable (equations : Equations) (packet : Packet) : Type 0 where
  pub are_equations : AreEquations equations
  pub fits : Fits equations.k equations.s packet
  pub generation_below : packet.generation < equations.generations

-- the weights of a check
abbrev pub weights_of : Equations → ℕ → List ℕ
weights_of equations check = take equations.s (drop (check * equations.s) equations.weights)

-- the sums of a check over the blocks of a generation
abbrev pub sums_of : Equations → ℕ → ℕ → List ℕ
sums_of equations generation check = take equations.k (drop ((generation * equations.checks + check) * equations.k) equations.sums)

-- the sums of a generation are the weighted sums of these blocks, one for each
abbrev pub HaveSumsOf : Equations → ℕ → List (List ℕ) → Type 0
HaveSumsOf equations generation blocks = (check : ℕ) → check < equations.checks
    → sums_of equations generation check ≡ map (dot_of (weights_of equations check)) blocks

-- the weighted sum of the payload is the sum of the coefficients times the sums of the blocks
abbrev pub Meets : Equations → Packet → ℕ → Type 0
Meets equations packet check = dot_of (weights_of equations check) packet.payload ≡ dot_of packet.coeffs (sums_of equations packet.generation check)

-- the packet meets every check
abbrev pub Passes : Equations → Packet → Type 0
Passes equations packet = (check : ℕ) → check < equations.checks → Meets equations packet check

-- the least check that the packet does not meet
pub record IsFirstFailing (equations : Equations) (packet : Packet) (check : ℕ) : Type 0 where
  pub below : check < equations.checks
  pub fails : ¬ Meets equations packet check
  pub first : (earlier : ℕ) → earlier < check → Meets equations packet earlier
