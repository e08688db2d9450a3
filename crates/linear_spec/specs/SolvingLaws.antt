-- The laws of blocks that solve packets.
-- k: the number of blocks. s: the number of symbols of a block. place: that of a block, from 0.
use Rattle.std.specs.Prelude.{◌≡◌, ◌<◌, ℕ, List, [], length, replicate, slice_index, slice_index_or, slice_set}
use Rattle.std.specs.List.{All}
use Rattle.gf16.specs.Sums.{plus_scaled}
use Rattle.linear_spec.specs.declared.packet.Packet.{Packet}
use Rattle.linear_spec.specs.Symbols.{AreSymbols, IsVector}
use Rattle.linear_spec.specs.Combination.{combination_of}
use Rattle.linear_spec.specs.Packet.{Fits}
use Rattle.linear_spec.specs.Rows.{StandForAll}
use Rattle.linear_spec.specs.Solving.{IsOnlySolution, Solves}

-- the laws of solving, for all packets that fit and the rows that stand for them
pub record SolvingLaws : Type 0 where
  -- what solves the rows solves the packets
  pub rows : (k s : ℕ) (packets rows : List Packet) (blocks : List (List ℕ)) → All (Fits k s) packets → StandForAll k s packets rows
      → Solves k s rows blocks → Solves k s packets blocks
  -- k packets that rows stand for have at most one solution
  pub only : (k s : ℕ) (packets rows : List Packet) (blocks others : List (List ℕ)) → All (Fits k s) packets → StandForAll k s packets rows
      → length packets ≡ k → Solves k s packets blocks → Solves k s packets others → others ≡ blocks
  -- a row that is 1 at the place of a block not known yet, which counts as 0, tells that block
  pub known : (s place : ℕ) (coeffs payload : List ℕ) (blocks : List (List ℕ)) → AreSymbols coeffs → IsVector s payload → All (IsVector s) blocks
      → place < length blocks → slice_index_or blocks place [] ≡ replicate s 0 → slice_index coeffs place ≡ 1
      → combination_of s coeffs (slice_set blocks place (plus_scaled (combination_of s coeffs blocks) 1 payload)) ≡ payload
  -- a row that is 0 there stays as it is
  pub kept : (s place : ℕ) (coeffs block : List ℕ) (blocks : List (List ℕ))
      → place < length blocks → slice_index_or blocks place [] ≡ replicate s 0 → slice_index coeffs place ≡ 0
      → combination_of s coeffs (slice_set blocks place block) ≡ combination_of s coeffs blocks

-- packets that fit and have rows can be solved
pub record SolutionLaws : Type 0 where
  -- at least one list of blocks solves them
  pub some : (k s : ℕ) (packets rows : List Packet) → All (Fits k s) packets → StandForAll k s packets rows
      → (blocks : List (List ℕ)) × Solves k s packets blocks
  -- and just one where there are k packets
  pub one : (k s : ℕ) (packets rows : List Packet) → All (Fits k s) packets → StandForAll k s packets rows → length packets ≡ k
      → (blocks : List (List ℕ)) × Solves k s packets blocks × IsOnlySolution k s packets blocks
