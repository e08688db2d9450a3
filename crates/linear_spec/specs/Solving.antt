-- Blocks that solve a list of packets.
-- k: the number of blocks, and of coefficients of a packet. s: the number of symbols of a block, and of a payload. true to
-- blocks: with a payload that is their combination with the packet's coefficients.
use Rattle.std.specs.Prelude.{◌≡◌, ℕ, List, length}
use Rattle.std.specs.List.{All}
use Rattle.linear_spec.specs.declared.packet.Packet.{Packet}
use Rattle.linear_spec.specs.Packet.{IsTrueTo}
use Rattle.linear_spec.specs.Symbols.{IsVector}

-- k blocks of s symbols, to which every packet is true
pub record Solves (k s : ℕ) (packets : List Packet) (blocks : List (List ℕ)) : Type 0 where
  pub count : length blocks ≡ k
  pub vectors : All (IsVector s) blocks
  pub true_to : All (IsTrueTo s blocks) packets

-- what solves the packets is these blocks
abbrev pub IsOnlySolution : ℕ → ℕ → List Packet → List (List ℕ) → Type 0
IsOnlySolution k s packets blocks = (others : List (List ℕ)) → Solves k s packets others → others ≡ blocks
