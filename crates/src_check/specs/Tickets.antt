-- The sums of a file's ticket (docs/FORMATS.md), and the equations of a ticket.
-- d: the dimensions of the file's shape. g: a generation, from 0. key, check: see Weights. checks: the number of checks.
use Rattle.std.specs.Prelude.{ℕ, ◌≡◌, List, map}
use Rattle.std.specs.List.{flat_map, range_with_len}
use Rattle.linear_spec.specs.declared.equations.Equations.{Equations}
use Rattle.linear_spec.specs.declared.packet.Packet.{Packet}
use Rattle.linear_spec.specs.Packet.{IsTrueTo}
use Rattle.generation.specs.declared.ticket.Ticket.{Ticket}
use Rattle.generation.specs.Shape.{Dimensions, generations_of, symbols_per_block}
use Rattle.generation.specs.Blocks.{block_of}
use Rattle.src_check.specs.Weights.{weighted_sum_of, weights_of_checks}

-- the blocks of a generation of the file, in order
unfoldable pub generation_blocks_of : Dimensions → List ℕ → ℕ → List (List ℕ)
generation_blocks_of d file g = map (block_of d file g) (range_with_len 0 d.k)

-- the packet is true to the file's blocks of its generation
abbrev pub IsTrueToFile : Dimensions → List ℕ → Packet → Type 0
IsTrueToFile d file packet = IsTrueTo (symbols_per_block d) (generation_blocks_of d file packet.generation) packet

-- the weighted sums of a check over the blocks of a generation
abbrev pub check_sums_of : Dimensions → List ℕ → List ℕ → ℕ → ℕ → List ℕ
check_sums_of d file key g check = map (weighted_sum_of key (symbols_per_block d) check) (generation_blocks_of d file g)

-- the sums of a generation, check after check
unfoldable pub generation_sums_of : Dimensions → List ℕ → List ℕ → ℕ → ℕ → List ℕ
generation_sums_of d file key checks g = flat_map (check_sums_of d file key g) (range_with_len 0 checks)

-- the sums of the file, generation after generation
unfoldable pub file_sums_of : Dimensions → List ℕ → List ℕ → ℕ → List ℕ
file_sums_of d file key checks = flat_map (generation_sums_of d file key checks) (range_with_len 0 (generations_of d))

-- the ticket has the sums of the file by its own key and number of checks
abbrev pub IsTicketOf : Dimensions → List ℕ → Ticket → Type 0
IsTicketOf d file ticket = ticket.sums ≡ file_sums_of d file ticket.key ticket.checks

-- the equations of a ticket: the weights of its key, and its sums
pub record AreEquationsOf (d : Dimensions) (ticket : Ticket) (equations : Equations) : Type 0 where
  pub checks : equations.checks ≡ ticket.checks
  pub k : equations.k ≡ d.k
  pub s : equations.s ≡ symbols_per_block d
  pub generations : equations.generations ≡ generations_of d
  pub weights : equations.weights ≡ weights_of_checks ticket.key (symbols_per_block d) ticket.checks
  pub sums : equations.sums ≡ ticket.sums
