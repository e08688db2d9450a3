-- Packets, and one basis of generation 0 with the workers that offer to it.
use Rattle.std.specs.Prelude.{◌≡◌, ℕ, ◌<◌, ◌≤◌, List, length, slice_index_or}
use Rattle.linear_spec.specs.declared.equations.Equations.{Equations}
use Rattle.linear_spec.specs.declared.packet.Packet.{Packet}
use Rattle.linear_spec.specs.Packet.{Fits}
use Rattle.shared_basis.specs.Bases.{BasisValue, PassValue}
use Rattle.shared_basis.specs.Passes.{IsPassOf}
use Rattle.receive_pass.specs.declared.worker.Worker.{Worker}

-- a packet of k coefficients and s payload symbols, of generation 0
pub record IsOffered (k s : ℕ) (packet : Packet) : Type 0 where
  pub fits : Fits k s packet
  pub generation : packet.generation ≡ 0

-- there is one basis, of generation 0, with these equations
pub record IsOnlyBasis (equations : Equations) (bases : List BasisValue) : Type 0 where
  pub count : length bases ≡ 1
  pub generation : (other : BasisValue) → (slice_index_or bases 0 other).parameters.generation ≡ 0
  pub equations_are : (other : BasisValue) → (slice_index_or bases 0 other).parameters.equations.value ≡ equations

-- a pass of the first basis, with room for so many calls
pub record IsRoomyPassOf (bases : List BasisValue) (room : ℕ) (pass : PassValue) : Type 0 where
  pub is_of : (basis : BasisValue) → IsPassOf (slice_index_or bases 0 basis) pass
  pub room_is : room ≤ pass.spare

-- the first worker has a pass of the first basis
pub record HasFirstPass (bases : List BasisValue) (workers : List Worker) : Type 0 where
  pub some_bases : 0 < length bases
  pub some_workers : 0 < length workers
  pub some_passes : (worker : Worker) → 0 < length (slice_index_or workers 0 worker).passes.items
  pub pass : (basis : BasisValue) (worker : Worker) (own : PassValue)
      → IsPassOf (slice_index_or bases 0 basis) (slice_index_or (slice_index_or workers 0 worker).passes.items 0 own)
