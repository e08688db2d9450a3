-- What the tests keep of the one basis that they make, and of its passes.
use Rattle.std.specs.Prelude.{◌≡◌, ℕ, ◌<◌, List, length, slice_index_or}
use Rattle.shared_basis.specs.Bases.{BasisValue, PassValue}
use Rattle.shared_basis.specs.Passes.{IsPassOf}
use Rattle.receive_pass.specs.declared.worker.Worker.{Worker}
use Rattle.receive_pass.specs.Workers.{HavePasses}

-- the first basis was made with so many passes
abbrev pub IsForPasses : ℕ → List BasisValue → Type 0
IsForPasses passes bases = (basis : BasisValue) → (slice_index_or bases 0 basis).parameters.passes ≡ passes

-- the pass is of the first basis
abbrev pub IsOfFirst : List BasisValue → PassValue → Type 0
IsOfFirst bases pass = (basis : BasisValue) → IsPassOf (slice_index_or bases 0 basis) pass

-- the passes are of the first basis, and each stands at its number
pub record AreNumbered (bases : List BasisValue) (passes : List PassValue) : Type 0 where
  pub each : (at : ℕ) (other : PassValue) → at < length passes
      → IsOfFirst bases (slice_index_or passes at other) × ((slice_index_or passes at other).number ≡ at)

-- a worker's passes are of the bases, whatever room they have
abbrev pub HasPasses : List BasisValue → Worker → Type 0
HasPasses bases worker = HavePasses bases 0 worker.passes.items
