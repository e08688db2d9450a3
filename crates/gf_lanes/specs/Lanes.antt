-- The widths that the kernels are made for.
use Rattle.std.specs.Prelude.{◌≡◌, ◌⊎◌, ℕ}

-- a vector has 8, 16 or 32 lanes
abbrev pub IsLaneCount : ℕ → Type 0
IsLaneCount lanes = (lanes ≡ 8) ⊎ (lanes ≡ 16) ⊎ (lanes ≡ 32)
