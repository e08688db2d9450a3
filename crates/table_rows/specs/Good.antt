-- What holds of the records in regions, one after another.
-- regions: the words of each region, in the directory's order.
use Rattle.std.specs.Prelude.{◌≡◌, ℕ, ◌+◌, ◌<◌, ◌==◌, List, [], ◌∷◌, map, take, length, slice_index_or, cond}
use Rattle.linear_spec.specs.declared.packet.Packet.{Packet}
use Rattle.linear_spec.specs.Packet.{Fits}
use Rattle.linear_spec.specs.Passing.{Passes}
use Rattle.linear_spec.specs.Cases.{IsFresh}
use Rattle.linear_spec.specs.Rows.{StandsFor, pivot_of}
use Rattle.table_rows.specs.declared.view.Parameters.{Parameters}
use Rattle.table_rows.specs.Layout.{packet_in, row_in, pivot_in, caller_in, call_in}

-- the packet and the row in a region
abbrev pub packet_at : Parameters → List ℕ → Packet
packet_at p region = packet_in p.generation p.k p.s region

abbrev pub row_at : Parameters → List ℕ → Packet
row_at p region = row_in p.generation p.k p.s region

-- a region has a record that may come after those of other regions: its packet passes and is fresh after their packets, its
-- row stands for it after them, and its pivot is the row's
pub record HasRecord (p : Parameters) (before : List (List ℕ)) (region : List ℕ) : Type 0 where
  pub fits : Fits p.k p.s (packet_at p region)
  pub passes : Passes p.equations.value (packet_at p region)
  pub fresh : IsFresh p.k (map (packet_at p) before) (packet_at p region)
  pub stands : StandsFor p.k p.s (map (packet_at p) before) (map (row_at p) before) (packet_at p region) (row_at p region)
  pub pivot : pivot_in region ≡ pivot_of (row_at p region)

-- the same, as steps see it that do not look into records
unfoldable pub IsNextRegion : Parameters → List (List ℕ) → List ℕ → Type 0
IsNextRegion p before region = HasRecord p before region

-- each region has a record that may come after those before it
abbrev pub IsGood : Parameters → List (List ℕ) → Type 0
IsGood p regions = (n : ℕ) → n < length regions → IsNextRegion p (take n regions) (slice_index_or regions n [])

-- position and call of each record of a caller, in regions of which the first has this position
abbrev pub offers_from : ℕ → ℕ → List (List ℕ) → List (ℕ × ℕ)
offers_from number n [] = []
offers_from number n (region ∷ regions) =
    cond (caller_in region == number) ((n, call_in region) ∷ offers_from number (n + 1) regions) (offers_from number (n + 1) regions)

abbrev pub offers_of : ℕ → List (List ℕ) → List (ℕ × ℕ)
offers_of number regions = offers_from number 0 regions
