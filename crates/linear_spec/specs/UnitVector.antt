-- The unit vectors of the columns.
use Rattle.std.specs.Prelude.{ℕ, List, replicate, slice_set}

-- k symbols, 1 at this column and 0 elsewhere
abbrev pub unit_of : ℕ → ℕ → List ℕ
unit_of k column = slice_set (replicate k 0) column 1
