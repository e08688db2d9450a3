-- Counters of faults and of wants.
use Rattle.std.specs.Prelude.{◌≡◌, ℕ, ◌+◌, ◌-◌, ◌^◌, ◌≤◌, min}

-- the count is greater than it was, or at the end of what a counter of 64 bits can count to
abbrev pub Rose : ℕ → ℕ → Type 0
Rose before now = min (before + 1) (2 ^ 64 - 1) ≤ now

-- what a counter of 64 bits shows after one more
abbrev pub one_more : ℕ → ℕ
one_more count = min (count + 1) (2 ^ 64 - 1)

-- the count goes up by one exactly where this holds, and is as before otherwise; at the end of 64 bits it stands still
abbrev pub CountsWhere : Type 0 → ℕ → ℕ → Type 0
CountsWhere fact before now = (fact → now ≡ one_more before) × (¬ fact → now ≡ before)
