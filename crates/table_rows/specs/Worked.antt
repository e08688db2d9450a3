-- Words of the worked records in tests: packets of two coefficients and one symbol, and no checks.
use Rattle.std.specs.Prelude.{◌≡◌, ℕ, ◌+◌, List, map, length, slice_set, Some}
use Rattle.table_rows.specs.declared.view.Parameters.{Parameters}
use Rattle.table_rows.specs.declared.view.CallerView.{CallerView}

-- packets of two coefficients and one symbol, for two callers, with no checks
pub record IsSmall (p : Parameters) : Type 0 where
  pub two : p.k ≡ 2
  pub one : p.s ≡ 1
  pub callers : p.passes ≡ 2
  pub unchecked : p.equations.value.checks ≡ 0

-- a view with all words of region n read
abbrev pub with_row : CallerView → ℕ → List ℕ → CallerView
with_row v n words = record v {
  sight = record v.sight { front = record v.sight.front { read = slice_set v.sight.front.read n (map Some words) } };
  reads = v.reads + length words;
}
