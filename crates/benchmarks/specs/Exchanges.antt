-- What passes tried and won. Each exchange gives its pass one record: its own where it is won, and else another caller's.
use Rattle.std.specs.Prelude.{◌≡◌, ℕ, List, length, map, slice_index_or}
use Rattle.std.specs.List.{sum_by}
use Rattle.linear_spec.specs.declared.equations.Equations.{Equations}
use Rattle.basis_core.specs.declared.trace.Call.{Call}
use Rattle.basis_core.specs.Calls.{call_of}
use Rattle.basis_core.specs.Entries.{count_of_answer}
use Rattle.shared_basis.specs.Bases.{PassValue}
use Rattle.receive_pass.specs.declared.worker.Worker.{Worker}

-- how many of the calls recorded their packet
abbrev pub wins_in : List Call → ℕ
wins_in calls = sum_by (λ call. count_of_answer call.answer) calls

-- how many of a pass's calls did
abbrev pub wins_of : PassValue → ℕ
wins_of pass = wins_in (map call_of pass.calls)

-- how many of the calls of all passes of these workers did
abbrev pub wins_of_all : List Worker → ℕ
wins_of_all workers = sum_by (λ worker. sum_by wins_of worker.passes.items) workers

-- how many records the passes of these workers have seen, all together
abbrev pub seen_by_all : List Worker → ℕ
seen_by_all workers = sum_by (λ worker. sum_by (λ pass. length pass.seen) worker.passes.items) workers

-- the worker has one pass, of a basis with these equations
pub record HasOnePass (equations : Equations) (worker : Worker) : Type 0 where
  pub count : length worker.passes.items ≡ 1
  pub equations_are : (own : PassValue) → (slice_index_or worker.passes.items 0 own).parameters.equations.value ≡ equations
