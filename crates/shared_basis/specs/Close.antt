-- What closing a shared basis gives.
use Rattle.std.specs.Prelude.{◌≡◌, ℕ, ◌<◌, List, length, map, take, slice_index_or}
use Rattle.std.specs.List.{All}
use Rattle.linear_spec.specs.declared.packet.Packet.{Packet}
use Rattle.linear_spec.specs.declared.record.Record.{Record}
use Rattle.linear_spec.specs.SequentialBasis.{packets_of}
use Rattle.linear_spec.specs.Packet.{Fits}
use Rattle.linear_spec.specs.Rows.{StandForAll}
use Rattle.basis_core.specs.declared.trace.CallerTrace.{CallerTrace}
use Rattle.basis_core.specs.Calls.{call_of}
use Rattle.basis_core.specs.Legal.{IsLegalHistory}
use Rattle.basis_core.specs.Merge.{given_by}
use Rattle.table_rows.specs.declared.view.Parameters.{Parameters}
use Rattle.table_rows.specs.declared.view.FounderView.{FounderView}
use Rattle.table_rows.specs.Closing.{IsClosed}
use Rattle.table_rows.specs.Layout.{records_of_words, rows_of_words}
use Rattle.shared_basis.specs.declared.params.Closed.{Closed}
use Rattle.shared_basis.specs.Bases.{BasisValue, PassValue}
use Rattle.shared_basis.specs.Passes.{IsPassOf, calls_of}

-- these are all passes of the basis, in the order of their numbers
pub record AreAllPasses (basis : BasisValue) (passes : List PassValue) : Type 0 where
  pub count : length passes ≡ basis.parameters.passes
  pub each : (number : ℕ) (other : PassValue) → number < length passes
      → IsPassOf basis (slice_index_or passes number other) × ((slice_index_or passes number other).number ≡ number)

-- there are words that meet the rule of the table, and these are the records and rows that they hold
pub record AreOfWords (p : Parameters) (records : List Record) (rows : List Packet) : Type 0 where
  pub words : List ℕ
  pub founder : FounderView
  pub closed : IsClosed p founder words
  pub records_are : records ≡ records_of_words p.generation p.k p.s words
  pub rows_are : rows ≡ rows_of_words p.generation p.k p.s words

-- the callers of a trace are these passes: their numbers and calls, in order
abbrev pub caller_of_pass : CallerTrace → PassValue → Type 0
caller_of_pass caller pass = (caller.number ≡ pass.number) × (caller.calls.items ≡ map call_of pass.calls)

-- the basis at the end: records and rows of the words; what each pass had seen is their first part; the callers are the passes,
-- and every record is one of theirs; and the calls of all passes together are a legal history over the records
pub record IsCloseOf (basis : BasisValue) (passes : List PassValue) (closed : Closed) : Type 0 where
  pub words : AreOfWords basis.parameters closed.records.items closed.rows.items
  pub fit : All (Fits basis.parameters.k basis.parameters.s) (packets_of closed.records.items)
  pub stand : StandForAll basis.parameters.k basis.parameters.s (packets_of closed.records.items) closed.rows.items
  pub seen : (number : ℕ) (other : PassValue) → number < length passes
      → (slice_index_or passes number other).seen ≡ take (length (slice_index_or passes number other).seen) closed.records.items
  pub count : length closed.callers.items ≡ length passes
  pub callers : (number : ℕ) (caller : CallerTrace) (other : PassValue) → number < length passes
      → caller_of_pass (slice_index_or closed.callers.items number caller) (slice_index_or passes number other)
  pub listed : All (λ entry. entry.caller < length passes) closed.records.items
  pub legal : IsLegalHistory basis.parameters.equations.value (given_by (map calls_of passes)) closed.records.items
