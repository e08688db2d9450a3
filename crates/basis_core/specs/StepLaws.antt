-- The laws of calls that are answered one at a time, by name.
use Rattle.std.specs.Prelude.{ℕ, List, ◌∷◌, ◌++◌, [], length}
use Rattle.linear_spec.specs.declared.equations.Equations.{Equations}
use Rattle.linear_spec.specs.declared.record.Record.{Record}
use Rattle.linear_spec.specs.SequentialBasis.{packets_of}
use Rattle.basis_core.specs.Calls.{KeptCall, IsAnsweredAt}
use Rattle.basis_core.specs.Merge.{Given}
use Rattle.basis_core.specs.Legal.{IsLegalHistory, Gains, HaveSeenAtMost, record_by}

-- calls that are answered one at a time
pub record StepLaws : Type 0 where
  -- a given caller's call that is answered over all the records there are keeps the history legal, with the record that it
  -- adds
  pub step : (equations : Equations) (before after : Given) (records : List Record) (number : ℕ) (calls : List KeptCall) (call : KeptCall)
      → IsLegalHistory equations before records → Gains before after number calls call → HaveSeenAtMost (length records) calls
      → IsAnsweredAt equations (packets_of records) call
      → IsLegalHistory equations after (records ++ record_by number (length calls) call)
  -- no caller has then seen more records than there are
  pub seen : (equations : Equations) (records : List Record) (number count : ℕ) (calls : List KeptCall) (call : KeptCall)
      → HaveSeenAtMost (length records) calls → IsAnsweredAt equations (packets_of records) call
      → HaveSeenAtMost (length (records ++ record_by number count call)) (calls ++ call ∷ [])
  -- and callers that make no call have not either
  pub others : (records more : List Record) (calls : List KeptCall) → HaveSeenAtMost (length records) calls
      → HaveSeenAtMost (length (records ++ more)) calls
