-- The laws of the calls of a legal history, by name.
use Rattle.std.specs.Prelude.{◌≡◌, ℕ, List, length, Some}
use Rattle.std.specs.List.{All}
use Rattle.linear_spec.specs.declared.equations.Equations.{Equations}
use Rattle.linear_spec.specs.declared.record.Record.{Record}
use Rattle.linear_spec.specs.Packet.{Fits, coefficients_of}
use Rattle.linear_spec.specs.SequentialBasis.{packets_of}
use Rattle.linear_spec.specs.Span.{HasRank}
use Rattle.basis_core.specs.Calls.{KeptCall}
use Rattle.basis_core.specs.Run.{AreInnovative}
use Rattle.basis_core.specs.Merge.{Given}
use Rattle.basis_core.specs.Legal.{IsLegalHistory, HasItsRecord, IsSpanned}

-- what the calls of a legal history and its records say of each other
pub record CallLaws : Type 0 where
  -- what a call recorded is the record at its point, the caller's own
  pub recorded : (equations : Equations) (given : Given) (records : List Record) (number : ℕ) (calls : List KeptCall)
      → IsLegalHistory equations given records → given number ≡ Some calls → All (HasItsRecord records number) calls
  -- an offered packet that passes has coefficients in the span of the records', whatever its reply
  pub spans : (equations : Equations) (given : Given) (records : List Record) (number : ℕ) (calls : List KeptCall)
      → IsLegalHistory equations given records → given number ≡ Some calls → All (Fits equations.k equations.s) (packets_of records)
      → All (IsSpanned equations records) calls
  -- the rank of the coefficients of the records is their number
  pub rank : (equations : Equations) (records : List Record) → All (Fits equations.k equations.s) (packets_of records)
      → AreInnovative equations (packets_of records) → HasRank equations.k (coefficients_of (packets_of records)) (length records)
