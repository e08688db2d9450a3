-- The laws of how legal histories grow and join, by name.
use Rattle.std.specs.Prelude.{◌≡◌, ◌<◌, ◌^◌, ℕ, List, [], ◌∷◌, ◌++◌, length, Some, None}
use Rattle.std.specs.List.{All}
use Rattle.linear_spec.specs.declared.equations.Equations.{Equations}
use Rattle.linear_spec.specs.declared.record.Record.{Record}
use Rattle.linear_spec.specs.declared.reply.Reply.TheVariants.{Innovative}
use Rattle.linear_spec.specs.SequentialBasis.{packets_of}
use Rattle.basis_core.specs.Calls.{KeptCall, KeptOffer, recorded_by, AreInOrder}
use Rattle.basis_core.specs.Run.{AreInnovative}
use Rattle.basis_core.specs.Merge.{Given, only}
use Rattle.basis_core.specs.Legal.{IsLegalHistory, Gains, IsAnsweredOver, IsNext}

-- how a legal history grows, and how the histories of callers that know nothing of each other become one
pub record HistoryLaws : Type 0 where
  -- a caller with no calls, over no records
  pub none : (equations : Equations) (number : ℕ) → number < 2 ^ 32 → IsLegalHistory equations (only number []) []
  -- a given caller gains a call that recorded nothing
  pub quiet : (equations : Equations) (before after : Given) (records : List Record) (number : ℕ) (calls : List KeptCall) (call : KeptCall)
      → IsLegalHistory equations before records → Gains before after number calls call → recorded_by call ≡ None
      → AreInOrder (calls ++ call ∷ []) → IsAnsweredOver equations records call → IsLegalHistory equations after records
  -- the records gain one of a caller that is not given
  pub other_record : (equations : Equations) (given : Given) (records : List Record) (record' : Record)
      → IsLegalHistory equations given records → IsNext equations records record' → given record'.caller ≡ None
      → IsLegalHistory equations given (records ++ record' ∷ [])
  -- they gain one of a caller that is given, which gains the offer
  pub own_record : (equations : Equations) (before after : Given) (records : List Record) (record' : Record) (tag : ℕ) (calls : List KeptCall)
      → IsLegalHistory equations before records → IsNext equations records record'
      → Gains before after record'.caller calls (KeptOffer tag record'.packet (Innovative (length records))) → length calls ≡ record'.call
      → AreInOrder (calls ++ KeptOffer tag record'.packet (Innovative (length records)) ∷ [])
      → IsLegalHistory equations after (records ++ record' ∷ [])
  -- callers each of whom, as the only one given, forms a legal history over the records, form one together; at least one
  -- is given
  pub together : (equations : Equations) (given : Given) (records : List Record) (number : ℕ) (calls : List KeptCall) → given number ≡ Some calls
      → ((other : ℕ) (its : List KeptCall) → given other ≡ Some its → IsLegalHistory equations (only other its) records)
      → IsLegalHistory equations given records
  -- each caller of a legal history forms one by itself
  pub apart : (equations : Equations) (given : Given) (records : List Record) (number : ℕ) (calls : List KeptCall) → given number ≡ Some calls
      → IsLegalHistory equations given records → IsLegalHistory equations (only number calls) records
  -- the records gain several, of callers that are not given
  pub other_records : (equations : Equations) (given : Given) (records more : List Record)
      → IsLegalHistory equations given records → AreInnovative equations (packets_of (records ++ more))
      → All (λ record'. (given record'.caller ≡ None) × (record'.caller < 2 ^ 32)) more → IsLegalHistory equations given (records ++ more)
