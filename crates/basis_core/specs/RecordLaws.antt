-- The laws of the records and of the given callers of a legal history, by name.
use Rattle.std.specs.Prelude.{◌≡◌, ◌<◌, ◌≤◌, ◌^◌, ℕ, List, [], length, map, Some, slice_index_or}
use Rattle.std.specs.List.{All, filter}
use Rattle.linear_spec.specs.declared.equations.Equations.{Equations}
use Rattle.linear_spec.specs.declared.record.Record.{Record}
use Rattle.linear_spec.specs.Packet.{Fits}
use Rattle.linear_spec.specs.SequentialBasis.{packets_of}
use Rattle.basis_core.specs.Calls.{KeptCall}
use Rattle.basis_core.specs.Run.{AreInnovative, is_by}
use Rattle.basis_core.specs.Merge.{Given, given_by, made_by, all_calls, merge_of}
use Rattle.basis_core.specs.Legal.{IsLegalHistory, IsAnsweredOver, IsRecordedIn, IsCalledAt}

-- the records of a legal history
pub record RecordLaws : Type 0 where
  -- each packet passes and is fresh at those before it
  pub innovative : (equations : Equations) (given : Given) (records : List Record) → IsLegalHistory equations given records
      → AreInnovative equations (packets_of records)
  -- their callers' numbers have 32 bits
  pub callers : (equations : Equations) (given : Given) (records : List Record) → IsLegalHistory equations given records
      → All (λ record'. record'.caller < 2 ^ 32) records
  -- any records of which this holds are a legal history by themselves, nobody's calls being given
  pub nobody : (equations : Equations) (records : List Record) → AreInnovative equations (packets_of records)
      → All (λ record'. record'.caller < 2 ^ 32) records → IsLegalHistory equations (given_by []) records
  -- and there are at most K of them
  pub at_most : (equations : Equations) (records : List Record) → All (Fits equations.k equations.s) (packets_of records)
      → AreInnovative equations (packets_of records) → length records ≤ equations.k

-- the given callers of a legal history
pub record CallerLaws : Type 0 where
  -- each call was answered as the sequential basis does over the records, at its point, which is at most their number
  pub answered : (equations : Equations) (given : Given) (records : List Record) (number : ℕ) (calls : List KeptCall)
      → IsLegalHistory equations given records → given number ≡ Some calls → All (IsAnsweredOver equations records) calls
  -- the merge has the caller's calls once each, in the caller's own order
  pub once : (equations : Equations) (given : Given) (records : List Record) (number : ℕ) (calls : List KeptCall)
      → IsLegalHistory equations given records → given number ≡ Some calls
      → filter (is_by number) (merge_of (all_calls given records)) ≡ map (made_by number) calls
  -- the caller's records have packets that its calls recorded
  pub recorded : (equations : Equations) (given : Given) (records : List Record) (number : ℕ) (calls : List KeptCall)
      → IsLegalHistory equations given records → given number ≡ Some calls
      → All (λ record'. record'.caller ≡ number → IsRecordedIn calls record'.packet) records
  -- and each of them is the caller's call of the record's number, which recorded the packet at the record's place
  pub called : (equations : Equations) (given : Given) (records : List Record) (number : ℕ) (calls : List KeptCall)
      → IsLegalHistory equations given records → given number ≡ Some calls → (at : ℕ) (record' : Record) → at < length records
      → (slice_index_or records at record').caller ≡ number
      → IsCalledAt calls (slice_index_or records at record').call at (slice_index_or records at record').packet
