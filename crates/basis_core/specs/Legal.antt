-- Legal histories (docs/DEFINITIONS.md): when the calls of callers and a list of records can be what one sequential basis
-- answered and kept.
-- given: for each caller number, the calls of that caller, or nothing where they are not known. records: the records of the
-- basis, or the first of them.
use Rattle.std.specs.Prelude.{◌≡◌, ◌≢◌, ◌⊎◌, ℕ, ◌<◌, ◌≤◌, ◌^◌, ◌==◌, Bool, List, [], ◌∷◌, ◌++◌, length, map, take, Some, slice_index_or}
use Rattle.std.specs.List.{filter}
use Rattle.linear_spec.specs.declared.equations.Equations.{Equations}
use Rattle.linear_spec.specs.declared.packet.Packet.{Packet}
use Rattle.linear_spec.specs.declared.record.Record.{Record}
use Rattle.linear_spec.specs.Packet.{Fits, coefficients_of}
use Rattle.linear_spec.specs.Span.{InSpan}
use Rattle.linear_spec.specs.SequentialBasis.{packets_of}
use Rattle.linear_spec.specs.Passing.{Passes}
use Rattle.linear_spec.specs.Cases.{IsFresh}
use Rattle.std.specs.Option.{option_to_list}
use Rattle.basis_core.specs.Calls.{KeptCall, KeptOffer, KeptDraw, point_of, recorded_by, seen_after, AreInOrder, IsAnsweredAt}
use Rattle.basis_core.specs.Run.{AreAnsweredFrom, records_after}
use Rattle.basis_core.specs.Merge.{Given, caller_numbers, all_calls, merge_of}

abbrev pub callers_of : List Record → List ℕ
callers_of records = map (λ record'. record'.caller) records

-- whether the record is of this caller
abbrev pub is_of : ℕ → Record → Bool
is_of number record' = record'.caller == number

-- the calls of the given callers, and of every other caller just the offers of its records, are a legal history over the
-- records: each caller's calls are in order; the merge of all calls is a run of the sequential basis; and the run ends with
-- these records. So no record is two callers' or two calls'. Where nobody is given it says that each record's packet passes
-- and is fresh at those before it
pub record IsLegalHistory (equations : Equations) (given : Given) (records : List Record) : Type 0 where
  -- given callers have numbers of 32 bits, so that the merge has their calls
  pub numbers : (number : ℕ) (calls : List KeptCall) → given number ≡ Some calls → number < caller_numbers
  -- no call of a given caller stands before what that caller had seen
  pub in_order : (number : ℕ) (calls : List KeptCall) → given number ≡ Some calls → AreInOrder calls
  -- each call of the merge was answered as the sequential basis does, from the empty basis on
  pub answered : AreAnsweredFrom equations (merge_of (all_calls given records)) []
  -- the run ends with the packets of the records, one by one
  pub packets : packets_of (records_after (merge_of (all_calls given records)) []) ≡ packets_of records
  -- and with their callers
  pub callers : callers_of (records_after (merge_of (all_calls given records)) []) ≡ callers_of records
  -- and a given caller's records are the same there, with the numbers of their calls
  pub given_calls : (number : ℕ) (calls : List KeptCall) → given number ≡ Some calls
      → filter (is_of number) (records_after (merge_of (all_calls given records)) []) ≡ filter (is_of number) records

-- of the callers that were given, the one of this number, with these calls, gains this call as its last; the others stay
pub record Gains (before after : Given) (number : ℕ) (calls : List KeptCall) (call : KeptCall) : Type 0 where
  pub had : before number ≡ Some calls
  pub now : after number ≡ Some (calls ++ call ∷ [])
  pub others : (other : ℕ) → other ≢ number → after other ≡ before other

-- the answer of a call is the sequential one over these records: at its point, which they reach
pub record IsAnsweredOver (equations : Equations) (records : List Record) (call : KeptCall) : Type 0 where
  pub within : point_of call ≤ length records
  pub answered : IsAnsweredAt equations (take (point_of call) (packets_of records)) call

-- the packet passes and is fresh at these records, and the caller's number has 32 bits: so the basis records it next
pub record IsNext (equations : Equations) (records : List Record) (record' : Record) : Type 0 where
  pub passes : Passes equations record'.packet
  pub fresh : IsFresh equations.k (packets_of records) record'.packet
  pub number : record'.caller < 2 ^ 32

-- none of the calls has seen more than so many records
abbrev pub HaveSeenAtMost : ℕ → List KeptCall → Type 0
HaveSeenAtMost n [] = Unit {0}
HaveSeenAtMost n (call ∷ calls) = (seen_after call ≤ n) × HaveSeenAtMost n calls

-- the record that a caller's call of this number adds, if it recorded
abbrev pub record_by : ℕ → ℕ → KeptCall → List Record
record_by caller number call = map (λ packet. record { caller = caller; call = number; packet = packet }) (option_to_list (recorded_by call))

-- one of the calls recorded this packet
abbrev pub IsRecordedIn : List KeptCall → Packet → Type 0
IsRecordedIn [] packet = ⊥
IsRecordedIn (call ∷ calls) packet = (recorded_by call ≡ Some packet) ⊎ IsRecordedIn calls packet

-- the record at this place of the records is a caller's, and has this packet
pub record IsRecordAt (records : List Record) (place caller : ℕ) (packet : Packet) : Type 0 where
  pub within : place < length records
  pub caller_is : (record' : Record) → (slice_index_or records place record').caller ≡ caller
  pub packet_is : (record' : Record) → (slice_index_or records place record').packet ≡ packet

-- the call of this number is an offer that recorded this packet at this place
pub record IsCalledAt (calls : List KeptCall) (number at : ℕ) (packet : Packet) : Type 0 where
  pub within : number < length calls
  pub recorded : (call : KeptCall) → recorded_by (slice_index_or calls number call) ≡ Some packet
  pub point : (call : KeptCall) → point_of (slice_index_or calls number call) ≡ at

-- what a call of this caller recorded, if it did, is the record at the call's point
abbrev pub HasItsRecord : List Record → ℕ → KeptCall → Type 0
HasItsRecord records caller call = (packet : Packet) → recorded_by call ≡ Some packet
    → IsRecordAt records (point_of call) caller packet

-- of an offer, where the packet passes and fits: some combination of the records' packets has its coefficients
abbrev pub IsSpanned : Equations → List Record → KeptCall → Type 0
IsSpanned equations records (KeptOffer tag packet reply) = Passes equations packet → Fits equations.k equations.s packet
    → InSpan equations.k (coefficients_of (packets_of records)) packet.coeffs
IsSpanned equations records (KeptDraw tag drawn) = Unit {0}
