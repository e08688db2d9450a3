-- How the steps of `fetch` end: for its private functions.
-- before, now: what a sink holds, where it tells that. Same: that the output is as it was. Unread, Unwritten, Unheld: that
-- the counts of the input's faults, of the output's faults and of the output's wants rose. Sound: that the bytes which were
-- read have no fault but that they end too early.
use Rattle.std.specs.Prelude.{◌≡◌, ◌⊎◌, ℕ, List, Option, IfSome, Result, Ok, Err}
use Rattle.std.specs.Io.KnownBytes.{Keeps}
use Rattle.linear_spec.specs.List.{ListValue}
use Rattle.packet_wire.specs.Stream.{Contents}
use Rattle.avalanche_cli.specs.Delivery.{IsAfterDelivery, IsDelivered}
use Rattle.avalanche_cli.specs.Fetch.{Gives, GivesPrefix, GivesSome, HasOtherDigest, Holds, IsTooLong, IsUnfetchable, LacksRank, stream_limit}
use Rattle.avalanche_cli.specs.Reception.{IsJudged}
use Rattle.avalanche_cli.specs.EmptyTrace.{IsEmptyTrace}
use Rattle.avalanche_cli.specs.Trace.{IsLegalFetch}
use Rattle.avalanche_cli.specs.declared.delivery.Delivery.{Delivery}
use Rattle.avalanche_cli.specs.declared.reading.NoStream.{NoStream}
use Rattle.avalanche_cli.specs.declared.reading.NoStream.TheVariants as no_stream
use Rattle.avalanche_cli.specs.declared.reception.NoFile.{NoFile}
use Rattle.avalanche_cli.specs.declared.reception.NoFile.TheVariants as no_file
use Rattle.avalanche_cli.specs.declared.outcome.Outcome.{Outcome}
use Rattle.avalanche_cli.specs.declared.trace.Trace.{Trace}
use Rattle.avalanche_cli.specs.declared.end.End.{End}
use Rattle.avalanche_cli.specs.declared.end.End.TheVariants.{Done, Usage, ReadFault, WriteFault, TooLarge, BadStream, Incomplete, Mismatch, Memory}

-- ---- reading

-- why an input gave no stream
abbrev pub IsUnread : Option (List ℕ) → Type 0 → Type 0 → NoStream → Type 0
IsUnread input Unread Sound no_stream.ReadFault = Unread × Sound
IsUnread input Unread Sound no_stream.TooLarge = IfSome input IsTooLong
IsUnread input Unread Sound (no_stream.BadStream fault) = IfSome input (λ bytes. IsUnfetchable bytes fault)
IsUnread input Unread Sound no_stream.Memory = Unit {0}

-- the end of a run whose input gave no stream
abbrev pub end_of_reading : NoStream → End
end_of_reading no_stream.ReadFault = ReadFault
end_of_reading no_stream.TooLarge = TooLarge stream_limit
end_of_reading (no_stream.BadStream fault) = BadStream fault
end_of_reading no_stream.Memory = Memory

-- ---- receiving

-- the input is a stream, its packets were received, and this is told of them
pub record IsReceptionOf (receivers : ℕ) (input : Option (List ℕ)) (trace : Trace) (file : Result (ListValue ℕ) NoFile) : Type 0 where
  pub contents : Contents
  pub holds : Holds input contents
  pub legal : IsLegalFetch receivers contents trace
  pub judged : IsJudged contents trace file

-- ---- writing

-- the outcome where there was no file to write
abbrev pub IsAfterNoFile : Trace → Outcome → NoFile → Type 0
IsAfterNoFile trace outcome (no_file.Incomplete generation rank) = (outcome.end ≡ Incomplete generation rank) × (outcome.trace ≡ trace)
IsAfterNoFile trace outcome (no_file.Mismatch found) = (outcome.end ≡ Mismatch found) × (outcome.trace ≡ trace)
IsAfterNoFile trace outcome no_file.Memory = (outcome.end ≡ Memory) × IsEmptyTrace outcome.trace

-- the outcome once packets were received
abbrev pub IsFinished : Trace → Option (List ℕ) → Option (List ℕ) → Type 0 → Type 0 → Type 0 → Outcome → Result (ListValue ℕ) NoFile → Type 0
IsFinished trace before now Same Unwritten Unheld outcome (Ok file) =
    (ending : Delivery) × (IsDelivered file.items before now Unwritten Unheld ending × IsAfterDelivery trace outcome ending)
IsFinished trace before now Same Unwritten Unheld outcome (Err reason) = Same × IsAfterNoFile trace outcome reason

-- ---- the whole

-- how a fetch ends
abbrev pub IsEnd : ℕ → Option (List ℕ) → Trace → Option (List ℕ) → Option (List ℕ) → Type 0 → Type 0 → Type 0 → Type 0 → Type 0 → End → Type 0
IsEnd receivers input trace before now Same Unread Sound Unwritten Unheld Done = Gives receivers input trace before now
IsEnd receivers input trace before now Same Unread Sound Unwritten Unheld (Usage class) = ⊥
IsEnd receivers input trace before now Same Unread Sound Unwritten Unheld ReadFault = Same × (Unread × Sound)
IsEnd receivers input trace before now Same Unread Sound Unwritten Unheld WriteFault = GivesPrefix receivers input trace before now × Unwritten
IsEnd receivers input trace before now Same Unread Sound Unwritten Unheld (TooLarge limit) = Same × ((limit ≡ stream_limit) × IfSome input IsTooLong)
IsEnd receivers input trace before now Same Unread Sound Unwritten Unheld (BadStream fault) = Same × IfSome input (λ bytes. IsUnfetchable bytes fault)
IsEnd receivers input trace before now Same Unread Sound Unwritten Unheld (Incomplete generation rank) = Same × LacksRank input generation rank
IsEnd receivers input trace before now Same Unread Sound Unwritten Unheld (Mismatch found) = Same × HasOtherDigest receivers input trace found
IsEnd receivers input trace before now Same Unread Sound Unwritten Unheld Memory =
    (IsEmptyTrace trace × (Same ⊎ (Keeps before now × Unheld))) ⊎ (GivesSome receivers input trace before now × Unheld)
