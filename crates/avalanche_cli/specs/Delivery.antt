-- How writing a file or a stream ended: for the private functions that write.
-- before, now: what a sink holds, where it tells that. Unwritten, Unheld: that the counts of its faults and of its wants rose.
use Rattle.std.specs.Prelude.{◌≡◌, ℕ, ◌<◌, ◌≤◌, true, false, List, Option, length, take}
use Rattle.std.specs.Io.KnownBytes.{Appends, Keeps}
use Rattle.swarm_io.specs.Moved.{AppendsPrefix}
use Rattle.avalanche_cli.specs.EmptyTrace.{IsEmptyTrace}
use Rattle.avalanche_cli.specs.declared.delivery.Delivery.{Delivery}
use Rattle.avalanche_cli.specs.declared.delivery.Delivery.TheVariants.{Whole, Fault, Memory}
use Rattle.avalanche_cli.specs.declared.end.End.TheVariants as end
use Rattle.avalanche_cli.specs.declared.outcome.Outcome.{Outcome}
use Rattle.avalanche_cli.specs.declared.trace.Trace.{Trace}

-- told bytes grow by a prefix of these that is not empty
abbrev pub AppendsSome : Option (List ℕ) → Option (List ℕ) → List ℕ → Type 0
AppendsSome old new bytes = (n : ℕ) × ((0 < n) × ((n ≤ length bytes) × Appends old new (take n bytes)))

abbrev pub IsDelivered : List ℕ → Option (List ℕ) → Option (List ℕ) → Type 0 → Type 0 → Delivery → Type 0
IsDelivered file before now Unwritten Unheld Whole = Appends before now file
IsDelivered file before now Unwritten Unheld Fault = AppendsPrefix before now file × Unwritten
IsDelivered file before now Unwritten Unheld (Memory false) = Keeps before now × Unheld
IsDelivered file before now Unwritten Unheld (Memory true) = AppendsSome before now file × Unheld

-- the same of the rest of a file of which some was taken
abbrev pub IsRestDelivered : List ℕ → Option (List ℕ) → Option (List ℕ) → Type 0 → Type 0 → Delivery → Type 0
IsRestDelivered rest before now Unwritten Unheld Whole = Appends before now rest
IsRestDelivered rest before now Unwritten Unheld Fault = AppendsPrefix before now rest × Unwritten
IsRestDelivered rest before now Unwritten Unheld (Memory false) = ⊥
IsRestDelivered rest before now Unwritten Unheld (Memory true) = AppendsPrefix before now rest × Unheld

-- the outcome after a write: it has the trace, unless memory was wanted and the output took nothing
abbrev pub IsAfterDelivery : Trace → Outcome → Delivery → Type 0
IsAfterDelivery trace outcome Whole = (outcome.end ≡ end.Done) × (outcome.trace ≡ trace)
IsAfterDelivery trace outcome Fault = (outcome.end ≡ end.WriteFault) × (outcome.trace ≡ trace)
IsAfterDelivery trace outcome (Memory false) = (outcome.end ≡ end.Memory) × IsEmptyTrace outcome.trace
IsAfterDelivery trace outcome (Memory true) = (outcome.end ≡ end.Memory) × (outcome.trace ≡ trace)
