-- What an input asks of the end of a relay: for each input that tells its bytes one end is left, unless a fault came or memory
-- was wanted.
use Rattle.std.proofs.Common.{◌≡◌, ℕ, List, take, refl, ap, ◌⊎◌, inl, inr}
use Rattle.std.specs.Prelude.{Option, Some}
use Rattle.packet_wire.specs.Stream.{Contents}
use Rattle.packet_wire.specs.declared.fault.WireFault.{WireFault}
use Rattle.avalanche_args.specs.declared.command.RelayWords.{RelayWords}
use Rattle.avalanche_cli.specs.Fetch.{IsFetchable, IsTooLong, IsUnfetchable, stream_limit}
use Rattle.avalanche_cli.specs.Relay.{IsRelayEnd}
use Rattle.avalanche_cli.specs.declared.trace.Trace.{Trace}
use Rattle.avalanche_cli.specs.declared.end.End.{End}
use Rattle.avalanche_cli.specs.declared.end.End.TheVariants.{Done, Usage, ReadFault, WriteFault, TooLarge, BadStream, Incomplete, Mismatch, Memory}
use Rattle.avalanche_cli.proofs.EndLemmas.{FaultLaw, SoundLaw, fetchable_of, not_both, not_sound, not_too_long}

module _ (sound : SoundLaw) (fault_law : FaultLaw) (words : RelayWords) (bytes : List ℕ) (before now : Option (List ℕ)) (trace : Trace) (Same Unread Sound Unwritten Unheld : Type 0) where
  abbrev Ends : End → Type 0
  Ends end = IsRelayEnd words (Some bytes) trace before now Same Unread Sound Unwritten Unheld end

  -- a stream
  pub relayed : (end : End) → Ends end → (contents : Contents) → IsFetchable bytes contents → ¬ Unread → ¬ Unwritten → (end ≡ Done) ⊎ (end ≡ Memory)
  relayed Done is contents fetchable read written = inl refl
  relayed (Usage class) is contents fetchable read written = absurd is
  relayed ReadFault is contents fetchable read written = absurd (read is.1.0)
  relayed WriteFault is contents fetchable read written = absurd (written is.1)
  relayed (TooLarge limit) is contents fetchable read written = absurd (not_both bytes contents fetchable is.1.1)
  relayed (BadStream fault) is contents fetchable read written = absurd (not_sound sound bytes contents fault fetchable is.1)
  relayed (Incomplete generation rank) is contents fetchable read written = absurd is
  relayed (Mismatch found) is contents fetchable read written = absurd is
  relayed Memory is contents fetchable read written = inr refl

  -- bytes that are no stream
  pub unfetchable : (end : End) → Ends end → (fault : WireFault) → IsUnfetchable bytes fault → ¬ Unread → (end ≡ BadStream fault) ⊎ (end ≡ Memory)
  unfetchable Done is fault un read = absurd (not_sound sound bytes is.contents fault (fetchable_of bytes is.contents is.holds) un)
  unfetchable (Usage class) is fault un read = absurd is
  unfetchable ReadFault is fault un read = absurd (read is.1.0)
  unfetchable WriteFault is fault un read = absurd (not_sound sound bytes is.0.contents fault (fetchable_of bytes is.0.contents is.0.holds) un)
  unfetchable (TooLarge limit) is fault un read = absurd (not_too_long bytes fault un is.1.1)
  unfetchable (BadStream other) is fault un read = inl (ap BadStream (fault_law (take stream_limit bytes) other fault is.1.first un.first))
  unfetchable (Incomplete generation rank) is fault un read = absurd is
  unfetchable (Mismatch found) is fault un read = absurd is
  unfetchable Memory is fault un read = inr refl

  -- bytes past the limit
  pub too_long : (end : End) → Ends end → IsTooLong bytes → ¬ Unread → (end ≡ TooLarge stream_limit) ⊎ (end ≡ Memory)
  too_long Done is long read = absurd (not_both bytes is.contents (fetchable_of bytes is.contents is.holds) long)
  too_long (Usage class) is long read = absurd is
  too_long ReadFault is long read = absurd (read is.1.0)
  too_long WriteFault is long read = absurd (not_both bytes is.0.contents (fetchable_of bytes is.0.contents is.0.holds) long)
  too_long (TooLarge limit) is long read = inl (ap TooLarge is.1.0)
  too_long (BadStream fault) is long read = absurd (not_too_long bytes fault is.1 long)
  too_long (Incomplete generation rank) is long read = absurd is
  too_long (Mismatch found) is long read = absurd is
  too_long Memory is long read = inr refl
