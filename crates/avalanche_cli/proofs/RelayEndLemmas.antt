-- How writing a relayed stream makes a relay's end, and what is kept of it.
use Rattle.std.proofs.Common.{◌≡◌, ℕ, true, false, List, refl, subst, sym, inl, inr}
use Rattle.std.specs.Prelude.{Option}
use Rattle.std.specs.Io.KnownBytes.{Appends}
use Rattle.swarm_io.specs.Moved.{AppendsPrefix}
use Rattle.avalanche_args.specs.declared.command.RelayWords.{RelayWords}
use Rattle.avalanche_cli.specs.Delivery.{AppendsSome, IsAfterDelivery, IsDelivered}
use Rattle.avalanche_cli.specs.Relay.{IsKeptRelay, IsRelayEnd, IsRelayTraceOf, Relays}
use Rattle.avalanche_cli.specs.declared.delivery.Delivery.{Delivery}
use Rattle.avalanche_cli.specs.declared.delivery.Delivery.TheVariants as delivery
use Rattle.avalanche_cli.specs.declared.outcome.Outcome.{Outcome}
use Rattle.avalanche_cli.specs.declared.trace.Trace.{Trace}
use Rattle.avalanche_cli.specs.declared.end.End.{End}
use Rattle.avalanche_cli.specs.declared.end.End.TheVariants.{Done, WriteFault, Memory}

-- stream: the one that was made. written: the bytes that were handed to the output
module _ (words : RelayWords) (input : Option (List ℕ)) (outcome : Outcome) where
  -- ---- what is kept

  abbrev Keeps : Trace → End → Type 0
  Keeps trace end = IsKeptRelay words end input trace

  -- the outcome has this end and this trace
  keeps : (trace : Trace) (end : End) → (outcome.end ≡ end) × (outcome.trace ≡ trace) → Keeps trace end → Keeps outcome.trace outcome.end
  keeps trace end is at = subst (λ (e : End). Keeps outcome.trace e) (sym is.0) (subst (λ (t : Trace). Keeps t end) (sym is.1) at)

  trace_of : (trace : Trace) (stream : List ℕ) → Relays words input trace (λ bytes. stream ≡ bytes) → IsRelayTraceOf words input trace
  trace_of trace stream is = record { contents = is.contents; holds = is.holds; legal = is.legal }

  pub kept_of_delivery : (trace : Trace) (stream : List ℕ) (ending : Delivery) → Relays words input trace (λ bytes. stream ≡ bytes) → IsAfterDelivery trace outcome ending → Keeps outcome.trace outcome.end
  kept_of_delivery trace stream delivery.Whole is after = keeps trace Done after (trace_of trace stream is)
  kept_of_delivery trace stream delivery.Fault is after = keeps trace WriteFault after (trace_of trace stream is)
  kept_of_delivery trace stream (delivery.Memory false) is after = keeps outcome.trace Memory (after.0, refl) (inl after.1)
  kept_of_delivery trace stream (delivery.Memory true) is after = keeps trace Memory after (inr (trace_of trace stream is))

  -- ---- the end

  module _ (before now : Option (List ℕ)) (Same Unread Sound Unwritten Unheld : Type 0) where
    abbrev Ends : Trace → End → Type 0
    Ends trace end = IsRelayEnd words input trace before now Same Unread Sound Unwritten Unheld end

    ends : (trace : Trace) (end : End) → (outcome.end ≡ end) × (outcome.trace ≡ trace) → Ends trace end → Ends outcome.trace outcome.end
    ends trace end is at = subst (λ (e : End). Ends outcome.trace e) (sym is.0) (subst (λ (t : Trace). Ends t end) (sym is.1) at)

    gaining : (trace : Trace) (stream written : List ℕ) (Gained : List ℕ → Type 0) → written ≡ stream → Relays words input trace (λ bytes. stream ≡ bytes) → Gained written → Relays words input trace Gained
    gaining trace stream written Gained same is gained = record { contents = is.contents; holds = is.holds; legal = is.legal; gained = subst Gained is.gained (subst Gained same gained) }

    pub end_of_delivery : (trace : Trace) (stream written : List ℕ) (ending : Delivery) → written ≡ stream → Relays words input trace (λ bytes. stream ≡ bytes) → IsDelivered written before now Unwritten Unheld ending → IsAfterDelivery trace outcome ending → Ends outcome.trace outcome.end
    end_of_delivery trace stream written delivery.Whole same is delivered after = ends trace Done after (gaining trace stream written (Appends before now) same is delivered)
    end_of_delivery trace stream written delivery.Fault same is delivered after = ends trace WriteFault after (gaining trace stream written (AppendsPrefix before now) same is delivered.0, delivered.1)
    end_of_delivery trace stream written (delivery.Memory false) same is delivered after = ends outcome.trace Memory (after.0, refl) (inl (after.1, inr delivered))
    end_of_delivery trace stream written (delivery.Memory true) same is delivered after = ends trace Memory after (inr (gaining trace stream written (AppendsSome before now) same is delivered.0, delivered.1))
