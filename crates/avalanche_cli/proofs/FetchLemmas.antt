-- How the steps of a fetch make its end, and what is kept of it.
use Rattle.std.proofs.Common.{◌≡◌, ℕ, true, false, List, refl, subst, sym, inl, inr}
use Rattle.std.specs.Prelude.{Option, Result, Ok, Err}
use Rattle.sha2.specs.Sha256.{sha256}
use Rattle.linear_spec.specs.List.{ListValue}
use Rattle.packet_wire.specs.Stream.{Contents}
use Rattle.avalanche_cli.specs.Delivery.{IsAfterDelivery, IsDelivered}
use Rattle.avalanche_cli.specs.EmptyTrace.{IsEmptyTrace}
use Rattle.avalanche_cli.specs.Fetch.{HasFile, Holds, IsTraceOf}
use Rattle.avalanche_cli.specs.FetchSteps.{IsAfterNoFile, IsEnd, IsFinished, IsReceptionOf, IsUnread, end_of_reading}
use Rattle.avalanche_cli.specs.Files.{IsOnlyFileOf, recorded_packets}
use Rattle.avalanche_cli.specs.Packets.{HasFullRank}
use Rattle.avalanche_cli.specs.Reception.{IsJudged}
use Rattle.avalanche_cli.specs.Run.{IsKeptFetch}
use Rattle.avalanche_cli.specs.Trace.{IsLegalFetch}
use Rattle.avalanche_cli.specs.declared.delivery.Delivery.{Delivery}
use Rattle.avalanche_cli.specs.declared.delivery.Delivery.TheVariants as delivery
use Rattle.avalanche_cli.specs.declared.reading.NoStream.{NoStream}
use Rattle.avalanche_cli.specs.declared.reading.NoStream.TheVariants as no_stream
use Rattle.avalanche_cli.specs.declared.reception.NoFile.{NoFile}
use Rattle.avalanche_cli.specs.declared.reception.NoFile.TheVariants as no_file
use Rattle.avalanche_cli.specs.declared.outcome.Outcome.{Outcome}
use Rattle.avalanche_cli.specs.declared.trace.Trace.{Trace}
use Rattle.avalanche_cli.specs.declared.end.End.{End}
use Rattle.avalanche_cli.specs.declared.end.End.TheVariants.{Done, WriteFault, ReadFault, BadStream, Incomplete, Mismatch, Memory}

has_file : (receivers : ℕ) (input : Option (List ℕ)) (contents : Contents) (trace : Trace) (digest file : List ℕ) → Holds input contents → IsLegalFetch receivers contents trace → HasFullRank contents → IsOnlyFileOf contents.manifest.shape (recorded_packets trace.bases.items) file → contents.manifest.digest ≡ digest → HasFile receivers input trace digest file
has_file receivers input contents trace digest file holds legal full is digest_is = record {
  contents = contents;
  holds = holds;
  full = full;
  legal = legal;
  digest_is = digest_is;
  is_file = is;
}

module _ (receivers : ℕ) (input before now : Option (List ℕ)) (Same Unread Sound Unwritten Unheld : Type 0) (outcome : Outcome) where
  abbrev Ends : Trace → End → Type 0
  Ends trace end = IsEnd receivers input trace before now Same Unread Sound Unwritten Unheld end

  abbrev Keeps : Trace → End → Type 0
  Keeps trace end = IsKeptFetch receivers end input trace

  -- the outcome has this end and this trace
  ends : (trace : Trace) (end : End) → (outcome.end ≡ end) × (outcome.trace ≡ trace) → Ends trace end → Ends outcome.trace outcome.end
  ends trace end is at = subst (λ (e : End). Ends outcome.trace e) (sym is.0) (subst (λ (t : Trace). Ends t end) (sym is.1) at)

  keeps : (trace : Trace) (end : End) → (outcome.end ≡ end) × (outcome.trace ≡ trace) → Keeps trace end → Keeps outcome.trace outcome.end
  keeps trace end is at = subst (λ (e : End). Keeps outcome.trace e) (sym is.0) (subst (λ (t : Trace). Keeps t end) (sym is.1) at)

  -- ---- no stream was read

  pub end_of_unread : (reason : NoStream) → IsUnread input Unread Sound reason → Same → IsEmptyTrace outcome.trace → outcome.end ≡ end_of_reading reason → Ends outcome.trace outcome.end
  end_of_unread no_stream.ReadFault is same empty at = ends outcome.trace ReadFault (at, refl) (same, is)
  end_of_unread no_stream.TooLarge is same empty at = ends outcome.trace (end_of_reading no_stream.TooLarge) (at, refl) (same, (refl, is))
  end_of_unread (no_stream.BadStream fault) is same empty at = ends outcome.trace (BadStream fault) (at, refl) (same, is)
  end_of_unread no_stream.Memory is same empty at = ends outcome.trace Memory (at, refl) (inl (empty, inl same))

  pub kept_of_unread : (reason : NoStream) → IsEmptyTrace outcome.trace → outcome.end ≡ end_of_reading reason → Keeps outcome.trace outcome.end
  kept_of_unread no_stream.ReadFault empty at = keeps outcome.trace ReadFault (at, refl) empty
  kept_of_unread no_stream.TooLarge empty at = keeps outcome.trace (end_of_reading no_stream.TooLarge) (at, refl) empty
  kept_of_unread (no_stream.BadStream fault) empty at = keeps outcome.trace (BadStream fault) (at, refl) empty
  kept_of_unread no_stream.Memory empty at = keeps outcome.trace Memory (at, refl) (inl empty)

  -- ---- the packets were received

  end_of_delivery : (trace : Trace) (file : List ℕ) (ending : Delivery) → HasFile receivers input trace (sha256 file) file → IsDelivered file before now Unwritten Unheld ending → IsAfterDelivery trace outcome ending → Ends outcome.trace outcome.end
  end_of_delivery trace file delivery.Whole has delivered after = ends trace Done after (record { file = file; has = has; gained = delivered })
  end_of_delivery trace file delivery.Fault has delivered after = ends trace WriteFault after (record { file = file; has = has; gained = delivered.0 }, delivered.1)
  end_of_delivery trace file (delivery.Memory false) has delivered after = ends outcome.trace Memory (after.0, refl) (inl (after.1, inr delivered))
  end_of_delivery trace file (delivery.Memory true) has delivered after = ends trace Memory after (inr (record { file = file; has = has; gained = delivered.0 }, delivered.1))

  kept_of_delivery : (trace : Trace) (ending : Delivery) → IsTraceOf receivers input trace → IsAfterDelivery trace outcome ending → Keeps outcome.trace outcome.end
  kept_of_delivery trace delivery.Whole is after = keeps trace Done after is
  kept_of_delivery trace delivery.Fault is after = keeps trace WriteFault after is
  kept_of_delivery trace (delivery.Memory false) is after = keeps outcome.trace Memory (after.0, refl) (inl after.1)
  kept_of_delivery trace (delivery.Memory true) is after = keeps trace Memory after (inr is)

  end_of_reason : (trace : Trace) (contents : Contents) (reason : NoFile) → Holds input contents → IsLegalFetch receivers contents trace → IsJudged contents trace (Err reason) → Same → IsAfterNoFile trace outcome reason → Ends outcome.trace outcome.end
  end_of_reason trace contents (no_file.Incomplete generation rank) holds legal judged same after = ends trace (Incomplete generation rank) after (same, record { contents = contents; holds = holds; lacks = judged })
  end_of_reason trace contents (no_file.Mismatch found) holds legal judged same after = ends trace (Mismatch found) after (
    same,
    record {
      digest = contents.manifest.digest;
      file = judged.file;
      has = has_file receivers input contents trace contents.manifest.digest judged.file holds legal judged.full judged.is_file refl;
      found_is = judged.found_is;
      differs = judged.differs;
    },
  )
  end_of_reason trace contents no_file.Memory holds legal judged same after = ends outcome.trace Memory (after.0, refl) (inl (after.1, inl same))

  kept_of_reason : (trace : Trace) (reason : NoFile) → IsTraceOf receivers input trace → IsAfterNoFile trace outcome reason → Keeps outcome.trace outcome.end
  kept_of_reason trace (no_file.Incomplete generation rank) is after = keeps trace (Incomplete generation rank) after is
  kept_of_reason trace (no_file.Mismatch found) is after = keeps trace (Mismatch found) after is
  kept_of_reason trace no_file.Memory is after = keeps outcome.trace Memory (after.0, refl) (inl after.1)

  pub end_of_reception : (trace : Trace) (file : Result (ListValue ℕ) NoFile) → IsReceptionOf receivers input trace file → IsFinished trace before now Same Unwritten Unheld outcome file → Ends outcome.trace outcome.end
  end_of_reception trace (Ok file) is finished =
      end_of_delivery trace file.items finished.0 (has_file receivers input is.contents trace (sha256 file.items) file.items is.holds is.legal is.judged.full is.judged.is_file (sym is.judged.digest)) finished.1.0 finished.1.1
  end_of_reception trace (Err reason) is finished = end_of_reason trace is.contents reason is.holds is.legal is.judged finished.0 finished.1

  trace_of : (trace : Trace) (file : Result (ListValue ℕ) NoFile) → IsReceptionOf receivers input trace file → IsTraceOf receivers input trace
  trace_of trace file is = record { contents = is.contents; holds = is.holds; legal = is.legal }

  pub kept_of_reception : (trace : Trace) (file : Result (ListValue ℕ) NoFile) → IsReceptionOf receivers input trace file → IsFinished trace before now Same Unwritten Unheld outcome file → Keeps outcome.trace outcome.end
  kept_of_reception trace (Ok file) is finished = kept_of_delivery trace finished.0 (trace_of trace (Ok file) is) finished.1.1
  kept_of_reception trace (Err reason) is finished = kept_of_reason trace reason (trace_of trace (Err reason) is) finished.1
