-- The laws of traces, their merge and their replays, by name.
use Rattle.std.specs.Prelude.{◌≡◌, ◌≢◌, ℕ, List, map, None}
use Rattle.std.specs.List.{All}
use Rattle.linear_spec.specs.declared.equations.Equations.{Equations}
use Rattle.linear_spec.specs.declared.record.Record.{Record}
use Rattle.basis_core.specs.declared.trace.CallerTrace.{CallerTrace}
use Rattle.basis_core.specs.declared.trace.CallerOffers.{CallerOffers}
use Rattle.basis_core.specs.Calls.{call_of}
use Rattle.basis_core.specs.Merge.{all_calls, given_by, merge_of}
use Rattle.basis_core.specs.Legal.{IsLegalHistory}
use Rattle.basis_core.specs.declared.trace.Answer.{Answer}
use Rattle.basis_core.specs.declared.trace.Event.{Event}
use Rattle.basis_core.specs.Machine.{FitsEvent, IsReplay}
use Rattle.basis_core.specs.Entries.{HasOffers, entries_of, entries_of_caller, merged_entries}
use Rattle.basis_core.specs.Traces.{AreRising, HasItsCheck, calls_of, kept_of, made_of}

-- what the merge of a trace is to legal histories, and what the machine makes of it
pub record TraceLaws : Type 0 where
  -- the entries of a caller are its calls, all of them, where each offer has its packet and its check
  pub complete : (caller : CallerTrace) (own : CallerOffers) → HasOffers caller own
      → map (λ entry. call_of (kept_of entry)) (entries_of_caller caller.number caller.calls.items own.packets.items own.failed.items)
      ≡ caller.calls.items
  -- of a trace that lists its callers by rising numbers, those of all records among them: the entries that `merge` puts in
  -- order are the merge of the callers' calls, as legal histories have it
  pub merged : (callers : List CallerTrace) (offers : List CallerOffers) (records : List Record) → AreRising (calls_of callers offers) 0
      → All (λ record'. given_by (calls_of callers offers) record'.caller ≢ None) records
      → merge_of (all_calls (given_by (calls_of callers offers)) records) ≡ map made_of (merged_entries (entries_of callers offers))
  -- and where the history is legal and each offer has the first check that it fails, the answers that were kept and the
  -- records are a replay of the merged events
  pub replays : (equations : Equations) (callers : List CallerTrace) (offers : List CallerOffers) (records : List Record)
      → AreRising (calls_of callers offers) 0
      → All (λ record'. given_by (calls_of callers offers) record'.caller ≢ None) records
      → IsLegalHistory equations (given_by (calls_of callers offers)) records
      → All (λ entry. HasItsCheck equations entry.event) (entries_of callers offers)
      → IsReplay equations.k equations.s (map (λ entry. entry.event) (merged_entries (entries_of callers offers)))
      (map (λ entry. entry.answer) (merged_entries (entries_of callers offers))) records
  -- of events that fit there is just one replay, so these are what `replay` gives
  pub one_replay : (k s : ℕ) (events : List Event) (answers others : List Answer) (records more : List Record) → All (FitsEvent k s) events
      → IsReplay k s events answers records → IsReplay k s events others more → (others ≡ answers) × (more ≡ records)
