-- What the end of the command of the words tells of a run: one lemma for each clause of `run` that does not speak of what
-- must come.
-- said: what the words say. is: how the run ended.
use Rattle.std.proofs.Common.{◌≡◌, ◌⊎◌, inl, inr, ℕ, List, sym, subst, ap, ◌∙◌}
use Rattle.std.specs.Prelude.{Option, Result, Ok, Err, IfSome, length, ◌<◌}
use Rattle.std.specs.Io.KnownBytes.{Appends, Keeps}
use Rattle.swarm_io.specs.Moved.{AppendsPrefix}
use Rattle.packet_wire.specs.Stream.{Contents, IsStream}
use Rattle.packet_wire.specs.declared.fault.WireFault.{WireFault}
use Rattle.avalanche_args.specs.declared.command.Command.{Command}
use Rattle.avalanche_args.specs.declared.command.Command.TheVariants.{Seed, Fetch, Relay}
use Rattle.avalanche_args.specs.declared.command.FetchWords.{FetchWords}
use Rattle.avalanche_args.specs.declared.command.RelayWords.{RelayWords}
use Rattle.avalanche_args.specs.declared.command.SeedWords.{SeedWords}
use Rattle.avalanche_args.specs.declared.usage.WordClass.{WordClass}
use Rattle.avalanche_cli.specs.Delivery.{AppendsSome}
use Rattle.avalanche_cli.specs.EmptyTrace.{IsEmptyTrace}
use Rattle.avalanche_cli.specs.Fetch.{Gives, GivesPrefix, GivesSome, HasOtherDigest, HasReadSound, IsTooLong, IsUnfetchable, LacksRank, stream_limit}
use Rattle.avalanche_cli.specs.FetchSteps.{IsEnd}
use Rattle.avalanche_cli.specs.Relay.{IsRelayEnd, IsTrulyRelayed, Relays, RelaysTruly, sending_of}
use Rattle.avalanche_cli.specs.Run.{IfFetch, IfReadsStream, IfRelay, IfSeed, IsFetchThat, IsKept, IsRefusal, ReadsStream}
use Rattle.avalanche_cli.specs.RunSteps.{IsRefused, IsRun}
use Rattle.avalanche_cli.specs.Seed.{GivesStream, GivesStreamPrefix, IsSeedEnd, seed_limit}
use Rattle.avalanche_cli.specs.Trace.{IsLegalRelay}
use Rattle.avalanche_cli.specs.declared.outcome.Outcome.{Outcome}
use Rattle.avalanche_cli.specs.declared.trace.Trace.{Trace}
use Rattle.avalanche_cli.specs.declared.end.End.{End}
use Rattle.avalanche_cli.specs.declared.end.End.TheVariants.{Done, Usage, ReadFault, WriteFault, TooLarge, BadStream, Incomplete, Mismatch, Memory}

-- what a relay makes of a stream is a stream that passes, and true to what its records are true to
abbrev pub TrulyLaw : Type 0
TrulyLaw = (bytes : List ℕ) (words : RelayWords) (contents : Contents) (trace : Trace) → IsStream bytes contents → IsLegalRelay words.receivers (sending_of words) contents trace → IsTrulyRelayed words contents trace

relays_truly : TrulyLaw → (words : RelayWords) (input : Option (List ℕ)) (trace : Trace) (Gained : List ℕ → Type 0) → Relays words input trace Gained → RelaysTruly words input trace Gained
relays_truly law words input trace Gained is = record { relays = is; truly = law is.holds.bytes words is.contents trace is.holds.fetchable.stream is.legal }

module _ (old new before now : Option (List ℕ)) (Unmoved Same Unread Unwritten Unheld : Type 0) (outcome : Outcome) where
  abbrev Ran : Result Command WordClass → Type 0
  Ran said = IsRun old new before now Unmoved Same Unread Unwritten Unheld outcome said

  abbrev Seeded : SeedWords → End → Type 0
  Seeded words end = IsSeedEnd words old before now Same Unread Unwritten Unheld end

  abbrev Fetched : FetchWords → End → Type 0
  Fetched words end = IsEnd words.receivers old outcome.trace before now Same Unread (HasReadSound old new) Unwritten Unheld end

  abbrev Relayed : RelayWords → End → Type 0
  Relayed words end = IsRelayEnd words old outcome.trace before now Same Unread (HasReadSound old new) Unwritten Unheld end

  -- the end that it is
  seeded : (words : SeedWords) (end : End) → Ran (Ok (Seed words)) → outcome.end ≡ end → Seeded words end
  seeded words end is at = subst (λ (e : End). Seeded words e) at is.1

  fetched : (words : FetchWords) (end : End) → Ran (Ok (Fetch words)) → outcome.end ≡ end → Fetched words end
  fetched words end is at = subst (λ (e : End). Fetched words e) at is.1

  relayed : (words : RelayWords) (end : End) → Ran (Ok (Relay words)) → outcome.end ≡ end → Relayed words end
  relayed words end is at = subst (λ (e : End). Relayed words e) at is.1

  -- words that say no command end in two ways
  neither : (class : WordClass) (end : End) → (outcome.end ≡ Usage class) ⊎ (outcome.end ≡ Memory) → outcome.end ≡ end → (Usage class ≡ end → ⊥) → (Memory ≡ end → ⊥) → ⊥
  neither class end (inl usage) at no_usage no_memory = no_usage (sym usage ∙ at)
  neither class end (inr memory) at no_usage no_memory = no_memory (sym memory ∙ at)

  -- ---- the words

  usage_of : (class given : WordClass) → (outcome.end ≡ Usage given) ⊎ (outcome.end ≡ Memory) → outcome.end ≡ Usage class → given ≡ class
  usage_of class given (inl usage) at = let same : Usage given ≡ Usage class = sym usage ∙ at in cc
  usage_of class given (inr memory) at = let same : Memory ≡ Usage class = sym memory ∙ at in absurd cc

  pub usage : (said : Result Command WordClass) (class : WordClass) → Ran said → outcome.end ≡ Usage class → said ≡ Err class
  usage (Ok (Seed words)) class is at = absurd (seeded words (Usage class) is at)
  usage (Ok (Fetch words)) class is at = absurd (fetched words (Usage class) is at)
  usage (Ok (Relay words)) class is at = absurd (relayed words (Usage class) is at)
  usage (Err given) class is at = ap Err (usage_of class given is.end at)

  pub no_command : (said : Result Command WordClass) (class : WordClass) → Ran said → said ≡ Err class → ((outcome.end ≡ Usage class) ⊎ (outcome.end ≡ Memory)) × Unmoved × Same
  no_command said class is at = let refused : IsRefused Unmoved Same outcome class = subst Ran at is in (refused.end, refused.input, refused.output)

  pub kept : (said : Result Command WordClass) → Ran said → IsKept said outcome.end old outcome.trace
  kept (Ok (Seed words)) is = is.0
  kept (Ok (Fetch words)) is = is.0
  kept (Ok (Relay words)) is = is.0
  kept (Err class) is = is.trace

  -- ---- Done

  pub done_of_seed : (said : Result Command WordClass) → Ran said → outcome.end ≡ Done → IfSeed said (λ words. GivesStream words old before now)
  done_of_seed (Ok (Seed words)) is at = seeded words Done is at
  done_of_seed (Ok (Fetch words)) is at = tt
  done_of_seed (Ok (Relay words)) is at = tt
  done_of_seed (Err class) is at = tt

  pub done_of_fetch : (said : Result Command WordClass) → Ran said → outcome.end ≡ Done → IfFetch said (λ words. Gives words.receivers old outcome.trace before now)
  done_of_fetch (Ok (Seed words)) is at = tt
  done_of_fetch (Ok (Fetch words)) is at = fetched words Done is at
  done_of_fetch (Ok (Relay words)) is at = tt
  done_of_fetch (Err class) is at = tt

  pub done_of_relay : TrulyLaw → (said : Result Command WordClass) → Ran said → outcome.end ≡ Done → IfRelay said (λ words. RelaysTruly words old outcome.trace (Appends before now))
  done_of_relay law (Ok (Seed words)) is at = tt
  done_of_relay law (Ok (Fetch words)) is at = tt
  done_of_relay law (Ok (Relay words)) is at = relays_truly law words old outcome.trace (Appends before now) (relayed words Done is at)
  done_of_relay law (Err class) is at = tt

  -- ---- ends that only a fetch has

  pub mismatch : (said : Result Command WordClass) (found : List ℕ) → Ran said → outcome.end ≡ Mismatch found → IsFetchThat said (λ words. HasOtherDigest words.receivers old outcome.trace found)
  mismatch (Ok (Seed words)) found is at = absurd (seeded words (Mismatch found) is at)
  mismatch (Ok (Fetch words)) found is at = (fetched words (Mismatch found) is at).1
  mismatch (Ok (Relay words)) found is at = absurd (relayed words (Mismatch found) is at)
  mismatch (Err class) found is at = absurd (neither class (Mismatch found) is.end at (λ e. absurd cc) (λ e. absurd cc))

  pub incomplete : (said : Result Command WordClass) (generation rank : ℕ) → Ran said → outcome.end ≡ Incomplete generation rank → IsFetchThat said (λ words. LacksRank old generation rank)
  incomplete (Ok (Seed words)) generation rank is at = absurd (seeded words (Incomplete generation rank) is at)
  incomplete (Ok (Fetch words)) generation rank is at = (fetched words (Incomplete generation rank) is at).1
  incomplete (Ok (Relay words)) generation rank is at = absurd (relayed words (Incomplete generation rank) is at)
  incomplete (Err class) generation rank is at = absurd (neither class (Incomplete generation rank) is.end at (λ e. absurd cc) (λ e. absurd cc))

  -- ---- bytes that are no stream

  pub bad_stream : (said : Result Command WordClass) (fault : WireFault) → Ran said → outcome.end ≡ BadStream fault → ReadsStream said (IfSome old (λ bytes. IsUnfetchable bytes fault))
  bad_stream (Ok (Seed words)) fault is at = absurd (seeded words (BadStream fault) is at)
  bad_stream (Ok (Fetch words)) fault is at = (fetched words (BadStream fault) is at).1
  bad_stream (Ok (Relay words)) fault is at = (relayed words (BadStream fault) is at).1
  bad_stream (Err class) fault is at = absurd (neither class (BadStream fault) is.end at (λ e. absurd cc) (λ e. absurd cc))

  -- ---- inputs that are too large

  pub too_large_of_seed : (said : Result Command WordClass) (limit : ℕ) → Ran said → outcome.end ≡ TooLarge limit → IfSeed said (λ words. (limit ≡ seed_limit words) × IfSome old (λ bytes. seed_limit words < length bytes))
  too_large_of_seed (Ok (Seed words)) limit is at = (seeded words (TooLarge limit) is at).1
  too_large_of_seed (Ok (Fetch words)) limit is at = tt
  too_large_of_seed (Ok (Relay words)) limit is at = tt
  too_large_of_seed (Err class) limit is at = tt

  pub too_large_of_stream : (said : Result Command WordClass) (limit : ℕ) → Ran said → outcome.end ≡ TooLarge limit → IfReadsStream said ((limit ≡ stream_limit) × IfSome old IsTooLong)
  too_large_of_stream (Ok (Seed words)) limit is at = tt
  too_large_of_stream (Ok (Fetch words)) limit is at = (fetched words (TooLarge limit) is at).1
  too_large_of_stream (Ok (Relay words)) limit is at = (relayed words (TooLarge limit) is at).1
  too_large_of_stream (Err class) limit is at = tt

  -- ---- faults

  pub read_fault : (said : Result Command WordClass) → Ran said → outcome.end ≡ ReadFault → Unread
  read_fault (Ok (Seed words)) is at = (seeded words ReadFault is at).1
  read_fault (Ok (Fetch words)) is at = (fetched words ReadFault is at).1.0
  read_fault (Ok (Relay words)) is at = (relayed words ReadFault is at).1.0
  read_fault (Err class) is at = absurd (neither class ReadFault is.end at (λ e. absurd cc) (λ e. absurd cc))

  pub read_fault_of_stream : (said : Result Command WordClass) → Ran said → outcome.end ≡ ReadFault → IfReadsStream said (HasReadSound old new)
  read_fault_of_stream (Ok (Seed words)) is at = tt
  read_fault_of_stream (Ok (Fetch words)) is at = (fetched words ReadFault is at).1.1
  read_fault_of_stream (Ok (Relay words)) is at = (relayed words ReadFault is at).1.1
  read_fault_of_stream (Err class) is at = tt

  pub write_fault : (said : Result Command WordClass) → Ran said → outcome.end ≡ WriteFault → Unwritten
  write_fault (Ok (Seed words)) is at = (seeded words WriteFault is at).1
  write_fault (Ok (Fetch words)) is at = (fetched words WriteFault is at).1
  write_fault (Ok (Relay words)) is at = (relayed words WriteFault is at).1
  write_fault (Err class) is at = absurd (neither class WriteFault is.end at (λ e. absurd cc) (λ e. absurd cc))

  -- ---- what is left

  refused_seed : (words : SeedWords) (end : End) → Seeded words end → IsRefusal end → Same
  refused_seed words Done is early = absurd early
  refused_seed words (Usage class) is early = absurd is
  refused_seed words ReadFault is early = is.0
  refused_seed words WriteFault is early = absurd early
  refused_seed words (TooLarge limit) is early = is.0
  refused_seed words (BadStream fault) is early = absurd is
  refused_seed words (Incomplete generation rank) is early = absurd is
  refused_seed words (Mismatch found) is early = absurd is
  refused_seed words Memory is early = absurd early

  refused_fetch : (words : FetchWords) (end : End) → Fetched words end → IsRefusal end → Same
  refused_fetch words Done is early = absurd early
  refused_fetch words (Usage class) is early = absurd is
  refused_fetch words ReadFault is early = is.0
  refused_fetch words WriteFault is early = absurd early
  refused_fetch words (TooLarge limit) is early = is.0
  refused_fetch words (BadStream fault) is early = is.0
  refused_fetch words (Incomplete generation rank) is early = is.0
  refused_fetch words (Mismatch found) is early = is.0
  refused_fetch words Memory is early = absurd early

  refused_relay : (words : RelayWords) (end : End) → Relayed words end → IsRefusal end → Same
  refused_relay words Done is early = absurd early
  refused_relay words (Usage class) is early = absurd is
  refused_relay words ReadFault is early = is.0
  refused_relay words WriteFault is early = absurd early
  refused_relay words (TooLarge limit) is early = is.0
  refused_relay words (BadStream fault) is early = is.0
  refused_relay words (Incomplete generation rank) is early = absurd is
  refused_relay words (Mismatch found) is early = absurd is
  refused_relay words Memory is early = absurd early

  pub refusal_writes_nothing : (said : Result Command WordClass) → Ran said → IsRefusal outcome.end → Same
  refusal_writes_nothing (Ok (Seed words)) is early = refused_seed words outcome.end is.1 early
  refusal_writes_nothing (Ok (Fetch words)) is early = refused_fetch words outcome.end is.1 early
  refusal_writes_nothing (Ok (Relay words)) is early = refused_relay words outcome.end is.1 early
  refusal_writes_nothing (Err class) is early = is.output

  pub write_fault_of_seed : (said : Result Command WordClass) → Ran said → outcome.end ≡ WriteFault → IfSeed said (λ words. GivesStreamPrefix words old before now)
  write_fault_of_seed (Ok (Seed words)) is at = (seeded words WriteFault is at).0
  write_fault_of_seed (Ok (Fetch words)) is at = tt
  write_fault_of_seed (Ok (Relay words)) is at = tt
  write_fault_of_seed (Err class) is at = tt

  pub write_fault_of_fetch : (said : Result Command WordClass) → Ran said → outcome.end ≡ WriteFault → IfFetch said (λ words. GivesPrefix words.receivers old outcome.trace before now)
  write_fault_of_fetch (Ok (Seed words)) is at = tt
  write_fault_of_fetch (Ok (Fetch words)) is at = (fetched words WriteFault is at).0
  write_fault_of_fetch (Ok (Relay words)) is at = tt
  write_fault_of_fetch (Err class) is at = tt

  pub write_fault_of_relay : TrulyLaw → (said : Result Command WordClass) → Ran said → outcome.end ≡ WriteFault → IfRelay said (λ words. RelaysTruly words old outcome.trace (AppendsPrefix before now))
  write_fault_of_relay law (Ok (Seed words)) is at = tt
  write_fault_of_relay law (Ok (Fetch words)) is at = tt
  write_fault_of_relay law (Ok (Relay words)) is at = relays_truly law words old outcome.trace (AppendsPrefix before now) (relayed words WriteFault is at).0
  write_fault_of_relay law (Err class) is at = tt

  pub memory_of_seed : (said : Result Command WordClass) → Ran said → outcome.end ≡ Memory → IfSeed said (λ words. Same ⊎ (GivesStreamPrefix words old before now × Unheld))
  memory_of_seed (Ok (Seed words)) is at = seeded words Memory is at
  memory_of_seed (Ok (Fetch words)) is at = tt
  memory_of_seed (Ok (Relay words)) is at = tt
  memory_of_seed (Err class) is at = tt

  pub memory_of_fetch : (said : Result Command WordClass) → Ran said → outcome.end ≡ Memory → IfFetch said (λ words. (IsEmptyTrace outcome.trace × (Same ⊎ (Keeps before now × Unheld))) ⊎ (GivesSome words.receivers old outcome.trace before now × Unheld))
  memory_of_fetch (Ok (Seed words)) is at = tt
  memory_of_fetch (Ok (Fetch words)) is at = fetched words Memory is at
  memory_of_fetch (Ok (Relay words)) is at = tt
  memory_of_fetch (Err class) is at = tt

  pub memory_of_relay : TrulyLaw → (said : Result Command WordClass) → Ran said → outcome.end ≡ Memory → IfRelay said (λ words. (IsEmptyTrace outcome.trace × (Same ⊎ (Keeps before now × Unheld))) ⊎ (RelaysTruly words old outcome.trace (AppendsSome before now) × Unheld))
  memory_of_relay law (Ok (Seed words)) is at = tt
  memory_of_relay law (Ok (Fetch words)) is at = tt
  memory_of_relay law (Ok (Relay words)) is at = elim (relayed words Memory is at) [
    | inl kept ↦ inl kept
    | inr some ↦ inr (relays_truly law words old outcome.trace (AppendsSome before now) some.0, some.1)
  ]
  memory_of_relay law (Err class) is at = tt
