-- Which end a run must have, by its words and the bytes of its input: one lemma for each such clause of `run`.
-- said: what the words say. is: how the run ended.
use Rattle.std.proofs.Common.{◌≡◌, ◌⊎◌, inl, inr, ℕ, ◌<◌, ◌≤◌, List, length, refl, subst, sym, ap, arith, false}
use Rattle.std.specs.Prelude.{Option, None, Some, Result, Ok, Err, IfSome}
use Rattle.std.specs.Io.KnownBytes.{Appends}
use Rattle.sha2.specs.Sha256.{sha256}
use Rattle.src_check.specs.Tickets.{generation_blocks_of}
use Rattle.packet_wire.specs.Stream.{Contents, IsStream}
use Rattle.packet_wire.specs.declared.fault.WireFault.{WireFault}
use Rattle.avalanche_args.specs.declared.command.Command.{Command}
use Rattle.avalanche_args.specs.declared.command.Command.TheVariants.{Seed, Fetch, Relay}
use Rattle.avalanche_args.specs.declared.command.SeedWords.{SeedWords}
use Rattle.avalanche_args.specs.declared.usage.WordClass.{WordClass}
use Rattle.avalanche_cli.specs.Fetch.{HasReadSound, IsFetchable, IsTooLong, IsUnfetchable, stream_limit}
use Rattle.avalanche_cli.specs.Files.{IsFirstIncomplete, IsOnlyFileOf, recorded_packets, source_file}
use Rattle.avalanche_cli.specs.Trace.{IsLegalFetch}
use Rattle.avalanche_cli.specs.declared.trace.Trace.{Trace}
use Rattle.avalanche_cli.specs.Packets.{AreTrueTo, HasFullRank}
use Rattle.avalanche_cli.specs.Run.{IfFetch, IfReadsStream, IfRelay, IfSeed}
use Rattle.avalanche_cli.specs.RunSteps.{IsRun}
use Rattle.avalanche_cli.specs.Seed.{IsSeedEnd, IsSeedFile, IsSeedable, contents_of_seed, seed_limit, shape_of_seed, stream_of_seed}
use Rattle.avalanche_cli.specs.declared.outcome.Outcome.{Outcome}
use Rattle.avalanche_cli.specs.declared.end.End.{End}
use Rattle.avalanche_cli.specs.declared.end.End.TheVariants.{Done, Usage, ReadFault, WriteFault, TooLarge, BadStream, Incomplete, Mismatch, Memory}
use Rattle.avalanche_cli.proofs.AskedLemmas as asked
use Rattle.avalanche_cli.proofs.EndLemmas as ends
use Rattle.avalanche_cli.proofs.EndLemmas.{FaultLaw, IncompleteLaw, NotFullLaw, SoundLaw}

-- ---- seed

-- the file of an input that tells its bytes is these
told_within : (words : SeedWords) (bytes file : List ℕ) → IsSeedFile words (Some bytes) file → length bytes ≤ seed_limit words
told_within words bytes file is = subst (λ (l : List ℕ). length l ≤ seed_limit words) (sym is.told) is.seedable.within

not_past : (words : SeedWords) (bytes file : List ℕ) → IsSeedFile words (Some bytes) file → seed_limit words < length bytes → ⊥
not_past words bytes file is past =
    let within : length bytes ≤ seed_limit words = told_within words bytes file is in
    omega arith

module _ (words : SeedWords) (bytes : List ℕ) (before now : Option (List ℕ)) (Same Unread Unwritten Unheld : Type 0) where
  abbrev Seeded : End → Type 0
  Seeded end = IsSeedEnd words (Some bytes) before now Same Unread Unwritten Unheld end

  seeded_within : (end : End) → Seeded end → length bytes ≤ seed_limit words → ¬ Unread → ¬ Unwritten → (end ≡ Done) ⊎ (end ≡ Memory)
  seeded_within Done is within read written = inl refl
  seeded_within (Usage class) is within read written = absurd is
  seeded_within ReadFault is within read written = absurd (read is.1)
  seeded_within WriteFault is within read written = absurd (written is.1)
  seeded_within (TooLarge limit) is within read written =
      let past : seed_limit words < length bytes = is.1.1 in
      absurd (omega arith)
  seeded_within (BadStream fault) is within read written = absurd is
  seeded_within (Incomplete generation rank) is within read written = absurd is
  seeded_within (Mismatch found) is within read written = absurd is
  seeded_within Memory is within read written = inr refl

  seeded_beyond : (end : End) → Seeded end → seed_limit words < length bytes → ¬ Unread → (end ≡ TooLarge (seed_limit words)) ⊎ (end ≡ Memory)
  seeded_beyond Done is past read = absurd (not_past words bytes is.file is.is past)
  seeded_beyond (Usage class) is past read = absurd is
  seeded_beyond ReadFault is past read = absurd (read is.1)
  seeded_beyond WriteFault is past read = absurd (not_past words bytes is.0.file is.0.is past)
  seeded_beyond (TooLarge limit) is past read = inl (ap TooLarge is.1.0)
  seeded_beyond (BadStream fault) is past read = absurd is
  seeded_beyond (Incomplete generation rank) is past read = absurd is
  seeded_beyond (Mismatch found) is past read = absurd is
  seeded_beyond Memory is past read = inr refl

module _ (new before now : Option (List ℕ)) (Unmoved Same Unread Unwritten Unheld : Type 0) (outcome : Outcome) where
  abbrev Ran : Option (List ℕ) → Result Command WordClass → Type 0
  Ran old said = IsRun old new before now Unmoved Same Unread Unwritten Unheld outcome said

  pub within_limit : (old : Option (List ℕ)) (said : Result Command WordClass) → Ran old said → IfSeed said (λ words. IfSome old (λ bytes. length bytes ≤ seed_limit words → ¬ Unread → ¬ Unwritten → (outcome.end ≡ Done) ⊎ (outcome.end ≡ Memory)))
  within_limit None (Ok (Seed words)) is = tt
  within_limit (Some bytes) (Ok (Seed words)) is = seeded_within words bytes before now Same Unread Unwritten Unheld outcome.end is.1
  within_limit old (Ok (Fetch words)) is = tt
  within_limit old (Ok (Relay words)) is = tt
  within_limit old (Err class) is = tt

  pub beyond_limit : (old : Option (List ℕ)) (said : Result Command WordClass) → Ran old said → IfSeed said (λ words. IfSome old (λ bytes. seed_limit words < length bytes → ¬ Unread → (outcome.end ≡ TooLarge (seed_limit words)) ⊎ (outcome.end ≡ Memory)))
  beyond_limit None (Ok (Seed words)) is = tt
  beyond_limit (Some bytes) (Ok (Seed words)) is = seeded_beyond words bytes before now Same Unread Unwritten Unheld outcome.end is.1
  beyond_limit old (Ok (Fetch words)) is = tt
  beyond_limit old (Ok (Relay words)) is = tt
  beyond_limit old (Err class) is = tt

  -- ---- fetch

  module _ (one : IncompleteLaw) (not_full : NotFullLaw) (sound : SoundLaw) (fault_law : FaultLaw) where
    pub full_rank : (old : Option (List ℕ)) (said : Result Command WordClass) → Ran old said → IfFetch said (λ words. IfSome old (λ bytes. (contents : Contents) → IsFetchable bytes contents → HasFullRank contents → ¬ Unread → ¬ Unwritten → (outcome.end ≡ Done) ⊎ (((found : List ℕ) × (outcome.end ≡ Mismatch found)) ⊎ (outcome.end ≡ Memory))))
    full_rank old (Ok (Seed words)) is = tt
    full_rank None (Ok (Fetch words)) is = tt
    full_rank (Some bytes) (Ok (Fetch words)) is = ends.full_rank one not_full sound fault_law words.receivers bytes before now outcome.trace Same Unread (HasReadSound (Some bytes) new) Unwritten Unheld outcome.end is.1
    full_rank old (Ok (Relay words)) is = tt
    full_rank old (Err class) is = tt

    pub low_rank : (old : Option (List ℕ)) (said : Result Command WordClass) → Ran old said → IfFetch said (λ words. IfSome old (λ bytes. (contents : Contents) (generation rank : ℕ) → IsFetchable bytes contents → IsFirstIncomplete contents generation rank → ¬ Unread → (outcome.end ≡ Incomplete generation rank) ⊎ (outcome.end ≡ Memory)))
    low_rank old (Ok (Seed words)) is = tt
    low_rank None (Ok (Fetch words)) is = tt
    low_rank (Some bytes) (Ok (Fetch words)) is = ends.low_rank one not_full sound fault_law words.receivers bytes before now outcome.trace Same Unread (HasReadSound (Some bytes) new) Unwritten Unheld outcome.end is.1
    low_rank old (Ok (Relay words)) is = tt
    low_rank old (Err class) is = tt

    pub unfetchable : (old : Option (List ℕ)) (said : Result Command WordClass) → Ran old said → IfReadsStream said (IfSome old (λ bytes. (fault : WireFault) → IsUnfetchable bytes fault → ¬ Unread → (outcome.end ≡ BadStream fault) ⊎ (outcome.end ≡ Memory)))
    unfetchable old (Ok (Seed words)) is = tt
    unfetchable None (Ok (Fetch words)) is = tt
    unfetchable (Some bytes) (Ok (Fetch words)) is = ends.unfetchable one not_full sound fault_law words.receivers bytes before now outcome.trace Same Unread (HasReadSound (Some bytes) new) Unwritten Unheld outcome.end is.1
    unfetchable None (Ok (Relay words)) is = tt
    unfetchable (Some bytes) (Ok (Relay words)) is = asked.unfetchable sound fault_law words bytes before now outcome.trace Same Unread (HasReadSound (Some bytes) new) Unwritten Unheld outcome.end is.1
    unfetchable old (Err class) is = tt

    pub too_long : (old : Option (List ℕ)) (said : Result Command WordClass) → Ran old said → IfReadsStream said (IfSome old (λ bytes. IsTooLong bytes → ¬ Unread → (outcome.end ≡ TooLarge stream_limit) ⊎ (outcome.end ≡ Memory)))
    too_long old (Ok (Seed words)) is = tt
    too_long None (Ok (Fetch words)) is = tt
    too_long (Some bytes) (Ok (Fetch words)) is = ends.too_long one not_full sound fault_law words.receivers bytes before now outcome.trace Same Unread (HasReadSound (Some bytes) new) Unwritten Unheld outcome.end is.1
    too_long None (Ok (Relay words)) is = tt
    too_long (Some bytes) (Ok (Relay words)) is = asked.too_long sound fault_law words bytes before now outcome.trace Same Unread (HasReadSound (Some bytes) new) Unwritten Unheld outcome.end is.1
    too_long old (Err class) is = tt

    -- a stream that is to be relayed
    pub relayed : (old : Option (List ℕ)) (said : Result Command WordClass) → Ran old said → IfRelay said (λ words. IfSome old (λ bytes. (contents : Contents) → IsFetchable bytes contents → ¬ Unread → ¬ Unwritten → (outcome.end ≡ Done) ⊎ (outcome.end ≡ Memory)))
    relayed old (Ok (Seed words)) is = tt
    relayed old (Ok (Fetch words)) is = tt
    relayed None (Ok (Relay words)) is = tt
    relayed (Some bytes) (Ok (Relay words)) is = asked.relayed sound fault_law words bytes before now outcome.trace Same Unread (HasReadSound (Some bytes) new) Unwritten Unheld outcome.end is.1
    relayed old (Err class) is = tt

    -- where the file of a legal trace is that of the blocks that the packets are true to
    abbrev pub SourceLaw : Type 0
    SourceLaw = (receivers : ℕ) (contents : Contents) (trace : Trace) (blocks : ℕ → List (List ℕ)) (file : List ℕ) → IsLegalFetch receivers contents trace → IsOnlyFileOf contents.manifest.shape (recorded_packets trace.bases.items) file → AreTrueTo contents blocks → file ≡ source_file contents.manifest.shape blocks

    pub true_packets : SourceLaw → (old : Option (List ℕ)) (said : Result Command WordClass) → Ran old said → IfFetch said (λ words. IfSome old (λ bytes. (contents : Contents) (blocks : ℕ → List (List ℕ)) (file : List ℕ) → IsFetchable bytes contents → HasFullRank contents → AreTrueTo contents blocks → file ≡ source_file contents.manifest.shape blocks → sha256 file ≡ contents.manifest.digest → ¬ Unread → ¬ Unwritten → ((outcome.end ≡ Done) × Appends before now file) ⊎ (outcome.end ≡ Memory)))
    true_packets law old (Ok (Seed words)) is = tt
    true_packets law None (Ok (Fetch words)) is = tt
    true_packets law (Some bytes) (Ok (Fetch words)) is =
        ends.true_packets one not_full sound fault_law words.receivers bytes before now outcome.trace Same Unread (HasReadSound (Some bytes) new) Unwritten Unheld (λ contents file blocks legal only true_to. law words.receivers contents outcome.trace blocks file legal only true_to) outcome.end is.1
    true_packets law old (Ok (Relay words)) is = tt
    true_packets law old (Err class) is = tt

    -- what is known of the streams that are seeded
    pub record SeededLaws : Type 0 where
      pub stream : (words : SeedWords) (file : List ℕ) → IsSeedable words file → IsStream (stream_of_seed words file) (contents_of_seed words file)
      pub within : (words : SeedWords) (file : List ℕ) → IsSeedable words file → words.coded ≡ 0 → length (stream_of_seed words file) ≤ 67108864
      pub rank : (words : SeedWords) (file : List ℕ) → IsSeedable words file → words.bare ≡ false → HasFullRank (contents_of_seed words file)
      pub truth : (words : SeedWords) (file : List ℕ) → IsSeedable words file → AreTrueTo (contents_of_seed words file) (generation_blocks_of (shape_of_seed words file) file)
      pub file : (words : SeedWords) (file : List ℕ) → IsSeedable words file → source_file (shape_of_seed words file) (generation_blocks_of (shape_of_seed words file) file) ≡ file

    -- a stream that was seeded is within the limit: it has no draws, or it is said to be
    seeded_within_limit : SeededLaws → (seed : SeedWords) (file bytes : List ℕ) → IsSeedable seed file → (seed.coded ≡ 0) ⊎ (length bytes ≤ stream_limit) → bytes ≡ stream_of_seed seed file → length (stream_of_seed seed file) ≤ stream_limit
    seeded_within_limit laws seed file bytes seedable (inl none) bytes_are = laws.within seed file seedable none
    seeded_within_limit laws seed file bytes seedable (inr within) bytes_are = subst (λ (b : List ℕ). length b ≤ stream_limit) bytes_are within

    pub seeded_stream : SourceLaw → SeededLaws → (old : Option (List ℕ)) (said : Result Command WordClass) → Ran old said → IfFetch said (λ words. IfSome old (λ bytes. (seed : SeedWords) (file : List ℕ) → IsSeedable seed file → seed.bare ≡ false → (seed.coded ≡ 0) ⊎ (length bytes ≤ stream_limit) → bytes ≡ stream_of_seed seed file → ¬ Unread → ¬ Unwritten → ((outcome.end ≡ Done) × Appends before now file) ⊎ (outcome.end ≡ Memory)))
    seeded_stream source laws old (Ok (Seed words)) is = tt
    seeded_stream source laws None (Ok (Fetch words)) is = tt
    seeded_stream source laws (Some bytes) (Ok (Fetch words)) is = λ seed file seedable whole small bytes_are read written.
        true_packets source (Some bytes) (Ok (Fetch words)) is (contents_of_seed seed file) (generation_blocks_of (shape_of_seed seed file) file) file
        (subst (λ (b : List ℕ). IsFetchable b (contents_of_seed seed file)) (sym bytes_are)
        (record { within = seeded_within_limit laws seed file bytes seedable small bytes_are; stream = laws.stream seed file seedable }))
        (laws.rank seed file seedable whole) (laws.truth seed file seedable) (sym (laws.file seed file seedable)) refl read written
    seeded_stream source laws old (Ok (Relay words)) is = tt
    seeded_stream source laws old (Err class) is = tt
