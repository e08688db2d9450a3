-- What an input tells of the end of a fetch: for each input that tells its bytes one end is left, unless a fault came or
-- memory was wanted.
use Rattle.std.proofs.Common.{◌≡◌, ℕ, ◌<◌, ◌≤◌, List, length, take, refl, subst, sym, ap, ◌∙◌, ◌⊎◌, inl, inr, arith}
use Rattle.std.specs.Prelude.{Option, Some}
use Rattle.std.specs.Io.KnownBytes.{Appends}
use Rattle.std.proofs.lemmas.List.{take_all}
use Rattle.sha2.specs.Sha256.{sha256}
use Rattle.packet_wire.specs.Stream.{Contents, IsStream}
use Rattle.packet_wire.specs.Faults.{IsFirstFault}
use Rattle.packet_wire.specs.declared.fault.WireFault.{WireFault}
use Rattle.avalanche_cli.specs.Fetch.{HasFile, Holds, IsFetchable, IsTooLong, IsUnfetchable, stream_limit}
use Rattle.avalanche_cli.specs.FetchSteps.{IsEnd}
use Rattle.avalanche_cli.specs.Files.{IsFirstIncomplete, IsOnlyFileOf, recorded_packets, source_file}
use Rattle.avalanche_cli.specs.Packets.{AreTrueTo, HasFullRank}
use Rattle.avalanche_cli.specs.Trace.{IsLegalFetch}
use Rattle.avalanche_cli.specs.declared.trace.Trace.{Trace}
use Rattle.avalanche_cli.specs.declared.end.End.{End}
use Rattle.avalanche_cli.specs.declared.end.End.TheVariants.{Done, Usage, ReadFault, WriteFault, TooLarge, BadStream, Incomplete, Mismatch, Memory}

-- ---- the laws that this rests on

-- the first generation that lacks rank is one, with one rank
abbrev pub IncompleteLaw : Type 0
IncompleteLaw = (contents : Contents) (generation rank other its : ℕ) → IsFirstIncomplete contents generation rank → IsFirstIncomplete contents other its → (other ≡ generation) × (its ≡ rank)

-- and where all have full rank there is none
abbrev pub NotFullLaw : Type 0
NotFullLaw = (contents : Contents) (generation rank : ℕ) → IsFirstIncomplete contents generation rank → ¬ HasFullRank contents

-- a stream has no fault
abbrev pub SoundLaw : Type 0
SoundLaw = (bytes : List ℕ) (contents : Contents) (fault : WireFault) → IsStream bytes contents → IsFirstFault bytes fault → ⊥

-- bytes have one first fault
abbrev pub FaultLaw : Type 0
FaultLaw = (bytes : List ℕ) (fault other : WireFault) → IsFirstFault bytes fault → IsFirstFault bytes other → fault ≡ other

-- ---- what an input has just one of

pub same_contents : (bytes : List ℕ) (contents other : Contents) → Holds (Some bytes) contents → IsFetchable bytes other → other ≡ contents
same_contents bytes contents other holds fetchable = holds.only other (subst (λ (b : List ℕ). IsFetchable b other) holds.told fetchable)

pub fetchable_of : (bytes : List ℕ) (contents : Contents) → Holds (Some bytes) contents → IsFetchable bytes contents
fetchable_of bytes contents holds = subst (λ (b : List ℕ). IsFetchable b contents) (sym holds.told) holds.fetchable

-- a stream is not too long
pub not_both : (bytes : List ℕ) (contents : Contents) → IsFetchable bytes contents → IsTooLong bytes → ⊥
not_both bytes contents fetchable long =
    let within : length bytes ≤ stream_limit = fetchable.within in
    let longer : stream_limit < length bytes = long.longer in
    omega arith

-- and bytes with a fault within the limit are not too long
pub not_too_long : (bytes : List ℕ) (fault : WireFault) → IsUnfetchable bytes fault → IsTooLong bytes → ⊥
not_too_long bytes fault unfetchable long =
    let within : length bytes ≤ stream_limit = unfetchable.whole (long.sound fault unfetchable.first) in
    let longer : stream_limit < length bytes = long.longer in
    omega arith

module _ (sound : SoundLaw) where
  pub not_sound : (bytes : List ℕ) (contents : Contents) (fault : WireFault) → IsFetchable bytes contents → IsUnfetchable bytes fault → ⊥
  not_sound bytes contents fault fetchable unfetchable =
      sound bytes contents fault fetchable.stream (subst (λ (b : List ℕ). IsFirstFault b fault) (take_all stream_limit bytes fetchable.within) unfetchable.first)

same_lacking : IncompleteLaw → (contents : Contents) (generation rank other its : ℕ) → IsFirstIncomplete contents generation rank → IsFirstIncomplete contents other its → Incomplete generation rank ≡ Incomplete other its
same_lacking law contents generation rank other its lacks also =
    let same = law contents generation rank other its lacks also in
    ap (λ (g : ℕ). Incomplete g rank) (sym same.0) ∙ ap (λ (r : ℕ). Incomplete other r) (sym same.1)

-- ---- the end that is left

module _ (one : IncompleteLaw) (not_full_law : NotFullLaw) (sound : SoundLaw) (fault_law : FaultLaw) (receivers : ℕ) (bytes : List ℕ) (before now : Option (List ℕ)) (trace : Trace) (Same Unread Sound Unwritten Unheld : Type 0) where
  abbrev Ends : End → Type 0
  Ends end = IsEnd receivers (Some bytes) trace before now Same Unread Sound Unwritten Unheld end

  -- a stream that has full rank
  pub full_rank : (end : End) → Ends end → (contents : Contents) → IsFetchable bytes contents → HasFullRank contents → ¬ Unread → ¬ Unwritten → (end ≡ Done) ⊎ (((found : List ℕ) × (end ≡ Mismatch found)) ⊎ (end ≡ Memory))
  full_rank Done is contents fetchable full read written = inl refl
  full_rank (Usage class) is contents fetchable full read written = absurd is
  full_rank ReadFault is contents fetchable full read written = absurd (read is.1.0)
  full_rank WriteFault is contents fetchable full read written = absurd (written is.1)
  full_rank (TooLarge limit) is contents fetchable full read written = absurd (not_both bytes contents fetchable is.1.1)
  full_rank (BadStream fault) is contents fetchable full read written = absurd (not_sound sound bytes contents fault fetchable is.1)
  full_rank (Incomplete generation rank) is contents fetchable full read written =
      let same = same_contents bytes is.1.contents contents is.1.holds fetchable in
      absurd (not_full_law is.1.contents generation rank is.1.lacks (subst HasFullRank same full))
  full_rank (Mismatch found) is contents fetchable full read written = inr (inl (found, refl))
  full_rank Memory is contents fetchable full read written = inr (inr refl)

  -- a stream of which a generation lacks rank
  not_full : (contents : Contents) (generation rank : ℕ) (digest file : List ℕ) → IsFetchable bytes contents → IsFirstIncomplete contents generation rank → HasFile receivers (Some bytes) trace digest file → ⊥
  not_full contents generation rank digest file fetchable lacks has =
      let same = same_contents bytes has.contents contents has.holds fetchable in
      not_full_law has.contents generation rank (subst (λ (c : Contents). IsFirstIncomplete c generation rank) same lacks) has.full

  pub low_rank : (end : End) → Ends end → (contents : Contents) (generation rank : ℕ) → IsFetchable bytes contents → IsFirstIncomplete contents generation rank → ¬ Unread → (end ≡ Incomplete generation rank) ⊎ (end ≡ Memory)
  low_rank Done is contents generation rank fetchable lacks read = absurd (not_full contents generation rank (sha256 is.file) is.file fetchable lacks is.has)
  low_rank (Usage class) is contents generation rank fetchable lacks read = absurd is
  low_rank ReadFault is contents generation rank fetchable lacks read = absurd (read is.1.0)
  low_rank WriteFault is contents generation rank fetchable lacks read = absurd (not_full contents generation rank (sha256 is.0.file) is.0.file fetchable lacks is.0.has)
  low_rank (TooLarge limit) is contents generation rank fetchable lacks read = absurd (not_both bytes contents fetchable is.1.1)
  low_rank (BadStream fault) is contents generation rank fetchable lacks read = absurd (not_sound sound bytes contents fault fetchable is.1)
  low_rank (Incomplete other more) is contents generation rank fetchable lacks read =
      let same = same_contents bytes is.1.contents contents is.1.holds fetchable in
      inl (same_lacking one is.1.contents other more generation rank is.1.lacks (subst (λ (c : Contents). IsFirstIncomplete c generation rank) same lacks))
  low_rank (Mismatch found) is contents generation rank fetchable lacks read = absurd (not_full contents generation rank is.1.digest is.1.file fetchable lacks is.1.has)
  low_rank Memory is contents generation rank fetchable lacks read = inr refl

  -- bytes that are no stream
  pub unfetchable : (end : End) → Ends end → (fault : WireFault) → IsUnfetchable bytes fault → ¬ Unread → (end ≡ BadStream fault) ⊎ (end ≡ Memory)
  unfetchable Done is fault un read = absurd (not_sound sound bytes is.has.contents fault (fetchable_of bytes is.has.contents is.has.holds) un)
  unfetchable (Usage class) is fault un read = absurd is
  unfetchable ReadFault is fault un read = absurd (read is.1.0)
  unfetchable WriteFault is fault un read = absurd (not_sound sound bytes is.0.has.contents fault (fetchable_of bytes is.0.has.contents is.0.has.holds) un)
  unfetchable (TooLarge limit) is fault un read = absurd (not_too_long bytes fault un is.1.1)
  unfetchable (BadStream other) is fault un read = inl (ap BadStream (fault_law (take stream_limit bytes) other fault is.1.first un.first))
  unfetchable (Incomplete generation rank) is fault un read = absurd (not_sound sound bytes is.1.contents fault (fetchable_of bytes is.1.contents is.1.holds) un)
  unfetchable (Mismatch found) is fault un read = absurd (not_sound sound bytes is.1.has.contents fault (fetchable_of bytes is.1.has.contents is.1.has.holds) un)
  unfetchable Memory is fault un read = inr refl

  -- bytes past the limit
  pub too_long : (end : End) → Ends end → IsTooLong bytes → ¬ Unread → (end ≡ TooLarge stream_limit) ⊎ (end ≡ Memory)
  too_long Done is long read = absurd (not_both bytes is.has.contents (fetchable_of bytes is.has.contents is.has.holds) long)
  too_long (Usage class) is long read = absurd is
  too_long ReadFault is long read = absurd (read is.1.0)
  too_long WriteFault is long read = absurd (not_both bytes is.0.has.contents (fetchable_of bytes is.0.has.contents is.0.has.holds) long)
  too_long (TooLarge limit) is long read = inl (ap TooLarge is.1.0)
  too_long (BadStream fault) is long read = absurd (not_too_long bytes fault is.1 long)
  too_long (Incomplete generation rank) is long read = absurd (not_both bytes is.1.contents (fetchable_of bytes is.1.contents is.1.holds) long)
  too_long (Mismatch found) is long read = absurd (not_both bytes is.1.has.contents (fetchable_of bytes is.1.has.contents is.1.has.holds) long)
  too_long Memory is long read = inr refl

  -- a stream whose packets are true to a file
  abbrev SourceLaw : Type 0
  SourceLaw = (contents : Contents) (file : List ℕ) (blocks : ℕ → List (List ℕ)) → IsLegalFetch receivers contents trace → IsOnlyFileOf contents.manifest.shape (recorded_packets trace.bases.items) file → AreTrueTo contents blocks → file ≡ source_file contents.manifest.shape blocks

  source_is : SourceLaw → (contents : Contents) (blocks : ℕ → List (List ℕ)) (digest file : List ℕ) → IsFetchable bytes contents → AreTrueTo contents blocks → HasFile receivers (Some bytes) trace digest file → (source_file contents.manifest.shape blocks ≡ file) × (contents.manifest.digest ≡ digest)
  source_is law contents blocks digest file fetchable true_to has =
      let same = same_contents bytes has.contents contents has.holds fetchable in
      let true_there = subst (λ (c : Contents). AreTrueTo c blocks) same true_to in
      (ap (λ (c : Contents). source_file c.manifest.shape blocks) same ∙ sym (law has.contents file blocks has.legal has.is_file true_there), ap (λ (c : Contents). c.manifest.digest) same ∙ has.digest_is)

  pub true_packets : SourceLaw → (end : End) → Ends end → (contents : Contents) (blocks : ℕ → List (List ℕ)) (file : List ℕ) → IsFetchable bytes contents → HasFullRank contents → AreTrueTo contents blocks → file ≡ source_file contents.manifest.shape blocks → sha256 file ≡ contents.manifest.digest → ¬ Unread → ¬ Unwritten → ((end ≡ Done) × Appends before now file) ⊎ (end ≡ Memory)
  true_packets law Done is contents blocks file fetchable full true_to file_is matches read written =
      let both = source_is law contents blocks (sha256 is.file) is.file fetchable true_to is.has in
      inl (refl, subst (λ (l : List ℕ). Appends before now l) (sym (file_is ∙ both.0)) is.gained)
  true_packets law (Usage class) is contents blocks file fetchable full true_to file_is matches read written = absurd is
  true_packets law ReadFault is contents blocks file fetchable full true_to file_is matches read written = absurd (read is.1.0)
  true_packets law WriteFault is contents blocks file fetchable full true_to file_is matches read written = absurd (written is.1)
  true_packets law (TooLarge limit) is contents blocks file fetchable full true_to file_is matches read written = absurd (not_both bytes contents fetchable is.1.1)
  true_packets law (BadStream fault) is contents blocks file fetchable full true_to file_is matches read written = absurd (not_sound sound bytes contents fault fetchable is.1)
  true_packets law (Incomplete generation rank) is contents blocks file fetchable full true_to file_is matches read written =
      let same = same_contents bytes is.1.contents contents is.1.holds fetchable in
      absurd (not_full_law is.1.contents generation rank is.1.lacks (subst HasFullRank same full))
  true_packets law (Mismatch found) is contents blocks file fetchable full true_to file_is matches read written =
      let both = source_is law contents blocks is.1.digest is.1.file fetchable true_to is.1.has in
      absurd (is.1.differs (is.1.found_is ∙ ap sha256 (sym (file_is ∙ both.0)) ∙ matches ∙ both.1))
  true_packets law Memory is contents blocks file fetchable full true_to file_is matches read written = inr refl
