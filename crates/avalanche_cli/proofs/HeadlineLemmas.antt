-- From the end of a run and its legal trace to the headline.
use Rattle.std.proofs.Common.{◌⊎◌, inl, inr, ℕ, ◌<◌, List, length, get_or, refl, sym, subst, arith}
use Rattle.std.specs.Prelude.{Option, None, Some, Result, Ok, Err}
use Rattle.std.specs.List.{All}
use Rattle.std.specs.Io.KnownBytes.{Appends, Keeps}
use Rattle.sha2.specs.Sha256.{sha256}
use Rattle.std.proofs.lemmas.List.{take_all}
use Rattle.std.proofs.lemmas.List.Elements.{All-weaker}
use Rattle.swarm_io.specs.Moved.{AppendsPrefix}
use Rattle.linear_spec.specs.Packet.{Fits}
use Rattle.basis_core.specs.declared.trace.BasisTrace.{BasisTrace}
use Rattle.generation.specs.Shape.{generations_of, symbols_per_block}
use Rattle.packet_wire.specs.Stream.{Contents, IsPacket, IsStream}
use Rattle.shared_reception.specs.declared.sends.Sending.{Sending}
use Rattle.avalanche_args.specs.declared.command.Command.{Command}
use Rattle.avalanche_args.specs.declared.command.Command.TheVariants.{Seed, Fetch, Relay}
use Rattle.avalanche_args.specs.declared.command.RelayWords.{RelayWords}
use Rattle.avalanche_args.specs.declared.command.SeedWords.{SeedWords}
use Rattle.avalanche_args.specs.declared.usage.WordClass.{WordClass}
use Rattle.avalanche_cli.specs.Delivery.{AppendsSome}
use Rattle.avalanche_cli.specs.Fetch.{HasFile, HasReadSound, Holds, IsTraceOf}
use Rattle.avalanche_cli.specs.FetchSteps.{IsEnd}
use Rattle.avalanche_cli.specs.Headline.{DrawsLie, HasHistories, IsGiven, IsHeadline, IsHeadlineOfFetch, IsHeadlineOfRelay, IsOneHistory, IsSeeded, IsSent, LiesInFront}
use Rattle.avalanche_cli.specs.Packets.{equations_of}
use Rattle.avalanche_cli.specs.Relay.{IsKeptRelay, IsRelayEnd, Relays, sending_of, stream_of_relay}
use Rattle.avalanche_cli.specs.Run.{IsKeptFetch}
use Rattle.avalanche_cli.specs.RunSteps.{IsRun}
use Rattle.avalanche_cli.specs.Seed.{GivesStreamPrefix, IsSeedEnd, IsSeedFile, IsSeedable, stream_of_seed}
use Rattle.avalanche_cli.specs.Trace.{IsLegalBasis, IsLegalRelay, IsLegalTrace}
use Rattle.avalanche_cli.specs.declared.outcome.Outcome.{Outcome}
use Rattle.avalanche_cli.specs.declared.trace.Trace.{Trace}
use Rattle.avalanche_cli.specs.declared.end.End.{End}
use Rattle.avalanche_cli.specs.declared.end.End.TheVariants.{Done, Usage, ReadFault, WriteFault, TooLarge, BadStream, Incomplete, Mismatch, Memory}

-- ---- the laws that this rests on

-- a legal basis of packets that fit is one history
abbrev pub HistoryLaw : Type 0
HistoryLaw = (receivers : ℕ) (sending : Option Sending) (generation : ℕ) (contents : Contents) (basis : BasisTrace) → All (Fits contents.manifest.shape.k (symbols_per_block contents.manifest.shape)) contents.packets → IsLegalBasis (equations_of contents) receivers sending contents.packets generation basis → IsOneHistory (equations_of contents) receivers sending contents.packets generation basis

-- the packets that a legal relay sends lie in the spans of their fronts
abbrev pub SentLaw : Type 0
SentLaw = (bytes : List ℕ) (words : RelayWords) (contents : Contents) (trace : Trace) → IsStream bytes contents → IsLegalRelay words.receivers (sending_of words) contents trace → All (LiesInFront contents.manifest.shape (sending_of words).key trace.bases.items) trace.sends.items

-- the draws of a seed lie in the spans of their blocks' packets
abbrev pub DrawnLaw : Type 0
DrawnLaw = (words : SeedWords) (file : List ℕ) → IsSeedable words file → DrawsLie words file

-- ---- what is written

-- what is as it was keeps its bytes
pub keeps_itself : (told : Option (List ℕ)) → Keeps told told
keeps_itself None = tt
keeps_itself (Some bytes) = refl

whole_prefix : (before now : Option (List ℕ)) (bytes : List ℕ) → Appends before now bytes → AppendsPrefix before now bytes
whole_prefix before now bytes gained = (length bytes, omega arith, subst (Appends before now) (sym (take_all (length bytes) bytes (omega arith))) gained)

some_prefix : (before now : Option (List ℕ)) (bytes : List ℕ) → AppendsSome before now bytes → AppendsPrefix before now bytes
some_prefix before now bytes some = (some.0, some.1.1.0, some.1.1.1)

-- ---- a stream that was received

module _ (law : HistoryLaw) (receivers : ℕ) (sending : Option Sending) (input : Option (List ℕ)) (trace : Trace) where
  histories : (contents : Contents) (Written : Contents → Type 0) → Holds input contents → IsLegalTrace receivers sending contents trace → Written contents → HasHistories receivers sending input trace Written
  histories contents Written holds legal written = record {
    contents = contents;
    holds = holds;
    count = legal.count;
    histories = λ generation other low.
        let below : generation < generations_of contents.manifest.shape = subst (λ (n : ℕ). generation < n) legal.count low in
        let shape = contents.manifest.shape in
        law receivers sending generation contents (get_or trace.bases.items generation other)
        (All-weaker (IsPacket shape) (Fits shape.k (symbols_per_block shape)) (λ p it. it.fits) contents.packets holds.fetchable.stream.packets)
        (legal.bases generation other below);
    sends = legal.sends;
    written = written;
  }

-- ---- a fetch

module _ (law : HistoryLaw) (receivers : ℕ) (input : Option (List ℕ)) (trace : Trace) where
  given : (file : List ℕ) (Gained : List ℕ → Type 0) → HasFile receivers input trace (sha256 file) file → Gained file → HasHistories receivers None input trace (IsGiven trace Gained)
  given file Gained has gained =
      histories law receivers None input trace has.contents (IsGiven trace Gained) has.holds has.legal
      (record { file = file; solves = has.is_file; digest = sym has.digest_is; gained = gained })

  module _ (before now : Option (List ℕ)) (Same Unread Sound Unwritten Unheld : Type 0) (unmoved : Same → Keeps before now) where
    refused : IsTraceOf receivers input trace → Keeps before now → HasHistories receivers None input trace (λ _. Keeps before now)
    refused is keeps = histories law receivers None input trace is.contents (λ _. Keeps before now) is.holds is.legal keeps

    fetched : (end : End) → IsEnd receivers input trace before now Same Unread Sound Unwritten Unheld end → IsKeptFetch receivers end input trace → IsHeadlineOfFetch receivers input before now trace end
    fetched Done is kept = given is.file (Appends before now) is.has is.gained
    fetched (Usage class) is kept = absurd is
    fetched ReadFault is kept = (kept, unmoved is.0)
    fetched WriteFault is kept = given is.0.file (AppendsPrefix before now) is.0.has is.0.gained
    fetched (TooLarge limit) is kept = (kept, unmoved is.0)
    fetched (BadStream fault) is kept = (kept, unmoved is.0)
    fetched (Incomplete generation rank) is kept = refused kept (unmoved is.0)
    fetched (Mismatch found) is kept = refused kept (unmoved is.0)
    fetched Memory (inl (empty, inl same)) kept = inl (empty, unmoved same)
    fetched Memory (inl (empty, inr keeps)) kept = inl (empty, keeps.0)
    fetched Memory (inr some) kept = inr (given some.0.file (AppendsPrefix before now) some.0.has (some_prefix before now some.0.file some.0.gained))

-- ---- a relay

module _ (law : HistoryLaw) (sent_law : SentLaw) (words : RelayWords) (input : Option (List ℕ)) (trace : Trace) where
  sent : (Gained Wanted : List ℕ → Type 0) → Relays words input trace Gained → ((stream : List ℕ) → Gained stream → Wanted stream) → HasHistories words.receivers (Some (sending_of words)) input trace (IsSent words trace Wanted)
  sent Gained Wanted is enough =
      histories law words.receivers (Some (sending_of words)) input trace is.contents (IsSent words trace Wanted) is.holds is.legal
      (record {
        lie = sent_law is.holds.bytes words is.contents trace is.holds.fetchable.stream is.legal;
        gained = enough (stream_of_relay words is.contents trace) is.gained;
      })

  module _ (before now : Option (List ℕ)) (Same Unread Sound Unwritten Unheld : Type 0) (unmoved : Same → Keeps before now) where
    relayed : (end : End) → IsRelayEnd words input trace before now Same Unread Sound Unwritten Unheld end → IsKeptRelay words end input trace → IsHeadlineOfRelay words input before now trace end
    relayed Done is kept = sent (Appends before now) (Appends before now) is (λ _ gained. gained)
    relayed (Usage class) is kept = absurd is
    relayed ReadFault is kept = (kept, unmoved is.0)
    relayed WriteFault is kept = sent (AppendsPrefix before now) (AppendsPrefix before now) is.0 (λ _ gained. gained)
    relayed (TooLarge limit) is kept = (kept, unmoved is.0)
    relayed (BadStream fault) is kept = (kept, unmoved is.0)
    relayed (Incomplete generation rank) is kept = absurd is
    relayed (Mismatch found) is kept = absurd is
    relayed Memory (inl (empty, inl same)) kept = inl (empty, unmoved same)
    relayed Memory (inl (empty, inr keeps)) kept = inl (empty, keeps.0)
    relayed Memory (inr some) kept = inr (sent (AppendsSome before now) (AppendsPrefix before now) some.0 (some_prefix before now))

-- ---- a seed

module _ (drawn : DrawnLaw) (words : SeedWords) (input before now : Option (List ℕ)) where
  given_stream : (file : List ℕ) → IsSeedFile words input file → AppendsPrefix before now (stream_of_seed words file) → IsSeeded words input before now
  given_stream file is gained = record { file = file; is = is; lie = drawn words file is.seedable; gained = gained }

  given_prefix : GivesStreamPrefix words input before now → IsSeeded words input before now
  given_prefix is = given_stream is.file is.is is.gained

  module _ (Same Unread Unwritten Unheld : Type 0) (unmoved : Same → Keeps before now) where
    seeded : (end : End) → IsSeedEnd words input before now Same Unread Unwritten Unheld end → Keeps before now ⊎ IsSeeded words input before now
    seeded Done is = inr (given_stream is.file is.is (whole_prefix before now (stream_of_seed words is.file) is.gained))
    seeded (Usage class) is = absurd is
    seeded ReadFault is = inl (unmoved is.0)
    seeded WriteFault is = inr (given_prefix is.0)
    seeded (TooLarge limit) is = inl (unmoved is.0)
    seeded (BadStream fault) is = absurd is
    seeded (Incomplete generation rank) is = absurd is
    seeded (Mismatch found) is = absurd is
    seeded Memory (inl same) = inl (unmoved same)
    seeded Memory (inr some) = inr (given_prefix some.0)

-- ---- the whole

pub headline : HistoryLaw → SentLaw → DrawnLaw → (old new before now : Option (List ℕ)) (Unmoved Same Unread Unwritten Unheld : Type 0) (outcome : Outcome) (said : Result Command WordClass) → (Same → Keeps before now) → IsRun old new before now Unmoved Same Unread Unwritten Unheld outcome said → IsHeadline said old before now outcome.end outcome.trace
headline law sent_law drawn old new before now Unmoved Same Unread Unwritten Unheld outcome (Ok (Seed words)) unmoved is =
    (is.0, seeded drawn words old before now Same Unread Unwritten Unheld unmoved outcome.end is.1)
headline law sent_law drawn old new before now Unmoved Same Unread Unwritten Unheld outcome (Ok (Fetch words)) unmoved is =
    fetched law words.receivers old outcome.trace before now Same Unread (HasReadSound old new) Unwritten Unheld unmoved outcome.end is.1 is.0
headline law sent_law drawn old new before now Unmoved Same Unread Unwritten Unheld outcome (Ok (Relay words)) unmoved is =
    relayed law sent_law words old outcome.trace before now Same Unread (HasReadSound old new) Unwritten Unheld unmoved outcome.end is.1 is.0
headline law sent_law drawn old new before now Unmoved Same Unread Unwritten Unheld outcome (Err class) unmoved is = (is.trace, unmoved is.output)
