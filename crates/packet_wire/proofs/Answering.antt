-- What the answers of a decoder say.
use Rattle.std.proofs.Common.{◌≡◌, ◌⊎◌, ◌≢◌, ◌↔◌, ℕ, List, [], ◌++◌, length, Option, Result, Some, None, Ok, Err, OnOk, IsErrOf, refl, ap, sym, subst, ◌∙◌, arith, inl, inr}
use Rattle.std.proofs.lemmas.List.{length-append}
use Rattle.linear_spec.specs.SymbolLaws.{SymbolLaws}
use Rattle.packet_wire.specs.declared.decoder.Decoder.{Decoder}
use Rattle.packet_wire.specs.declared.fault.FaultKind.TheVariants as kinds
use Rattle.packet_wire.specs.declared.fault.FeedError.{FeedError}
use Rattle.packet_wire.specs.declared.fault.FeedError.TheVariants.{Fault, Memory}
use Rattle.packet_wire.specs.declared.fault.WireFault.{WireFault}
use Rattle.packet_wire.specs.declared.frame.Frame.{Frame}
use Rattle.packet_wire.specs.declared.phase.Phase.TheVariants.{BeforeManifest, Ended}
use Rattle.packet_wire.specs.Stream.{Contents, IsStream}
use Rattle.packet_wire.specs.Frames.{frames_spelling}
use Rattle.packet_wire.specs.Faults.{FailsAfter, HasFailing, IsFirstFault, IsPartOfFrame, IsRead, NothingFails}
use Rattle.packet_wire.specs.Decoding.{AreStreamFrames, FailsIn, HasFailed, IfFault, IsAfter, IsAfterAt, IsFed, IsOutOfMemory, IsReading, NothingFailsIn, ReadsOn, UnlessMemory, answer_of, taken_by}
use Rattle.packet_wire.proofs.Feeding.{reading_at}
use Rattle.packet_wire.proofs.Readings.{not_both, one_reading}
use Rattle.packet_wire.proofs.Steps.{nothing_fails_in_nothing, nothing_is_part}
use Rattle.packet_wire.proofs.Streams.{one_failing, one_first_fault, read_is_stream, stream_or_fault}

-- ---- what a decoder is after, by its failure

failing_at : (d : Decoder) (fed : List ℕ) (given : List Frame) (fault : WireFault) → d.failure ≡ Some (Fault fault) → IsAfter d fed given → FailsAfter fed given fault
failing_at d fed given fault is after = subst (λ (failure : Option FeedError). IsAfterAt failure d fed given) is after

not_after_memory : (d : Decoder) (fed : List ℕ) (given : List Frame) → d.failure ≡ Some Memory → IsAfter d fed given → ⊥
not_after_memory d fed given is after = subst (λ (failure : Option FeedError). IsAfterAt failure d fed given) is after

-- where a judgement fails, it is at that fault
is_at_fault : SymbolLaws → (d : Decoder) (fed : List ℕ) (given : List Frame) (fault : WireFault) (failure : Option FeedError) → d.failure ≡ failure → IsAfter d fed given → HasFailing fed fault → d.failure ≡ Some (Fault fault)
is_at_fault laws d fed given fault None is after failing =
    let reading = reading_at d fed given is after in
    absurd (not_both laws BeforeManifest fed given failing.0 d.held.items failing.1.0 tt reading.read failing.1.1)
is_at_fault laws d fed given fault (Some (Fault other)) is after failing =
    let one = one_failing laws fed given failing.0 other fault (failing_at d fed given other is after) failing.1 in
    is ∙ ap (λ (f : WireFault). Some (Fault f)) one.1
is_at_fault laws d fed given fault (Some Memory) is after failing = absurd (not_after_memory d fed given is after)

-- ---- a call that feeds

pub unless_memory : (failure : Option FeedError) (result : Result (Unit {0}) FeedError) (P : Type 0) → result ≡ answer_of failure → ((failure ≡ Some Memory → ⊥) → P) → UnlessMemory result P
unless_memory failure result P is fact =
    subst (λ (r : Result (Unit {0}) FeedError). UnlessMemory r P) (sym is) (by_cases failure refl)
  where
    by_cases : (f : Option FeedError) → failure ≡ f → UnlessMemory (answer_of f) P
    by_cases None at = fact (λ memory. absurd (let w : None ≡ Some Memory = sym at ∙ memory in cc))
    by_cases (Some (Fault fault)) at = fact (λ memory. absurd (let w : Some (Fault fault) ≡ Some Memory = sym at ∙ memory in cc))
    by_cases (Some Memory) at = tt

pub nothing_fails_in : SymbolLaws → (before : Decoder) (piece : List ℕ) (after : Decoder) (fs fs' : List Frame) (result : Result (Unit {0}) FeedError) → IsFed before piece after fs fs' → result ≡ answer_of after.failure → OnOk result (NothingFailsIn before piece)
nothing_fails_in laws before piece after fs fs' result fed-is is =
    subst (λ (r : Result (Unit {0}) FeedError). OnOk r (NothingFailsIn before piece)) (sym is) (by_cases after.failure refl)
  where
    by_cases : (f : Option FeedError) → after.failure ≡ f → OnOk (answer_of f) (NothingFailsIn before piece)
    by_cases None at = λ fed given fault after-fed failing.
        let no-memory : ¬ IsOutOfMemory after = λ memory. absurd (let w : None ≡ Some Memory = sym at ∙ memory in cc) in
        let on = fed-is.goes_on no-memory fed given fed-is.grown.0 after-fed fed-is.grown.1 in
        let reading = reading_at after (fed ++ piece) (given ++ fed-is.grown.0) at on in
        not_both laws BeforeManifest (fed ++ piece) (given ++ fed-is.grown.0) failing.0 after.held.items failing.1.0 tt reading.read failing.1.1
    by_cases (Some error) at = tt

pub reads_on : (before : Decoder) (piece : List ℕ) (after : Decoder) (fs fs' : List Frame) (result : Result (Unit {0}) FeedError) → IsFed before piece after fs fs' → result ≡ answer_of after.failure → OnOk result (ReadsOn before piece fs fs')
reads_on before piece after fs fs' result fed-is is =
    subst (λ (r : Result (Unit {0}) FeedError). OnOk r (ReadsOn before piece fs fs')) (sym is) (by_cases after.failure refl)
  where
    by_cases : (f : Option FeedError) → after.failure ≡ f → OnOk (answer_of f) (ReadsOn before piece fs fs')
    by_cases None at = λ fed given more after-fed grown.
        let no-memory : ¬ IsOutOfMemory after = λ memory. absurd (let w : None ≡ Some Memory = sym at ∙ memory in cc) in
        let reading = reading_at after (fed ++ piece) (given ++ more) at (fed-is.goes_on no-memory fed given more after-fed grown) in
        (after.held.items, reading.read)
    by_cases (Some error) at = tt

pub fails_in : (before : Decoder) (piece : List ℕ) (after : Decoder) (fs fs' : List Frame) (result : Result (Unit {0}) FeedError) → IsFed before piece after fs fs' → result ≡ answer_of after.failure → IfFault result (FailsIn before piece fs fs')
fails_in before piece after fs fs' result fed-is is =
    subst (λ (r : Result (Unit {0}) FeedError). IfFault r (FailsIn before piece fs fs')) (sym is) (by_cases after.failure refl)
  where
    by_cases : (f : Option FeedError) → after.failure ≡ f → IfFault (answer_of f) (FailsIn before piece fs fs')
    by_cases None at = tt
    by_cases (Some Memory) at = tt
    by_cases (Some (Fault fault)) at = λ fed given more after-fed grown.
        let no-memory : ¬ IsOutOfMemory after = λ memory. absurd (let w : Some (Fault fault) ≡ Some Memory = sym at ∙ memory in cc) in
        failing_at after (fed ++ piece) (given ++ more) fault at (fed-is.goes_on no-memory fed given more after-fed grown)

pub stays_at_fault : SymbolLaws → (before : Decoder) (piece : List ℕ) (after : Decoder) (fs fs' : List Frame) (result : Result (Unit {0}) FeedError) → IsFed before piece after fs fs' → result ≡ answer_of after.failure → (fault : WireFault) → HasFailed before fault → IsErrOf result (Fault fault) × (fs' ≡ fs)
stays_at_fault laws before piece after fs fs' result fed-is is fault failed =
    let at = is_at_fault laws before failed.0 failed.1 fault before.failure refl failed.2 (failed.1, failed.3) in
    let kept = fed-is.kept (Fault fault) at in
    (is ∙ ap answer_of kept.0, kept.1)

pub stays_out : (before : Decoder) (piece : List ℕ) (after : Decoder) (fs fs' : List Frame) (result : Result (Unit {0}) FeedError) → IsFed before piece after fs fs' → result ≡ answer_of after.failure → IsOutOfMemory before → IsErrOf result Memory × (fs' ≡ fs)
stays_out before piece after fs fs' result fed-is is out =
    let kept = fed-is.kept Memory out in
    (is ∙ ap answer_of kept.0, kept.1)

pub out_of_memory : (after : Decoder) (result : Result (Unit {0}) FeedError) → result ≡ answer_of after.failure → IsErrOf result Memory → IsOutOfMemory after
out_of_memory after result is memory =
    by_cases after.failure refl
  where
    by_cases : (f : Option FeedError) → after.failure ≡ f → IsOutOfMemory after
    by_cases None at = absurd (let w : Ok tt ≡ Err Memory = ap answer_of (sym at) ∙ sym is ∙ memory in cc)
    by_cases (Some error) at =
        let w : Err error ≡ Err Memory = ap answer_of (sym at) ∙ sym is ∙ memory in
        let same : error ≡ Memory = cc in
        at ∙ ap (λ (e : FeedError). Some e) same

-- ---- a new decoder

pub after_nothing : (d : Decoder) → d.failure ≡ None → d.phase ≡ BeforeManifest → d.start ≡ 0 → d.held.items ≡ [] → IsAfter d [] []
after_nothing d failure phase start held =
    let now : IsReading d [] [] = record {
      read = record {
        in_order = tt;
        spelled = sym held;
        nothing_fails = subst (λ (s : List ℕ). NothingFails BeforeManifest s) (sym held) (nothing_fails_in_nothing BeforeManifest);
        part = subst IsPartOfFrame (sym held) nothing_is_part;
      };
      phase_is = phase;
      start_is = start;
    } in
    subst (λ (f : Option FeedError). IsAfterAt f d [] []) (sym failure) now

-- ---- the end of the input

-- it failed
pub failed_stream : SymbolLaws → (d : Decoder) (error : FeedError) → d.failure ≡ Some error → (fed : List ℕ) (given : List Frame) (contents : Contents) → IsAfter d fed given → IsStream fed contents → ⊥
failed_stream laws d (Fault fault) is fed given contents after stream =
    stream_or_fault laws fed contents fault stream (inl (given, failing_at d fed given fault is after))
failed_stream laws d Memory is fed given contents after stream = not_after_memory d fed given is after

pub failed_fault : SymbolLaws → (d : Decoder) (error : FeedError) → d.failure ≡ Some error → (fed : List ℕ) (given : List Frame) (fault : WireFault) → IsAfter d fed given → (error ≡ Fault fault) ↔ IsFirstFault fed fault
failed_fault laws d (Fault other) is fed given fault after =
    let at : IsFirstFault fed other = inl (given, failing_at d fed given other is after) in (
      λ same. let faults : other ≡ fault = cc in subst (λ (f : WireFault). IsFirstFault fed f) faults at,
      λ first. ap Fault (one_first_fault laws fed other fault at first),
    )
failed_fault laws d Memory is fed given fault after = absurd (not_after_memory d fed given is after)

-- it read up to the end
pub ended_stream : (d : Decoder) → d.failure ≡ None → d.phase ≡ Ended → (fed : List ℕ) (given : List Frame) → IsAfter d fed given → AreStreamFrames fed given
ended_stream d failure phase fed given after =
    let reading = reading_at d fed given failure after in
    read_is_stream fed given d.held.items reading.read (sym reading.phase_is ∙ phase)

pub ended_fault : SymbolLaws → (d : Decoder) → d.failure ≡ None → d.phase ≡ Ended → (fed : List ℕ) (given : List Frame) (fault : WireFault) → IsAfter d fed given → IsFirstFault fed fault → ⊥
ended_fault laws d failure phase fed given fault after first =
    let stream = ended_stream d failure phase fed given after in
    stream_or_fault laws fed stream.0 fault stream.1 first

-- or not so far
pub short_fault : (d : Decoder) → d.failure ≡ None → d.phase ≢ Ended → (fed : List ℕ) (given : List Frame) → IsAfter d fed given → IsFirstFault fed (record { offset = taken_by d; kind = kinds.Truncated })
short_fault d failure phase fed given after =
    let reading = reading_at d fed given failure after in
    let count : taken_by d ≡ length fed = omega (arith, reading.start_is, d.held.ok.0, ap length reading.read.spelled, length-append (frames_spelling given) d.held.items) in
    inr (given, d.held.items, reading.read, λ ended. phase (reading.phase_is ∙ ended), ap (λ (n : ℕ). record { offset = n; kind = kinds.Truncated }) count)

pub short_stream : SymbolLaws → (d : Decoder) → d.failure ≡ None → d.phase ≢ Ended → (fed : List ℕ) (given : List Frame) (contents : Contents) → IsAfter d fed given → IsStream fed contents → ⊥
short_stream laws d failure phase fed given contents after stream =
    stream_or_fault laws fed contents (record { offset = taken_by d; kind = kinds.Truncated }) stream (short_fault d failure phase fed given after)

pub short_only : SymbolLaws → (d : Decoder) → d.failure ≡ None → d.phase ≢ Ended → (fed : List ℕ) (given : List Frame) (fault : WireFault) → IsAfter d fed given → (record { offset = taken_by d; kind = kinds.Truncated } ≡ fault) ↔ IsFirstFault fed fault
short_only laws d failure phase fed given fault after =
    let at = short_fault d failure phase fed given after in
    (λ same. subst (λ (f : WireFault). IsFirstFault fed f) same at, λ first. one_first_fault laws fed _ fault at first)

-- ---- what it means to be after bytes

meaning_at : (failure : Option FeedError) (d : Decoder) (fed : List ℕ) (given : List Frame) → IsAfterAt failure d fed given → ((rest : List ℕ) × IsRead fed given rest) ⊎ ((fault : WireFault) × FailsAfter fed given fault)
meaning_at None d fed given after = inl (d.held.items, after.read)
meaning_at (Some (Fault fault)) d fed given after = inr (fault, after)
meaning_at (Some Memory) d fed given after = absurd after

pub meaning : (d : Decoder) (fed : List ℕ) (given : List Frame) → IsAfter d fed given → ((rest : List ℕ) × IsRead fed given rest) ⊎ ((fault : WireFault) × FailsAfter fed given fault)
meaning d fed given after = meaning_at d.failure d fed given after

pub one_given : SymbolLaws → (d e : Decoder) (fed : List ℕ) (given given' : List Frame) → IsAfter d fed given → IsAfter e fed given' → given ≡ given'
one_given laws d e fed given given' d-is e-is =
    alike (meaning d fed given d-is) (meaning e fed given' e-is)
  where
    alike : ((rest : List ℕ) × IsRead fed given rest) ⊎ ((fault : WireFault) × FailsAfter fed given fault) → ((rest : List ℕ) × IsRead fed given' rest) ⊎ ((fault : WireFault) × FailsAfter fed given' fault) → given ≡ given'
    alike (inl r) (inl s) = let one = one_reading laws BeforeManifest fed given given' r.0 s.0 tt r.1 s.1 in one.0
    alike (inl r) (inr s) = absurd (not_both laws BeforeManifest fed given given' r.0 s.1.0 tt r.1 s.1.1)
    alike (inr r) (inl s) = absurd (not_both laws BeforeManifest fed given' given s.0 r.1.0 tt s.1 r.1.1)
    alike (inr r) (inr s) = let one = one_failing laws fed given given' r.0 s.0 r.1 s.1 in one.0
