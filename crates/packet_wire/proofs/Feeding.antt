-- What a decoder is after, byte by byte.
use Rattle.std.proofs.Common.{◌≡◌, ◌⊎◌, ℕ, ◌+◌, ◌≤◌, true, List, [], ◌∷◌, ◌++◌, length, Option, Some, None, refl, ap, sym, subst, ◌∙◌, arith, append_assoc, vec_len, inl, inr, is_some}
use Rattle.std.proofs.lemmas.List.{append-nil, append_cancel_left, length-append}
use Rattle.packet_wire.specs.Admitting.{FailsNow, HoldsOn, MakesFrame}
use Rattle.packet_wire.specs.declared.decoder.Decoder.{Decoder}
use Rattle.packet_wire.specs.declared.fault.FeedError.{FeedError}
use Rattle.packet_wire.specs.declared.fault.FeedError.TheVariants.{Fault, Memory}
use Rattle.packet_wire.specs.declared.fault.WireFault.{WireFault}
use Rattle.packet_wire.specs.declared.frame.Frame.{Frame}
use Rattle.packet_wire.specs.declared.phase.Phase.{Phase}
use Rattle.packet_wire.specs.declared.phase.Phase.TheVariants.{BeforeManifest}
use Rattle.packet_wire.specs.Frames.{BeginsWith, MayFollow, frame_spelling, frames_spelling, phase_after}
use Rattle.packet_wire.specs.Faults.{FailsAfter, IsPartOfFrame, IsRead, NothingFails, moved_by}
use Rattle.packet_wire.specs.Judgements.{fault_at}
use Rattle.packet_wire.specs.Decoding.{GivesFront, GoesOn, IsAfter, IsAfterAt, IsFed, IsOutOfMemory, IsReading, taken_by}
use Rattle.packet_wire.proofs.Prefixes.{begins_on, failing_begins, read_begins}
use Rattle.packet_wire.proofs.Steps.{fails_next, frames_spelling_more, gives_next, holds_next, nothing_fails_in_nothing, nothing_fails_more, nothing_is_part, phase_past_more}
use Rattle.packet_wire.proofs.Streams.{failing_on}

-- ---- what stands at the front of the bytes

-- the frames of what it is after stand at the front of the bytes
begins_at : (failure : Option FeedError) (d : Decoder) (fed : List ℕ) (given : List Frame) → IsAfterAt failure d fed given → BeginsWith fed given
begins_at None d fed given after = read_begins fed d.held.items given after.read
begins_at (Some (Fault fault)) d fed given after = failing_begins fed given fault after
begins_at (Some Memory) d fed given after = absurd after

pub begins : (d : Decoder) (fed : List ℕ) (given : List Frame) → IsAfter d fed given → BeginsWith fed given
begins d fed given after = begins_at d.failure d fed given after

-- ---- one call after another

-- the frames that were appended are known by the lists before and after
same_more : (frames frames' more more' : List Frame) → frames' ≡ frames ++ more → frames' ≡ frames ++ more' → more ≡ more'
same_more frames frames' more more' is is' = append_cancel_left frames more more' (sym is ∙ is')

-- for GoesOn and GivesFront the appended frames are enough
goes_on_by : (before : Decoder) (bytes : List ℕ) (after : Decoder) (frames frames' more : List Frame) → frames' ≡ frames ++ more → ((fed : List ℕ) (given : List Frame) → IsAfter before fed given → IsAfter after (fed ++ bytes) (given ++ more)) → GoesOn before bytes after frames frames'
goes_on_by before bytes after frames frames' more is on fed given more' at is' =
    subst (λ (ms : List Frame). IsAfter after (fed ++ bytes) (given ++ ms)) (same_more frames frames' more more' is is') (on fed given at)

front_by : (before : Decoder) (bytes : List ℕ) (frames frames' more : List Frame) → frames' ≡ frames ++ more → ((fed : List ℕ) (given : List Frame) → IsAfter before fed given → BeginsWith (fed ++ bytes) (given ++ more)) → GivesFront before bytes frames frames'
front_by before bytes frames frames' more is on fed given more' at is' =
    subst (λ (ms : List Frame). BeginsWith (fed ++ bytes) (given ++ ms)) (same_more frames frames' more more' is is') (on fed given at)

-- it did not fail, is at a fault, or wanted memory
memory_or_not : (failure : Option FeedError) → (failure ≡ Some Memory) ⊎ ((failure ≡ Some Memory) → ⊥)
memory_or_not None = inr (λ is. absurd cc)
memory_or_not (Some (Fault fault)) = inr (λ is. absurd cc)
memory_or_not (Some Memory) = inl refl

pub fed_both : (a : Decoder) (xs : List ℕ) (b : Decoder) (ys : List ℕ) (c : Decoder) (fs gs hs : List Frame) → IsFed a xs b fs gs → IsFed b ys c gs hs → IsFed a (xs ++ ys) c fs hs
fed_both a xs b ys c fs gs hs first second =
    let m = first.grown.0 in
    let n = second.grown.0 in
    let gs-are : gs ≡ fs ++ m = first.grown.1 in
    let hs-are : hs ≡ gs ++ n = second.grown.1 in
    let all : hs ≡ fs ++ (m ++ n) = hs-are ∙ ap (λ (ks : List Frame). ks ++ n) gs-are ∙ append_assoc fs m n in
    record {
      grown = (m ++ n, all);
      taken = omega (arith, first.taken, second.taken, length-append xs ys);
      goes_on = λ no-memory. goes_on_by a (xs ++ ys) c fs hs (m ++ n) all (both_on no-memory m n gs-are hs-are);
      front = front_by a (xs ++ ys) fs hs (m ++ n) all (fronts (memory_or_not b.failure) m n gs-are hs-are);
      kept = λ error is.
          let then = first.kept error is in
          let last = second.kept error then.0 in
          (last.0, last.1 ∙ then.1);
    }
  where
    at_b : (¬ IsOutOfMemory b) → (m : List Frame) → gs ≡ fs ++ m → (fed : List ℕ) (given : List Frame) → IsAfter a fed given → IsAfter b (fed ++ xs) (given ++ m)
    at_b no-memory m gs-are fed given at = first.goes_on no-memory fed given m at gs-are

    both_on : (¬ IsOutOfMemory c) → (m n : List Frame) → gs ≡ fs ++ m → hs ≡ gs ++ n → (fed : List ℕ) (given : List Frame) → IsAfter a fed given → IsAfter c (fed ++ (xs ++ ys)) (given ++ (m ++ n))
    both_on no-memory m n gs-are hs-are fed given at =
        let earlier : ¬ IsOutOfMemory b = λ is. let later = second.kept Memory is in no-memory later.0 in
        let there = second.goes_on no-memory (fed ++ xs) (given ++ m) n (at_b earlier m gs-are fed given at) hs-are in
        rw (← append_assoc fed xs ys, ← append_assoc given m n) there

    fronts : (b.failure ≡ Some Memory) ⊎ ((b.failure ≡ Some Memory) → ⊥) → (m n : List Frame) → gs ≡ fs ++ m → hs ≡ gs ++ n → (fed : List ℕ) (given : List Frame) → IsAfter a fed given → BeginsWith (fed ++ (xs ++ ys)) (given ++ (m ++ n))
    fronts (inl memory) m n gs-are hs-are fed given at =
        let later = second.kept Memory memory in
        let none : n ≡ [] = append_cancel_left gs n [] (sym hs-are ∙ later.1 ∙ sym (append-nil gs)) in
        let earlier = begins_on (fed ++ xs) ys (given ++ m) (first.front fed given m at gs-are) in
        rw (none, append-nil, ← append_assoc fed xs ys) earlier
    fronts (inr no-memory) m n gs-are hs-are fed given at =
        let there = second.front (fed ++ xs) (given ++ m) n (at_b no-memory m gs-are fed given at) hs-are in
        rw (← append_assoc fed xs ys, ← append_assoc given m n) there

pub fed_nothing : (a : Decoder) (fs : List Frame) → IsFed a [] a fs fs
fed_nothing a fs = record {
  grown = ([], sym (append-nil fs));
  taken = omega arith;
  goes_on = λ _. goes_on_by a [] a fs fs [] (sym (append-nil fs)) (λ fed given at. rw (append-nil, append-nil) at);
  front = front_by a [] fs fs [] (sym (append-nil fs)) (λ fed given at. rw (append-nil, append-nil) (begins a fed given at));
  kept = λ error is. (is, refl);
}

-- ---- one byte

-- where it has not failed, it reads on
pub reading_at : (d : Decoder) (fed : List ℕ) (given : List Frame) → d.failure ≡ None → IsAfter d fed given → IsReading d fed given
reading_at d fed given is after = subst (λ (failure : Option FeedError). IsAfterAt failure d fed given) is after

no_failure_kept : (d : Decoder) (P : FeedError → Type 0) → d.failure ≡ None → (error : FeedError) → d.failure ≡ Some error → P error
no_failure_kept d P none error some = absurd (let wrong : None ≡ Some error = sym none ∙ some in cc)

-- it failed before: nothing changes
failed_on : (d : Decoder) (error : FeedError) (fed more : List ℕ) (given : List Frame) → d.failure ≡ Some error → IsAfter d fed given → IsAfter d (fed ++ more) given
failed_on d (Fault fault) fed more given is after =
    let fails = subst (λ (failure : Option FeedError). IsAfterAt failure d fed given) is after in
    subst (λ (failure : Option FeedError). IsAfterAt failure d (fed ++ more) given) (sym is) (failing_on fed more given fault fails)
failed_on d Memory fed more given is after = absurd (subst (λ (failure : Option FeedError). IsAfterAt failure d fed given) is after)

pub fed_failed : (d : Decoder) (byte : ℕ) (fs : List Frame) (error : FeedError) → d.failure ≡ Some error → IsFed d (byte ∷ []) d fs fs
fed_failed d byte fs error is = record {
  grown = ([], sym (append-nil fs));
  taken = omega arith;
  goes_on = λ _. goes_on_by d (byte ∷ []) d fs fs [] (sym (append-nil fs)) (λ fed given at. rw append-nil (failed_on d error fed (byte ∷ []) given is at));
  front = front_by d (byte ∷ []) fs fs [] (sym (append-nil fs)) (λ fed given at. rw append-nil (begins d (fed ++ byte ∷ []) given (failed_on d error fed (byte ∷ []) given is at)));
  kept = λ error' is'. (is', refl);
}

-- without a frame, and no failure or a fault, a byte does this
fed_by : (before : Decoder) (byte : ℕ) (after : Decoder) (fs : List Frame) → before.failure ≡ None → taken_by after ≤ taken_by before + 1 → ((fed : List ℕ) (given : List Frame) → IsReading before fed given → IsAfter after (fed ++ byte ∷ []) given) → IsFed before (byte ∷ []) after fs fs
fed_by before byte after fs none taken on = record {
  grown = ([], sym (append-nil fs));
  taken = omega (arith, taken);
  goes_on = λ _. goes_on_by before (byte ∷ []) after fs fs [] (sym (append-nil fs)) (λ fed given at. rw append-nil (on fed given (reading_at before fed given none at)));
  front = front_by before (byte ∷ []) fs fs [] (sym (append-nil fs)) (λ fed given at. rw append-nil (begins after (fed ++ byte ∷ []) given (on fed given (reading_at before fed given none at))));
  kept = no_failure_kept before (λ error. (after.failure ≡ Some error) × (fs ≡ fs)) none;
}

length-held : (d : Decoder) → vec_len d.held ≡ length d.held.items
length-held d = omega (arith, d.held.ok.0)

pub fed_held : (before : Decoder) (byte : ℕ) (after : Decoder) (fs : List Frame) → before.failure ≡ None → after.failure ≡ before.failure → after.phase ≡ before.phase → after.start ≡ before.start → HoldsOn before.phase before.held.items byte after.held.items → IsFed before (byte ∷ []) after fs fs
fed_held before byte after fs none failure phase start holds =
    fed_by before byte after fs none taken on
  where
    taken : taken_by after ≤ taken_by before + 1
    taken = omega (arith, start, length-held before, length-held after, ap length holds.held, length-append before.held.items (byte ∷ []))

    on : (fed : List ℕ) (given : List Frame) → IsReading before fed given → IsAfter after (fed ++ byte ∷ []) given
    on fed given reading =
        let passes = subst (λ (p : Phase). fault_at p (before.held.items ++ byte ∷ []) ≡ None) reading.phase_is holds.passes in
        let read = holds_next BeforeManifest fed given before.held.items byte reading.read passes holds.part in
        let now : IsReading after (fed ++ byte ∷ []) given = record {
          read = subst (λ (s : List ℕ). IsRead (fed ++ byte ∷ []) given s) (sym holds.held) read;
          phase_is = phase ∙ reading.phase_is;
          start_is = start ∙ reading.start_is;
        } in
        subst (λ (f : Option FeedError). IsAfterAt f after (fed ++ byte ∷ []) given) (sym (failure ∙ none)) now

pub fed_fault : (before : Decoder) (byte : ℕ) (after : Decoder) (held : List ℕ) (fault : WireFault) (fs : List Frame) → before.failure ≡ None → after.failure ≡ Some (Fault (moved_by before.start fault)) → taken_by after ≤ taken_by before + 1 → FailsNow before.phase before.held.items byte held fault → IsFed before (byte ∷ []) after fs fs
fed_fault before byte after held fault fs none failure taken fails =
    fed_by before byte after fs none taken on
  where
    on : (fed : List ℕ) (given : List Frame) → IsReading before fed given → IsAfter after (fed ++ byte ∷ []) given
    on fed given reading =
        let found = subst (λ (p : Phase). fault_at p (before.held.items ++ byte ∷ []) ≡ Some fault) reading.phase_is fails.fails in
        let failing = fails_next BeforeManifest fed given before.held.items byte fault reading.read found in
        let now : FailsAfter (fed ++ byte ∷ []) given (moved_by before.start fault) = (fault, failing, ap (λ (n : ℕ). moved_by n fault) reading.start_is) in
        subst (λ (f : Option FeedError). IsAfterAt f after (fed ++ byte ∷ []) given) (sym failure) now

-- want of memory leaves what was given
pub fed_none : (before : Decoder) (byte : ℕ) (after : Decoder) (fs : List Frame) → before.failure ≡ None → after.failure ≡ Some Memory → taken_by after ≤ taken_by before + 1 → IsFed before (byte ∷ []) after fs fs
fed_none before byte after fs none failure taken = record {
  grown = ([], sym (append-nil fs));
  taken = omega (arith, taken);
  goes_on = λ no-memory. absurd (no-memory failure);
  front = front_by before (byte ∷ []) fs fs [] (sym (append-nil fs)) (λ fed given at. rw append-nil (begins_on fed (byte ∷ []) given (begins before fed given at)));
  kept = no_failure_kept before (λ error. (after.failure ≡ Some error) × (fs ≡ fs)) none;
}

-- a frame became whole
pub fed_frame : (before : Decoder) (byte : ℕ) (after : Decoder) (held : List ℕ) (f : Frame) (fs fs' : List Frame) → before.failure ≡ None → after.failure ≡ before.failure → after.phase ≡ phase_after before.phase f → after.start ≡ before.start + length held → after.held.items ≡ [] → MakesFrame before.phase before.held.items byte held f → fs' ≡ fs ++ f ∷ [] → IsFed before (byte ∷ []) after fs fs'
fed_frame before byte after held f fs fs' none failure phase start empty makes pushed = record {
  grown = (f ∷ [], pushed);
  taken = omega (arith, start, length-held before, length-held after, ap length empty, ap length makes.held, length-append before.held.items (byte ∷ []));
  goes_on = λ _. goes_on_by before (byte ∷ []) after fs fs' (f ∷ []) pushed on;
  front = front_by before (byte ∷ []) fs fs' (f ∷ []) pushed (λ fed given at. begins after (fed ++ byte ∷ []) (given ++ f ∷ []) (on fed given at));
  kept = no_failure_kept before (λ error. (after.failure ≡ Some error) × (fs' ≡ fs)) none;
}
  where
    on : (fed : List ℕ) (given : List Frame) → IsAfter before fed given → IsAfter after (fed ++ byte ∷ []) (given ++ f ∷ [])
    on fed given at =
        let reading = reading_at before fed given none at in
        let follows = subst (λ (p : Phase). MayFollow p f) reading.phase_is makes.follows in
        let read = gives_next BeforeManifest fed given before.held.items byte f reading.read (follows, makes.spelled) in
        let now : IsReading after (fed ++ byte ∷ []) (given ++ f ∷ []) = record {
          read = subst (λ (s : List ℕ). IsRead (fed ++ byte ∷ []) (given ++ f ∷ []) s) (sym empty) read;
          phase_is = phase ∙ ap (λ (p : Phase). phase_after p f) reading.phase_is ∙ sym (phase_past_more BeforeManifest given f);
          start_is = start ∙ omega (arith, reading.start_is, ap length makes.held, ap length makes.spelled, ap length (frames_spelling_more given f), length-append (frames_spelling given) (frame_spelling f));
        } in
        subst (λ (o : Option FeedError). IsAfterAt o after (fed ++ byte ∷ []) (given ++ f ∷ [])) (sym (failure ∙ none)) now

-- ---- what each decoder keeps

pub clean_more : (phase : Phase) (before : List ℕ) (byte : ℕ) (after : List ℕ) → NothingFails phase before → HoldsOn phase before byte after → NothingFails phase after
clean_more phase before byte after clean holds =
    subst (λ (s : List ℕ). NothingFails phase s) (sym holds.held) (nothing_fails_more phase before byte clean holds.passes)

pub part_more : (phase : Phase) (before : List ℕ) (byte : ℕ) (after : List ℕ) → HoldsOn phase before byte after → IsPartOfFrame after
part_more phase before byte after holds = subst IsPartOfFrame (sym holds.held) holds.part

pub clean_at_none : (phase : Phase) (held : List ℕ) → held ≡ [] → NothingFails phase held
clean_at_none phase held none = subst (λ (s : List ℕ). NothingFails phase s) (sym none) (nothing_fails_in_nothing phase)

pub part_at_none : (held : List ℕ) → held ≡ [] → IsPartOfFrame held
part_at_none held none = subst IsPartOfFrame (sym none) nothing_is_part

pub some_error : (failure : Option FeedError) → is_some failure ≡ true → (error : FeedError) × (failure ≡ Some error)
some_error None is = absurd cc
some_error (Some error) is = (error, refl)
