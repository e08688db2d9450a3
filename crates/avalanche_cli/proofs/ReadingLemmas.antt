-- Reading a stream in pieces: what one more piece leaves, and what each way out tells of the whole input.
use Rattle.std.proofs.Common.{◌≡◌, ◌≢◌, ℕ, zero, suc, ◌+◌, ◌<◌, ◌≤◌, List, [], ◌∷◌, ◌++◌, length, take, refl, sym, subst, ap, ◌∙◌, ◌⊎◌, inl, inr, arith, length-append}
use Rattle.std.specs.Prelude.{Option, None, Some, Result, Ok, Err, IsErrAnd, IsErrOf, IfErr, IfSome, min, ◌↔◌}
use Rattle.std.specs.Io.KnownBytes.{Consumes, IsAtEnd, Keeps}
use Rattle.std.proofs.KnownBytes.{Consumes-trans}
use Rattle.swarm_io.specs.Moved.{TakesAtMost}
use Rattle.std.proofs.lemmas.List.{append_assoc, append-nil, take_all, take-append-le}
use Rattle.std.proofs.lemmas.Bool.{cases_lt}
use Rattle.std.proofs.Math.Seq.{take-append-add}
use Rattle.packet_wire.specs.Decoding.{FailsIn, GoesOn, HasGrown, IfFault, IsAfter, NothingFailsIn}
use Rattle.packet_wire.specs.declared.fault.FeedError.{FeedError}
use Rattle.packet_wire.specs.declared.fault.FeedError.TheVariants.{Fault, Memory as OutOfMemory}
use Rattle.packet_wire.specs.Faults.{HasFailing, IsFirstFault}
use Rattle.packet_wire.specs.Frames.{frames_of}
use Rattle.packet_wire.specs.Stream.{Contents, IsStream}
use Rattle.packet_wire.specs.declared.decoder.Decoder.{Decoder}
use Rattle.packet_wire.specs.declared.fault.FaultKind.TheVariants.{Truncated}
use Rattle.packet_wire.specs.declared.fault.WireFault.{WireFault}
use Rattle.packet_wire.specs.declared.frame.Frame.{Frame}
use Rattle.avalanche_cli.specs.Fetch.{HasReadSound, Holds, IsSound, IsTooLong, IsUnfetchable, stream_limit}
use Rattle.avalanche_cli.specs.FetchSteps.{IsUnread}
use Rattle.avalanche_cli.specs.Reading.{HoldsFrames, IsReadTo, TakesIn, reason_of}
use Rattle.avalanche_cli.specs.declared.reading.NoStream.{NoStream}
use Rattle.avalanche_cli.specs.declared.reading.NoStream.TheVariants.{ReadFault, TooLarge, BadStream, Memory}
use Rattle.avalanche_cli.proofs.FrameLemmas.{same_frames}

-- ---- the laws that this rests on

-- a first fault stays the first, whatever comes after it
abbrev pub ExtensionLaw : Type 0
ExtensionLaw = (bytes later : List ℕ) (fault : WireFault) → IsFirstFault bytes fault → fault.kind ≢ Truncated → IsFirstFault (bytes ++ later) fault

-- what fails is another fault than an end too early
abbrev pub FailingLaw : Type 0
FailingLaw = (bytes : List ℕ) (fault : WireFault) → HasFailing bytes fault → fault.kind ≢ Truncated

-- bytes in which nothing fails
abbrev pub NoneFails : List ℕ → Type 0
NoneFails bytes = (fault : WireFault) → HasFailing bytes fault → ⊥

is_sound : (bytes : List ℕ) → NoneFails bytes → IsSound bytes
is_sound bytes none fault (inl fails) = absurd (none fault fails)
is_sound bytes none fault (inr cut) = ap (λ (f : WireFault). f.kind) cut.4

-- ---- the bytes within the limit

-- the first bytes of a string that begins with what was fed
front_at : (fed more : List ℕ) (room limit : ℕ) → length fed + room ≡ limit → take limit (fed ++ more) ≡ fed ++ take room more
front_at fed more room limit is = subst (λ (n : ℕ). take n (fed ++ more) ≡ fed ++ take room more) is (take-append-add fed more room)

-- and of these the first room bytes of a piece
piece_at : (piece rest : List ℕ) (room : ℕ) → (later : List ℕ) × (take room (piece ++ rest) ≡ take room piece ++ later)
piece_at [] rest zero = ([], refl)
piece_at [] rest (suc room) = (take (suc room) rest, refl)
piece_at (x ∷ piece) rest zero = ([], refl)
piece_at (x ∷ piece) rest (suc room) = let more = piece_at piece rest room in (more.0, ap (λ (l : List ℕ). x ∷ l) more.1)

short_piece : (piece rest : List ℕ) (room : ℕ) → room ≤ length piece → take room (piece ++ rest) ≡ take room piece
short_piece piece rest room short = take-append-le room piece rest short

-- ---- the input

told_at : (old now : Option (List ℕ)) (fed : List ℕ) (P : List ℕ → Type 0) → Consumes old now fed → ((rest : List ℕ) → P (fed ++ rest)) → IfSome old P
told_at None now fed P consumed all = tt
told_at (Some xs) None fed P consumed all = absurd consumed
told_at (Some xs) (Some ys) fed P consumed all = subst P (sym consumed) (all ys)

told_whole : (old now : Option (List ℕ)) (fed : List ℕ) → Consumes old now fed → IsAtEnd now → IfSome old (λ all. all ≡ fed)
told_whole None now fed consumed end = tt
told_whole (Some xs) None fed consumed end = absurd consumed
told_whole (Some xs) (Some ys) fed consumed end = consumed ∙ ap (λ (l : List ℕ). fed ++ l) end ∙ append-nil fed

consumed_still : (old mid now : Option (List ℕ)) (fed : List ℕ) → Consumes old mid fed → Keeps mid now → Consumes old now fed
consumed_still None mid now fed consumed kept = tt
consumed_still (Some xs) None now fed consumed kept = absurd consumed
consumed_still (Some xs) (Some ys) None fed consumed kept = absurd kept
consumed_still (Some xs) (Some ys) (Some zs) fed consumed kept = consumed ∙ ap (λ (l : List ℕ). fed ++ l) (sym kept)

consumed_nothing : (old : Option (List ℕ)) → Consumes old old []
consumed_nothing None = tt
consumed_nothing (Some xs) = refl

-- ---- the loop

nothing_fails_at_first : (none : (fault : WireFault) → HasFailing [] fault → ⊥) (old : Option (List ℕ)) (decoder : Decoder) → IsAfter decoder [] [] → IsReadTo old old decoder [] stream_limit
nothing_fails_at_first none old decoder after = record { fed = []; consumed = consumed_nothing old; room_is = refl; after = after; sound = none }

no_cell : (before later : List ℕ) (byte : ℕ) → [] ≡ before ++ byte ∷ later → ⊥
no_cell [] later byte is = absurd cc
no_cell (x ∷ before) later byte is = absurd cc

pub begun : (old : Option (List ℕ)) (decoder : Decoder) → IsAfter decoder [] [] → IsReadTo old old decoder [] stream_limit
begun old decoder after = nothing_fails_at_first (λ fault fails. no_cell fails.1.1.before fails.1.1.later fails.1.1.byte fails.1.1.bytes_are) old decoder after

pub read_on : (old mid now : Option (List ℕ)) (before after : Decoder) (given frames : List Frame) (room left : ℕ) (piece : List ℕ) → IsReadTo old mid before given room → Consumes mid now piece → TakesIn before given piece room after frames (Ok left) → IsReadTo old now after frames left
read_on old mid now before after given frames room left piece is read step =
    let on = step.1 is.fed is.after in
    let counted = length-append is.fed piece in
    let room_is : length is.fed + room ≡ stream_limit = is.room_is in
    let left_is : left + length piece ≡ room = step.0 in
    record {
      fed = is.fed ++ piece;
      consumed = Consumes-trans old mid now is.fed piece is.consumed read;
      room_is = omega arith;
      after = on.0;
      sound = on.1;
    }

module _ (extension : ExtensionLaw) (failing : FailingLaw) where
  -- a piece in which something fails
  fails_within : (fed piece rest : List ℕ) (room : ℕ) (fault : WireFault) → length fed + room ≡ stream_limit → HasFailing (fed ++ take room piece) fault → IsUnfetchable (fed ++ (piece ++ rest)) fault
  fails_within fed piece rest room fault is fails =
      let other : fault.kind ≢ Truncated = failing (fed ++ take room piece) fault fails in
      let more = piece_at piece rest room in
      let front : take stream_limit (fed ++ (piece ++ rest)) ≡ (fed ++ take room piece) ++ more.0 = front_at fed (piece ++ rest) room stream_limit is ∙ ap (λ (l : List ℕ). fed ++ l) more.1 ∙ sym (append_assoc fed (take room piece) more.0) in
      record {
        first = subst (λ (l : List ℕ). IsFirstFault l fault) (sym front) (extension (fed ++ take room piece) more.0 fault (inl fails) other);
        whole = λ kind. absurd (other kind);
      }

  -- a piece that goes past the limit
  too_long : (fed piece rest : List ℕ) (room : ℕ) → length fed + room ≡ stream_limit → room < length piece → NoneFails (fed ++ take room piece) → IsTooLong (fed ++ (piece ++ rest))
  too_long fed piece rest room is past none =
      let front : take stream_limit (fed ++ (piece ++ rest)) ≡ fed ++ take room piece = front_at fed (piece ++ rest) room stream_limit is ∙ ap (λ (l : List ℕ). fed ++ l) (short_piece piece rest room (omega arith)) in
      let counted = length-append fed (piece ++ rest) in
      let counted' = length-append piece rest in
      record { longer = omega arith; sound = subst IsSound (sym front) (is_sound (fed ++ take room piece) none) }

  on_two : (old now : Option (List ℕ)) (fed piece : List ℕ) (P : List ℕ → Type 0) → Consumes old now (fed ++ piece) → ((rest : List ℕ) → P (fed ++ (piece ++ rest))) → IfSome old P
  on_two old now fed piece P consumed all = told_at old now (fed ++ piece) P consumed (λ rest. subst P (sym (append_assoc fed piece rest)) (all rest))

  -- the piece ends the reading
  pub stopped : (old mid now : Option (List ℕ)) (Unread Sound : Type 0) (before after : Decoder) (given frames : List Frame) (room : ℕ) (piece : List ℕ) (reason : NoStream) → IsReadTo old mid before given room → Consumes mid now piece → TakesIn before given piece room after frames (Err reason) → IsUnread old Unread Sound reason
  stopped old mid now Unread Sound before after given frames room piece ReadFault is read step = absurd step
  stopped old mid now Unread Sound before after given frames room piece TooLarge is read step =
      on_two old now is.fed piece IsTooLong (Consumes-trans old mid now is.fed piece is.consumed read) (λ rest. too_long is.fed piece rest room is.room_is step.0 (step.1 is.fed is.after))
  stopped old mid now Unread Sound before after given frames room piece (BadStream fault) is read step =
      on_two old now is.fed piece (λ bytes. IsUnfetchable bytes fault) (Consumes-trans old mid now is.fed piece is.consumed read) (λ rest. fails_within is.fed piece rest room fault is.room_is (step is.fed is.after))
  stopped old mid now Unread Sound before after given frames room piece Memory is read step = tt

-- a read failed
pub failed : (old mid now : Option (List ℕ)) (decoder : Decoder) (frames : List Frame) (room : ℕ) → IsReadTo old mid decoder frames room → Keeps mid now → HasReadSound old now
failed old mid now decoder frames room is kept =
    let room_is : length is.fed + room ≡ stream_limit = is.room_is in
    let within : length is.fed ≤ stream_limit = omega arith in
    record {
      read = is.fed;
      consumed = consumed_still old mid now is.fed is.consumed kept;
      within = within;
      sound = is_sound is.fed is.sound;
    }

-- the input ended, and the bytes are no stream
pub ended_badly : (old mid now : Option (List ℕ)) (decoder : Decoder) (frames : List Frame) (room : ℕ) (fault : WireFault) → IsReadTo old mid decoder frames room → Consumes mid now [] → IsAtEnd now → ((fed : List ℕ) → IsAfter decoder fed frames → IsFirstFault fed fault) → IfSome old (λ bytes. IsUnfetchable bytes fault)
ended_badly old mid now decoder frames room fault is read end first =
    let all = told_whole old now (is.fed ++ []) (Consumes-trans old mid now is.fed [] is.consumed read) end in
    go old (subst (λ (l : List ℕ). IfSome old (λ bytes. bytes ≡ l)) (append-nil is.fed) all)
  where
    room_is : length is.fed + room ≡ stream_limit
    room_is = is.room_is

    within : length is.fed ≤ stream_limit
    within = omega (room_is, arith)

    here : IsUnfetchable is.fed fault
    here = record { first = subst (λ (l : List ℕ). IsFirstFault l fault) (sym (take_all stream_limit is.fed within)) (first is.fed is.after); whole = λ kind. within }

    go : (input : Option (List ℕ)) → IfSome input (λ bytes. bytes ≡ is.fed) → IfSome input (λ bytes. IsUnfetchable bytes fault)
    go None told = tt
    go (Some bytes) told = subst (λ (l : List ℕ). IsUnfetchable l fault) (sym told) here

-- the input ended, and it was a stream
pub ended_well : (old mid now : Option (List ℕ)) (decoder : Decoder) (frames : List Frame) (room : ℕ) → IsReadTo old mid decoder frames room → Consumes mid now [] → IsAtEnd now → ((fed : List ℕ) → IsAfter decoder fed frames → (contents : Contents) × IsStream fed contents × (frames ≡ frames_of contents)) → HoldsFrames old frames
ended_well old mid now decoder frames room is read end stream =
    let all = told_whole old now (is.fed ++ []) (Consumes-trans old mid now is.fed [] is.consumed read) end in
    let room_is : length is.fed + room ≡ stream_limit = is.room_is in
    let are = stream is.fed is.after in
    record {
      bytes = is.fed;
      told = subst (λ (l : List ℕ). IfSome old (λ bytes. bytes ≡ l)) (append-nil is.fed) all;
      within = omega arith;
      contents = are.0;
      stream = are.1;
      frames_are = are.2;
    }

-- ---- the stream

-- bytes are a stream in one way
abbrev pub OneLaw : Type 0
OneLaw = (bytes : List ℕ) (contents other : Contents) → IsStream bytes contents → IsStream bytes other → contents ≡ other

pub holds_of : OneLaw → (input : Option (List ℕ)) (frames : List Frame) (contents : Contents) → HoldsFrames input frames → frames ≡ frames_of contents → Holds input contents
holds_of one input frames contents is are =
    let same : is.contents ≡ contents = same_frames is.contents contents (sym is.frames_are ∙ are) in
    let stream : IsStream is.bytes contents = subst (λ (c : Contents). IsStream is.bytes c) same is.stream in
    record {
      bytes = is.bytes;
      told = is.told;
      fetchable = record { within = is.within; stream = stream };
      only = λ other fetchable. one is.bytes other contents fetchable.stream stream;
    }

-- ---- one piece

taken_front : (piece : List ℕ) (room : ℕ) → take (min room (length piece)) piece ≡ take room piece
taken_front piece room = go (cases_lt room (length piece))
  where
    go : (room < length piece) ⊎ (length piece ≤ room) → take (min room (length piece)) piece ≡ take room piece
    go (inl short) = let is : min room (length piece) ≡ room = omega (short, arith) in ap (λ (n : ℕ). take n piece) is
    go (inr long) =
        let is : min room (length piece) ≡ length piece = omega (long, arith) in
        ap (λ (n : ℕ). take n piece) is ∙ take_all (length piece) piece (omega arith) ∙ sym (take_all room piece long)

pub taken_in : (before after : Decoder) (given frames : List Frame) (piece front : List ℕ) (room left : ℕ) → front ≡ take (min room (length piece)) piece → left + length piece ≡ room → GoesOn before front after given frames → HasGrown given frames → NothingFailsIn before front → TakesIn before given piece room after frames (Ok left)
taken_in before after given frames piece front room left is counted on grown none =
    let whole : front ≡ piece = is ∙ taken_front piece room ∙ take_all room piece (omega arith) in (
      counted,
      λ fed fed_is. (
        subst (λ (l : List ℕ). IsAfter after (fed ++ l) frames) whole (subst (λ (l : List Frame). IsAfter after (fed ++ front) l) (sym grown.1) (on fed given grown.0 fed_is grown.1)),
        λ fault fails. none fed given fault fed_is (subst (λ (l : List ℕ). HasFailing (fed ++ l) fault) (sym whole) fails),
      ),
    )

pub taken_past : (before after : Decoder) (given frames : List Frame) (piece front : List ℕ) (room : ℕ) → front ≡ take (min room (length piece)) piece → room < length piece → NothingFailsIn before front → TakesIn before given piece room after frames (Err TooLarge)
taken_past before after given frames piece front room is past none =
    (past, λ fed fed_is fault fails. none fed given fault fed_is (subst (λ (l : List ℕ). HasFailing (fed ++ l) fault) (sym (is ∙ taken_front piece room)) fails))

pub taken_badly : (A : Type 0) (before after : Decoder) (given frames : List Frame) (piece front : List ℕ) (room : ℕ) (error : FeedError) → front ≡ take (min room (length piece)) piece → HasGrown given frames → IfFault {A = A} (Err error) (FailsIn before front given frames) → TakesIn before given piece room after frames (Err (reason_of error))
taken_badly A before after given frames piece front room (Fault fault) is grown fails =
    λ fed fed_is. subst (λ (l : List ℕ). HasFailing (fed ++ l) fault) (is ∙ taken_front piece room) (given ++ grown.0, fails fed given grown.0 fed_is grown.1)
taken_badly A before after given frames piece front room OutOfMemory is grown fails = tt

-- an error that is handed on
pub exits : {T E : Type 0} (answer : Result T E) (error : E) → IsErrAnd answer (λ told. told ≡ error) → answer ≡ Err error
exits (Ok value) error told = absurd told
exits (Err other) error told = ap Err told

-- ---- the ways out

pub ended : (old mid now : Option (List ℕ)) (Unread Sound : Type 0) (decoder : Decoder) (frames : List Frame) (room : ℕ) (error : FeedError) → IsReadTo old mid decoder frames room → Consumes mid now [] → IsAtEnd now → ((fed : List ℕ) (given : List Frame) (fault : WireFault) → IsAfter decoder fed given → IsErrOf {T = Unit {0}} {E = FeedError} (Err error) (Fault fault) ↔ IsFirstFault fed fault) → IsUnread old Unread Sound (reason_of error)
ended old mid now Unread Sound decoder frames room (Fault fault) is read end law = ended_badly old mid now decoder frames room fault is read end (λ fed after. (law fed frames fault after).0 refl)
ended old mid now Unread Sound decoder frames room OutOfMemory is read end law = tt

-- what was taken by a read that failed, and by one that gave a piece
pub taken_before : (old mid now : Option (List ℕ)) (decoder : Decoder) (frames : List Frame) (room : ℕ) → IsReadTo old mid decoder frames room → Keeps mid now → TakesAtMost old now (stream_limit + 1)
taken_before old mid now decoder frames room is kept =
    let room_is : length is.fed + room ≡ stream_limit = is.room_is in
    (is.fed, consumed_still old mid now is.fed is.consumed kept, omega arith)

pub taken_after : (old mid now : Option (List ℕ)) (decoder : Decoder) (frames : List Frame) (room : ℕ) (piece : List ℕ) → IsReadTo old mid decoder frames room → Consumes mid now piece → length piece ≤ room + 1 → TakesAtMost old now (stream_limit + 1)
taken_after old mid now decoder frames room piece is read few =
    let room_is : length is.fed + room ≡ stream_limit = is.room_is in
    let counted = length-append is.fed piece in
    (is.fed ++ piece, Consumes-trans old mid now is.fed piece is.consumed read, omega arith)

pub begun_with : (old : Option (List ℕ)) (decoder : Decoder) (frames : List Frame) → frames ≡ [] → IsAfter decoder [] [] → IsReadTo old old decoder frames stream_limit
begun_with old decoder frames none after = subst (λ (l : List Frame). IsReadTo old old decoder l stream_limit) (sym none) (begun old decoder after)

-- an answer that is an error
pub if_err : {T E : Type 0} (P : E → Type 0) {answer : Result T E} {error : E} → answer ≡ Err error → P error → IfErr answer P
if_err {T} {E} P is holds = subst (λ (r : Result T E). IfErr r P) (sym is) holds

-- a read of no bytes
pub nothing_read : (mid now : Option (List ℕ)) (count : ℕ) (buffer : List ℕ) → count ≡ 0 → Consumes mid now (take count buffer) → Consumes mid now []
nothing_read mid now count buffer none read = subst (λ (n : ℕ). Consumes mid now (take n buffer)) none read
