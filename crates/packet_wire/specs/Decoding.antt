-- What a decoder is after, and what a call of one does.
use Rattle.std.specs.Prelude.{◌≡◌, ◌≤◌, ℕ, ◌+◌, List, ◌++◌, length, Option, Result, Some, None, Ok, Err, vec_len, flat_map}
use Rattle.std.specs.Borrow.{Bor}
use Rattle.packet_wire.specs.declared.decoder.Decoder.{Decoder}
use Rattle.packet_wire.specs.declared.fault.FeedError.{FeedError}
use Rattle.packet_wire.specs.declared.fault.FeedError.TheVariants.{Fault, Memory}
use Rattle.packet_wire.specs.declared.fault.WireFault.{WireFault}
use Rattle.packet_wire.specs.declared.frame.Frame.{Frame}
use Rattle.packet_wire.specs.declared.phase.Phase.TheVariants.{BeforeManifest}
use Rattle.packet_wire.specs.Stream.{Contents, IsStream}
use Rattle.packet_wire.specs.Frames.{BeginsWith, frames_of, frames_spelling, phase_past}
use Rattle.packet_wire.specs.Faults.{FailsAfter, HasFailing, IsRead}

-- ---- a decoder

-- the number of bytes that it took
abbrev pub taken_by : Decoder → ℕ
taken_by decoder = decoder.start + vec_len decoder.held

-- it reads on: nothing fails in the bytes that it was fed
pub record IsReading (decoder : Decoder) (fed : List ℕ) (given : List Frame) : Type 0 where
  pub read : IsRead fed given decoder.held.items
  pub phase_is : decoder.phase ≡ phase_past BeforeManifest given
  pub start_is : decoder.start ≡ length (frames_spelling given)

abbrev pub IsAfterAt : Option FeedError → Decoder → List ℕ → List Frame → Type 0
IsAfterAt None decoder fed given = IsReading decoder fed given
IsAfterAt (Some (Fault fault)) decoder fed given = FailsAfter fed given fault
IsAfterAt (Some Memory) decoder fed given = ⊥

-- the decoder was fed these bytes, and has given these frames: all that stand in the bytes, before the first fault
abbrev pub IsAfter : Decoder → List ℕ → List Frame → Type 0
IsAfter decoder fed given = IsAfterAt decoder.failure decoder fed given

-- it wanted memory once, and got none
abbrev pub IsOutOfMemory : Decoder → Type 0
IsOutOfMemory decoder = decoder.failure ≡ Some Memory

-- it is after bytes that have this fault
abbrev pub HasFailed : Decoder → WireFault → Type 0
HasFailed decoder fault = (fed : List ℕ) × (given : List Frame) × IsAfter decoder fed given × FailsAfter fed given fault

-- ---- a call that feeds bytes, piece is all of them

-- all bytes of the pieces
abbrev pub joined : List (Bor (List ℕ)) → List ℕ
joined pieces = flat_map (λ piece. piece.now) pieces

-- the frames before stand at the front of those afterwards
abbrev pub HasGrown : List Frame → List Frame → Type 0
HasGrown frames frames' = (more : List Frame) × (frames' ≡ frames ++ more)

-- whatever it was after, it is now after the piece and the appended frames too
abbrev pub GoesOn : Decoder → List ℕ → Decoder → List Frame → List Frame → Type 0
GoesOn before piece after frames frames' =
    (fed : List ℕ) (given more : List Frame) → IsAfter before fed given → frames' ≡ frames ++ more
    → IsAfter after (fed ++ piece) (given ++ more)

-- whatever it was fed before, the appended frames stand next in the bytes, if perhaps not all that do
abbrev pub GivesFront : Decoder → List ℕ → List Frame → List Frame → Type 0
GivesFront before piece frames frames' =
    (fed : List ℕ) (given more : List Frame) → IsAfter before fed given → frames' ≡ frames ++ more
    → BeginsWith (fed ++ piece) (given ++ more)

-- whatever it was after, the bytes are now all the frames it gave, and a part of a frame in which nothing fails
abbrev pub ReadsOn : Decoder → List ℕ → List Frame → List Frame → Type 0
ReadsOn before piece frames frames' =
    (fed : List ℕ) (given more : List Frame) → IsAfter before fed given → frames' ≡ frames ++ more
    → (rest : List ℕ) × IsRead (fed ++ piece) (given ++ more) rest

-- whatever it was after, up to the end of the piece no judgement fails
abbrev pub NothingFailsIn : Decoder → List ℕ → Type 0
NothingFailsIn before piece =
    (fed : List ℕ) (given : List Frame) (fault : WireFault) → IsAfter before fed given
    → HasFailing (fed ++ piece) fault → ⊥

-- whatever it was after, the bytes are now all the frames it gave, and then this fault
abbrev pub FailsIn : Decoder → List ℕ → List Frame → List Frame → WireFault → Type 0
FailsIn before piece frames frames' fault =
    (fed : List ℕ) (given more : List Frame) → IsAfter before fed given → frames' ≡ frames ++ more
    → FailsAfter (fed ++ piece) (given ++ more) fault

-- ---- what taking bytes does, one by one or many: for the private steps of a decoder

pub record IsFed (before : Decoder) (bytes : List ℕ) (after : Decoder) (frames frames' : List Frame) : Type 0 where
  pub grown : HasGrown frames frames'
  pub taken : taken_by after ≤ taken_by before + length bytes
  pub goes_on : ¬ IsOutOfMemory after → GoesOn before bytes after frames frames'
  pub front : GivesFront before bytes frames frames'
  pub kept : (error : FeedError) → before.failure ≡ Some error → (after.failure ≡ Some error) × (frames' ≡ frames)

-- ---- what an answer says

-- the answer of a decoder that failed so, or did not
abbrev pub answer_of : Option FeedError → Result (Unit {0}) FeedError
answer_of None = Ok tt
answer_of (Some error) = Err error

-- a fact for the fault that is answered
abbrev pub IfFault : {A : Type 0} → Result A FeedError → (WireFault → Type 0) → Type 0
IfFault (Err (Fault fault)) P = P fault
IfFault _ P = Unit {0}

-- the same, where it is no want of memory
abbrev pub UnlessMemory : {A : Type 0} → Result A FeedError → Type 0 → Type 0
UnlessMemory (Err Memory) P = Unit {0}
UnlessMemory _ P = P

-- the bytes are a stream, and these are its frames
abbrev pub AreStreamFrames : List ℕ → List Frame → Type 0
AreStreamFrames bytes frames = (contents : Contents) × IsStream bytes contents × (frames ≡ frames_of contents)
