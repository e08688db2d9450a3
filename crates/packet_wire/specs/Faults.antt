-- What bytes are as the front of a stream, and the first fault of a string of bytes.
use Rattle.std.specs.Prelude.{◌≡◌, ◌≢◌, ◌⊎◌, ℕ, ◌+◌, ◌<◌, ◌≤◌, List, [], ◌∷◌, ◌++◌, length, Some, IsNone}
use Rattle.packet_wire.specs.declared.frame.Frame.{Frame}
use Rattle.packet_wire.specs.declared.fault.FaultKind.TheVariants as faults
use Rattle.packet_wire.specs.declared.fault.WireFault.{WireFault}
use Rattle.packet_wire.specs.declared.phase.Phase.{Phase}
use Rattle.packet_wire.specs.declared.phase.Phase.TheVariants.{BeforeManifest, Ended}
use Rattle.packet_wire.specs.Frames.{AreInOrder, frames_spelling, phase_past}
use Rattle.packet_wire.specs.Judgements.{body_len_in, fault_at}

-- whatever front of a frame's bytes was there, its last byte brought no fault
abbrev pub NothingFails : Phase → List ℕ → Type 0
NothingFails phase rest = (front more : List ℕ) → rest ≡ front ++ more → IsNone (fault_at phase front)

-- less than a whole frame: less than a head, or less than the body that the head tells
abbrev pub IsPartOfFrame : List ℕ → Type 0
IsPartOfFrame rest = 10 ≤ length rest → length rest < 10 + body_len_in rest

-- from a phase on, the bytes are these frames, and a part of a frame in which nothing fails
pub record IsReadFrom (phase : Phase) (bytes : List ℕ) (frames : List Frame) (rest : List ℕ) : Type 0 where
  pub in_order : AreInOrder phase frames
  pub spelled : bytes ≡ frames_spelling frames ++ rest
  pub nothing_fails : NothingFails (phase_past phase frames) rest
  pub part : IsPartOfFrame rest

abbrev pub IsRead : List ℕ → List Frame → List ℕ → Type 0
IsRead bytes frames rest = IsReadFrom BeforeManifest bytes frames rest

-- From a phase on, the bytes are these frames and then bytes that are no frame: a part of one in which nothing fails, and a
-- byte that brings the fault, with its place counted from this frame's first byte. What comes later is not judged.
pub record FailsFrom (phase : Phase) (bytes : List ℕ) (frames : List Frame) (fault : WireFault) : Type 0 where
  pub before : List ℕ
  pub rest : List ℕ
  pub byte : ℕ
  pub later : List ℕ
  pub read : IsReadFrom phase before frames rest
  pub bytes_are : bytes ≡ before ++ byte ∷ later
  pub fails : fault_at (phase_past phase frames) (rest ++ byte ∷ []) ≡ Some fault

-- a fault at a place that is counted from a later byte on
abbrev pub moved_by : ℕ → WireFault → WireFault
moved_by count fault = record { offset = count + fault.offset; kind = fault.kind }

-- after these frames a judgement fails, and the first that does gives this fault
abbrev pub FailsAfter : List ℕ → List Frame → WireFault → Type 0
FailsAfter bytes frames fault =
    (inner : WireFault) × FailsFrom BeforeManifest bytes frames inner
    × (fault ≡ moved_by (length (frames_spelling frames)) inner)

-- some judgement fails, and the first that does gives this fault
abbrev pub HasFailing : List ℕ → WireFault → Type 0
HasFailing bytes fault = (frames : List Frame) × FailsAfter bytes frames fault

-- nothing fails, and the frame of the end is not whole
abbrev pub IsCutShort : List ℕ → WireFault → Type 0
IsCutShort bytes fault =
    (frames : List Frame) × (rest : List ℕ) × IsRead bytes frames rest × (phase_past BeforeManifest frames ≢ Ended)
    × (fault ≡ record { offset = length bytes; kind = faults.Truncated })

-- the first fault of a string of bytes
abbrev pub IsFirstFault : List ℕ → WireFault → Type 0
IsFirstFault bytes fault = HasFailing bytes fault ⊎ IsCutShort bytes fault
