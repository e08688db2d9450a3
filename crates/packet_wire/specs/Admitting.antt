-- What comes of one byte more of a frame: for the private steps of a decoder.
use Rattle.std.specs.Prelude.{◌≡◌, ℕ, ◌≤◌, List, [], ◌∷◌, ◌++◌, length, Some, None}
use Rattle.packet_wire.specs.declared.admit.Admitted.{Admitted}
use Rattle.packet_wire.specs.declared.admit.Admitted.TheVariants.{Held, Whole, Failed, Memory}
use Rattle.packet_wire.specs.declared.fault.WireFault.{WireFault}
use Rattle.packet_wire.specs.declared.frame.Frame.{Frame}
use Rattle.packet_wire.specs.declared.phase.Phase.{Phase}
use Rattle.packet_wire.specs.Faults.{IsPartOfFrame}
use Rattle.packet_wire.specs.Frames.{MayFollow, frame_spelling}
use Rattle.packet_wire.specs.Judgements.{fault_at}

-- the frame is not whole
pub record HoldsOn (phase : Phase) (before : List ℕ) (byte : ℕ) (after : List ℕ) : Type 0 where
  pub held : after ≡ before ++ byte ∷ []
  pub passes : fault_at phase (before ++ byte ∷ []) ≡ None
  pub part : IsPartOfFrame (before ++ byte ∷ [])

-- the bytes are this frame, which may follow
pub record MakesFrame (phase : Phase) (before : List ℕ) (byte : ℕ) (after : List ℕ) (frame : Frame) : Type 0 where
  pub held : after ≡ before ++ byte ∷ []
  pub follows : MayFollow phase frame
  pub spelled : before ++ byte ∷ [] ≡ frame_spelling frame

-- the byte brings a fault
pub record FailsNow (phase : Phase) (before : List ℕ) (byte : ℕ) (after : List ℕ) (fault : WireFault) : Type 0 where
  pub held : after ≡ before ++ byte ∷ []
  pub fails : fault_at phase (before ++ byte ∷ []) ≡ Some fault
  pub within : fault.offset ≤ length before

abbrev pub IsAdmitted : Phase → List ℕ → ℕ → List ℕ → Admitted → Type 0
IsAdmitted phase before byte after Held = HoldsOn phase before byte after
IsAdmitted phase before byte after (Whole frame) = MakesFrame phase before byte after frame
IsAdmitted phase before byte after (Failed fault) = FailsNow phase before byte after fault
IsAdmitted phase before byte after Memory = Unit {0}
