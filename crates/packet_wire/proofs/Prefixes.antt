-- Frames at the front of bytes are the first of all that stand there.
use Rattle.std.proofs.Common.{◌≡◌, ℕ, List, [], ◌∷◌, ◌++◌, refl, ap, sym, subst, ◌∙◌, append_assoc}
use Rattle.linear_spec.specs.SymbolLaws.{SymbolLaws}
use Rattle.packet_wire.specs.declared.fault.WireFault.{WireFault}
use Rattle.packet_wire.specs.declared.frame.Frame.{Frame}
use Rattle.packet_wire.specs.declared.phase.Phase.{Phase}
use Rattle.packet_wire.specs.declared.phase.Phase.TheVariants.{BeforeManifest}
use Rattle.packet_wire.specs.Frames.{AreInOrder, BeginsWith, frame_spelling, frames_spelling, phase_after, phase_past}
use Rattle.packet_wire.specs.Faults.{FailsAfter, IsRead}
use Rattle.packet_wire.proofs.Readings.{NoFrameAt, failing_no_frame, failing_spelled, no_frame_in_part, same_frame, shape_kept, shape_past}
use Rattle.packet_wire.proofs.Spellings.{HasShape}

first_of : SymbolLaws → (phase : Phase) (fs gs : List Frame) (x y : List ℕ) → HasShape phase → AreInOrder phase fs → AreInOrder phase gs → NoFrameAt (phase_past phase gs) y → frames_spelling fs ++ x ≡ frames_spelling gs ++ y → (more : List Frame) × (gs ≡ fs ++ more)
first_of laws phase [] gs x y has fs-are gs-are no-y same = (gs, refl)
first_of laws phase (f ∷ fs) [] x y has fs-are gs-are no-y same =
    absurd (no-y f (frames_spelling fs ++ x) fs-are.0 (sym same ∙ append_assoc (frame_spelling f) (frames_spelling fs) x))
first_of laws phase (f ∷ fs) (g ∷ gs) x y has fs-are gs-are no-y same =
    let joined = sym (append_assoc (frame_spelling f) (frames_spelling fs) x) ∙ same ∙ append_assoc (frame_spelling g) (frames_spelling gs) y in
    let first = same_frame laws phase f g (frames_spelling fs ++ x) (frames_spelling gs ++ y) has fs-are.0 gs-are.0 joined in
    let one : f ≡ g = first.0 in
    let gs-are' : AreInOrder (phase_after phase f) gs = subst (λ (h : Frame). AreInOrder (phase_after phase h) gs) (sym one) gs-are.1 in
    let no-y' : NoFrameAt (phase_past (phase_after phase f) gs) y = subst (λ (h : Frame). NoFrameAt (phase_past (phase_after phase h) gs) y) (sym one) no-y in
    let rest = first_of laws (phase_after phase f) fs gs x y (shape_kept phase f has fs-are.0) fs-are.1 gs-are' no-y' first.1 in
    let others : gs ≡ fs ++ rest.0 = rest.1 in
    (rest.0, cc)

pub first_of_read : SymbolLaws → (bytes rest : List ℕ) (fs gs : List Frame) → BeginsWith bytes fs → IsRead bytes gs rest → (more : List Frame) × (gs ≡ fs ++ more)
first_of_read laws bytes rest fs gs begins read =
    first_of laws BeforeManifest fs gs begins.rest rest tt begins.in_order read.in_order
    (no_frame_in_part laws (phase_past BeforeManifest gs) rest (shape_past BeforeManifest gs tt read.in_order) read.part)
    (sym begins.spelled ∙ read.spelled)

pub first_of_failing : SymbolLaws → (bytes : List ℕ) (fs gs : List Frame) (fault : WireFault) → BeginsWith bytes fs → FailsAfter bytes gs fault → (more : List Frame) × (gs ≡ fs ++ more)
first_of_failing laws bytes fs gs fault begins failing =
    let r = failing.1 in
    first_of laws BeforeManifest fs gs begins.rest (r.rest ++ r.byte ∷ r.later) tt begins.in_order r.read.in_order
    (failing_no_frame laws BeforeManifest bytes gs failing.0 tt r)
    (sym begins.spelled ∙ failing_spelled BeforeManifest bytes gs failing.0 r)

pub begins_on : (bytes more : List ℕ) (fs : List Frame) → BeginsWith bytes fs → BeginsWith (bytes ++ more) fs
begins_on bytes more fs is = record {
  in_order = is.in_order;
  rest = is.rest ++ more;
  spelled = ap (λ (s : List ℕ). s ++ more) is.spelled ∙ append_assoc (frames_spelling fs) is.rest more;
}

pub read_begins : (bytes rest : List ℕ) (fs : List Frame) → IsRead bytes fs rest → BeginsWith bytes fs
read_begins bytes rest fs read = record { in_order = read.in_order; rest = rest; spelled = read.spelled }

pub failing_begins : (bytes : List ℕ) (fs : List Frame) (fault : WireFault) → FailsAfter bytes fs fault → BeginsWith bytes fs
failing_begins bytes fs fault failing =
    let r = failing.1 in
    record { in_order = r.read.in_order; rest = r.rest ++ r.byte ∷ r.later; spelled = failing_spelled BeforeManifest bytes fs failing.0 r }
