-- One byte more of a frame.
use Rattle.std.proofs.Common.{◌≡◌, ℕ, ◌+◌, ◌<◌, ◌≤◌, Bool, true, false, not, ◌&&◌, ◌==◌, if◌then◌else◌, List, [], ◌∷◌, ◌++◌, length, Option, Some, None, refl, ap, sym, subst, ◌∙◌, arith}
use Rattle.std.proofs.lemmas.Bool.{eqb-true}
use Rattle.std.proofs.lemmas.List.{length-append}
use Rattle.linear_spec.specs.SymbolLaws.{SymbolLaws}
use Rattle.linear_spec.specs.Symbols.{AreBytes}
use Rattle.packet_wire.specs.Admitting.{FailsNow, MakesFrame}
use Rattle.packet_wire.specs.declared.fault.WireFault.{WireFault}
use Rattle.packet_wire.specs.declared.frame.Frame.{Frame}
use Rattle.packet_wire.specs.declared.phase.Phase.{Phase}
use Rattle.packet_wire.specs.declared.phase.Phase.TheVariants.{BeforeManifest, BeforeTicket, BeforeEnd, Ended}
use Rattle.packet_wire.specs.Faults.{IsPartOfFrame, NothingFails}
use Rattle.packet_wire.specs.Judgements.{Judgement, body_judgements, body_len_in, fault_at, first_failure, head_judgements, judgements}
use Rattle.packet_wire.specs.Making.{IsWholeFrame, frame_in}
use Rattle.packet_wire.proofs.Steps.{nothing_fails_more, whole_more}
use Rattle.packet_wire.proofs.Wholes.{made}

-- ---- a fault lies among the bytes that are judged

abbrev Within : List Judgement → Type 0
Within [] = Unit {0}
Within (j ∷ js) = (j.offset < j.at) × Within js

within_here : (b : Bool) (j : Judgement) (count : ℕ) (f : WireFault) (o : Option WireFault) → (j.at == count && not j.passes) ≡ b → j.offset < j.at → (o ≡ Some f → f.offset < count) → (if b then Some (record { offset = j.offset; kind = j.kind }) else o) ≡ Some f → f.offset < count
within_here true j count f o is below later found =
    let here : j.at ≡ count = eqb-true j.at count (first_true (j.at == count) (not j.passes) is) in
    let same : record { offset = j.offset; kind = j.kind } ≡ f = cc in
    let offset : j.offset ≡ f.offset = ap (λ (g : WireFault). g.offset) same in
    omega arith
  where
    first_true : (a b : Bool) → (a && b) ≡ true → a ≡ true
    first_true true b both = refl
    first_true false b both = absurd cc
within_here false j count f o is below later found = later found

fault_is_within : (js : List Judgement) (count : ℕ) (f : WireFault) → Within js → first_failure js count ≡ Some f → f.offset < count
fault_is_within [] count f within found = absurd cc
fault_is_within (j ∷ js) count f within found =
    within_here (j.at == count && not j.passes) j count f (first_failure js count) refl within.0 (fault_is_within js count f within.1) found

judgements_within : (phase : Phase) (front : List ℕ) → Within (judgements phase front)
unfolding judgements head_judgements body_judgements
judgements_within BeforeManifest front = (
  omega arith,
  (
    omega arith,
    (
      omega arith,
      (
        omega arith,
        (
          omega arith,
          (
            omega arith,
            (
              omega arith,
              (
                omega arith,
                (omega arith, (omega arith, (omega arith, (omega arith, tt)))),
              ),
            ),
          ),
        ),
      ),
    ),
  ),
)
judgements_within (BeforeTicket shape) front =
    (omega arith, (omega arith, (omega arith, (omega arith, (omega arith, (omega arith, (omega arith, (omega arith, (omega arith, tt)))))))))
judgements_within (BeforeEnd shape) front =
    (omega arith, (omega arith, (omega arith, (omega arith, (omega arith, (omega arith, (omega arith, (omega arith, (omega arith, tt)))))))))
judgements_within Ended front = (omega arith, tt)

-- ---- what comes of the byte

pub fails_now : (phase : Phase) (before : List ℕ) (byte : ℕ) (after : List ℕ) (fault : WireFault) → after ≡ before ++ byte ∷ [] → fault_at phase after ≡ Some fault → FailsNow phase before byte after fault
fails_now phase before byte after fault held fails =
    let found = subst (λ (s : List ℕ). fault_at phase s ≡ Some fault) held fails in
    let below = fault_is_within (judgements phase (before ++ byte ∷ [])) (length (before ++ byte ∷ [])) fault (judgements_within phase (before ++ byte ∷ [])) found in
    record { held = held; fails = found; within = omega (arith, length-append before (byte ∷ [])) }

pub is_whole : (phase : Phase) (before : List ℕ) (byte : ℕ) (after : List ℕ) → after ≡ before ++ byte ∷ [] → NothingFails phase before → IsPartOfFrame before → fault_at phase after ≡ None → 10 ≤ length after → 10 + body_len_in after ≤ length after → IsWholeFrame phase after
is_whole phase before byte after held clean part passes there reached =
    let passes' = subst (λ (s : List ℕ). fault_at phase s ≡ None) held passes in
    let there' = subst (λ (s : List ℕ). 10 ≤ length s) held there in
    let reached' = subst (λ (s : List ℕ). 10 + body_len_in s ≤ length s) held reached in
    subst (λ (s : List ℕ). IsWholeFrame phase s) (sym held) (record {
      head_is_there = there';
      body_is_there = whole_more before byte part there' reached';
      nothing_fails = nothing_fails_more phase before byte clean passes';
    })

pub makes_frame : SymbolLaws → (phase : Phase) (before : List ℕ) (byte : ℕ) (after : List ℕ) (f : Frame) → after ≡ before ++ byte ∷ [] → AreBytes after → IsWholeFrame phase after → f ≡ frame_in phase after → MakesFrame phase before byte after f
makes_frame laws phase before byte after f held bytes whole f-is =
    let is = made laws phase after bytes whole in
    rw f-is (record { held = held; follows = is.0; spelled = sym held ∙ is.1 })
