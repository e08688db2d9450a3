-- One byte more.
use Rattle.std.proofs.Common.{◌≡◌, ◌⊎◌, ℕ, ◌+◌, ◌<◌, ◌≤◌, true, false, List, [], ◌∷◌, ◌++◌, length, Some, None, IsNone, refl, ap, sym, ◌∙◌, arith, append_assoc, inl, inr, leb}
use Rattle.std.proofs.lemmas.Bool.Decides.{leb_tells}
use Rattle.std.proofs.lemmas.Grind.{flat_map-append}
use Rattle.std.proofs.lemmas.List.{append-nil, length-append}
use Rattle.packet_wire.specs.declared.fault.WireFault.{WireFault}
use Rattle.packet_wire.specs.declared.frame.Frame.{Frame}
use Rattle.packet_wire.specs.declared.phase.Phase.{Phase}
use Rattle.packet_wire.specs.declared.phase.Phase.TheVariants.{BeforeManifest, BeforeTicket, BeforeEnd, Ended}
use Rattle.packet_wire.specs.Frames.{AreInOrder, MayFollow, frame_spelling, frames_spelling, phase_after, phase_past}
use Rattle.packet_wire.specs.Faults.{FailsFrom, IsPartOfFrame, IsReadFrom, NothingFails}
use Rattle.packet_wire.specs.Judgements.{body_judgements, body_len_in, fault_at, head_judgements, judgements}
use Rattle.packet_wire.specs.Making.{IsWholeFrame}
use Rattle.packet_wire.proofs.Fronts.{number32_of_front}
use Rattle.packet_wire.proofs.Readings.{longer_front}
use Rattle.packet_wire.proofs.Judging.{is_none}
use Rattle.packet_wire.proofs.Wholes.{IsMade}

-- ---- one frame more

pub phase_past_more : (phase : Phase) (fs : List Frame) (f : Frame) → phase_past phase (fs ++ f ∷ []) ≡ phase_after (phase_past phase fs) f
phase_past_more phase [] f = refl
phase_past_more phase (g ∷ fs) f = phase_past_more (phase_after phase g) fs f

pub in_order_more : (phase : Phase) (fs : List Frame) (f : Frame) → AreInOrder phase fs → MayFollow (phase_past phase fs) f → AreInOrder phase (fs ++ f ∷ [])
in_order_more phase [] f fs-are is = (is, tt)
in_order_more phase (g ∷ fs) f fs-are is = (fs-are.0, in_order_more (phase_after phase g) fs f fs-are.1 is)

pub frames_spelling_more : (fs : List Frame) (f : Frame) → frames_spelling (fs ++ f ∷ []) ≡ frames_spelling fs ++ frame_spelling f
frames_spelling_more fs f = flat_map-append frame_spelling fs (f ∷ []) ∙ ap (λ (s : List ℕ). frames_spelling fs ++ s) (append-nil (frame_spelling f))

-- ---- nothing fails in nothing

empty_front : (front more : List ℕ) → [] ≡ front ++ more → front ≡ []
empty_front [] more is = refl
empty_front (x ∷ front) more is = absurd cc

nothing_at_none : (phase : Phase) → fault_at phase [] ≡ None
unfolding judgements head_judgements body_judgements
nothing_at_none BeforeManifest = refl
nothing_at_none (BeforeTicket shape) = refl
nothing_at_none (BeforeEnd shape) = refl
nothing_at_none Ended = refl

pub nothing_fails_in_nothing : (phase : Phase) → NothingFails phase []
nothing_fails_in_nothing phase front more is =
    is_none (fault_at phase front) (ap (λ (s : List ℕ). fault_at phase s) (empty_front front more is) ∙ nothing_at_none phase)

pub nothing_is_part : IsPartOfFrame []
nothing_is_part there = absurd (omega (arith, there))

-- ---- one byte more in which nothing fails

front_of_more : (rest front more : List ℕ) (byte : ℕ) → rest ++ byte ∷ [] ≡ front ++ more → (front ≡ rest ++ byte ∷ []) ⊎ ((later : List ℕ) × (rest ≡ front ++ later))
front_of_more rest front [] byte is = inl (sym (append-nil front) ∙ sym is)
front_of_more rest front (x ∷ more) byte is =
    let len : length rest + 1 ≡ length front + (1 + length more) = omega (arith, ap length is, length-append rest (byte ∷ []), length-append front (x ∷ more)) in
    inr (longer_front front (x ∷ more) rest (byte ∷ []) (sym is) (omega arith))

pub nothing_fails_more : (phase : Phase) (rest : List ℕ) (byte : ℕ) → NothingFails phase rest → fault_at phase (rest ++ byte ∷ []) ≡ None → NothingFails phase (rest ++ byte ∷ [])
nothing_fails_more phase rest byte clean passes front more is =
    decided (front_of_more rest front more byte is)
  where
    decided : (front ≡ rest ++ byte ∷ []) ⊎ ((later : List ℕ) × (rest ≡ front ++ later)) → IsNone (fault_at phase front)
    decided (inl all) = is_none (fault_at phase front) (ap (λ (s : List ℕ). fault_at phase s) all ∙ passes)
    decided (inr some) = clean front some.0 some.1

-- with one byte more a part is whole where it is no part
pub whole_more : (rest : List ℕ) (byte : ℕ) → IsPartOfFrame rest → 10 ≤ length (rest ++ byte ∷ []) → 10 + body_len_in (rest ++ byte ∷ []) ≤ length (rest ++ byte ∷ []) → length (rest ++ byte ∷ []) ≡ 10 + body_len_in (rest ++ byte ∷ [])
whole_more rest byte part there reached =
    decided (leb_tells 10 (length rest))
  where
    decided : ((leb 10 (length rest) ≡ true) × (10 ≤ length rest)) ⊎ ((leb 10 (length rest) ≡ false) × (length rest < 10)) → length (rest ++ byte ∷ []) ≡ 10 + body_len_in (rest ++ byte ∷ [])
    decided (inl full) =
        let read = number32_of_front rest (byte ∷ []) 6 full.1 in
        let short = part full.1 in
        omega (arith, length-append rest (byte ∷ []))
    decided (inr few) = let short = few.1 in omega (arith, length-append rest (byte ∷ []))

-- ---- reading on

pub fails_next : (phase : Phase) (fed : List ℕ) (fs : List Frame) (rest : List ℕ) (byte : ℕ) (fault : WireFault) → IsReadFrom phase fed fs rest → fault_at (phase_past phase fs) (rest ++ byte ∷ []) ≡ Some fault → FailsFrom phase (fed ++ byte ∷ []) fs fault
fails_next phase fed fs rest byte fault read fails = record {
  before = fed;
  rest = rest;
  byte = byte;
  later = [];
  read = read;
  bytes_are = refl;
  fails = fails;
}

pub holds_next : (phase : Phase) (fed : List ℕ) (fs : List Frame) (rest : List ℕ) (byte : ℕ) → IsReadFrom phase fed fs rest → fault_at (phase_past phase fs) (rest ++ byte ∷ []) ≡ None → IsPartOfFrame (rest ++ byte ∷ []) → IsReadFrom phase (fed ++ byte ∷ []) fs (rest ++ byte ∷ [])
holds_next phase fed fs rest byte read passes part = record {
  in_order = read.in_order;
  spelled = ap (λ (s : List ℕ). s ++ byte ∷ []) read.spelled ∙ append_assoc (frames_spelling fs) rest (byte ∷ []);
  nothing_fails = nothing_fails_more (phase_past phase fs) rest byte read.nothing_fails passes;
  part = part;
}

pub gives_next : (phase : Phase) (fed : List ℕ) (fs : List Frame) (rest : List ℕ) (byte : ℕ) (f : Frame) → IsReadFrom phase fed fs rest → IsMade (phase_past phase fs) (rest ++ byte ∷ []) f → IsReadFrom phase (fed ++ byte ∷ []) (fs ++ f ∷ []) []
gives_next phase fed fs rest byte f read made = record {
  in_order = in_order_more phase fs f read.in_order made.0;
  spelled =
      ap (λ (s : List ℕ). s ++ byte ∷ []) read.spelled ∙ append_assoc (frames_spelling fs) rest (byte ∷ [])
      ∙ ap (λ (s : List ℕ). frames_spelling fs ++ s) made.1
      ∙ sym (frames_spelling_more fs f) ∙ sym (append-nil (frames_spelling (fs ++ f ∷ [])));
  nothing_fails = nothing_fails_in_nothing (phase_past phase (fs ++ f ∷ []));
  part = nothing_is_part;
}

-- a first failure stays, whatever comes
pub fails_on : (phase : Phase) (bytes more : List ℕ) (fs : List Frame) (fault : WireFault) → FailsFrom phase bytes fs fault → FailsFrom phase (bytes ++ more) fs fault
fails_on phase bytes more fs fault r = record {
  before = r.before;
  rest = r.rest;
  byte = r.byte;
  later = r.later ++ more;
  read = r.read;
  bytes_are = ap (λ (s : List ℕ). s ++ more) r.bytes_are ∙ append_assoc r.before (r.byte ∷ r.later) more;
  fails = r.fails;
}

pub whole_next : (phase : Phase) (fed : List ℕ) (fs : List Frame) (rest : List ℕ) (byte : ℕ) → IsReadFrom phase fed fs rest → fault_at (phase_past phase fs) (rest ++ byte ∷ []) ≡ None → 10 ≤ length (rest ++ byte ∷ []) → 10 + body_len_in (rest ++ byte ∷ []) ≤ length (rest ++ byte ∷ []) → IsWholeFrame (phase_past phase fs) (rest ++ byte ∷ [])
whole_next phase fed fs rest byte read passes there reached = record {
  head_is_there = there;
  body_is_there = whole_more rest byte read.part there reached;
  nothing_fails = nothing_fails_more (phase_past phase fs) rest byte read.nothing_fails passes;
}
