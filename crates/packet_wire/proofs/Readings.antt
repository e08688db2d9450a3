-- Bytes are read as frames in one way at most.
use Rattle.std.proofs.Common.{◌≡◌, ◌⊎◌, ℕ, ◌+◌, ◌<◌, ◌≤◌, ◌^◌, true, false, List, [], ◌∷◌, ◌++◌, length, Some, None, refl, ap, sym, subst, ◌∙◌, arith, append_assoc, inl, inr, leb}
use Rattle.std.proofs.lemmas.Bool.Decides.{leb_tells}
use Rattle.std.proofs.lemmas.List.{length-append}
use Rattle.linear_spec.specs.SymbolLaws.{SymbolLaws}
use Rattle.linear_spec.specs.Symbols.{be_bytes_of, symbols_of}
use Rattle.generation.specs.declared.ticket.Ticket.{Ticket}
use Rattle.generation.specs.Shape.{Dimensions}
use Rattle.packet_wire.specs.declared.fault.WireFault.{WireFault}
use Rattle.packet_wire.specs.declared.frame.Frame.{Frame}
use Rattle.packet_wire.specs.declared.frame.Frame.TheVariants as frames
use Rattle.packet_wire.specs.declared.phase.Phase.{Phase}
use Rattle.packet_wire.specs.declared.phase.Phase.TheVariants.{BeforeManifest, BeforeTicket, BeforeEnd, Ended}
use Rattle.packet_wire.specs.Frame.{frame, head}
use Rattle.packet_wire.specs.Stream.{IsTicket, manifest_body, ticket_body, packet_body}
use Rattle.packet_wire.specs.Frames.{AreInOrder, MayFollow, frame_spelling, frames_spelling, phase_after, phase_past}
use Rattle.packet_wire.specs.Faults.{FailsFrom, IsPartOfFrame, IsReadFrom, NothingFails}
use Rattle.packet_wire.specs.Judgements.{body_len_in, fault_at}
use Rattle.packet_wire.proofs.Bodies.{length-manifest_body, manifest_body_unique}
use Rattle.packet_wire.proofs.Frames.{frame_unique, fronts_of_one_length}
use Rattle.packet_wire.proofs.Fronts.{number32_of_front}
use Rattle.packet_wire.proofs.Judging.{none}
use Rattle.packet_wire.proofs.OneReading.{packet_body_unique}
use Rattle.packet_wire.proofs.Packets.{length-packet_body}
use Rattle.packet_wire.proofs.Spellings.{HasShape, len_read, length-ticket_body, short_ticket, spelling_is_clean}

-- ---- a frame as its kind and its body

abbrev pub kind_of : Frame → ℕ
kind_of (frames.Manifest m) = 1
kind_of (frames.Ticket t) = 2
kind_of (frames.Packet p) = 3
kind_of frames.End = 4

abbrev pub body_of : Frame → List ℕ
body_of (frames.Manifest m) = manifest_body m
body_of (frames.Ticket t) = ticket_body t
body_of (frames.Packet p) = packet_body p
body_of frames.End = []

pub spelled_by_body : (f : Frame) → frame_spelling f ≡ frame (kind_of f) (body_of f)
spelled_by_body (frames.Manifest m) = refl
spelled_by_body (frames.Ticket t) = refl
spelled_by_body (frames.Packet p) = refl
spelled_by_body frames.End = refl

pub length-frame : (kind : ℕ) (body : List ℕ) → length (frame kind body) ≡ 10 + length body
unfolding frame head
length-frame kind body = omega arith

-- a body is short enough for the head to tell its length
short_body : SymbolLaws → (phase : Phase) (f : Frame) → HasShape phase → MayFollow phase f → length (body_of f) < 2 ^ 32
short_body laws BeforeManifest (frames.Manifest m) has is = omega (arith, length-manifest_body m is)
short_body laws BeforeManifest (frames.Ticket t) has is = absurd is
short_body laws BeforeManifest (frames.Packet p) has is = absurd is
short_body laws BeforeManifest frames.End has is = absurd is
short_body laws (BeforeTicket shape) (frames.Manifest m) has is = absurd is
short_body laws (BeforeTicket shape) (frames.Ticket t) has is = omega (arith, length-ticket_body laws shape t is, short_ticket shape t.checks has is.checks)
short_body laws (BeforeTicket shape) (frames.Packet p) has is = absurd is
short_body laws (BeforeTicket shape) frames.End has is = absurd is
short_body laws (BeforeEnd shape) (frames.Manifest m) has is = absurd is
short_body laws (BeforeEnd shape) (frames.Ticket t) has is = absurd is
short_body laws (BeforeEnd shape) (frames.Packet p) has is = let k = has.k in let block = has.block in omega (arith, length-packet_body laws shape p is)
short_body laws (BeforeEnd shape) frames.End has is = omega arith
short_body laws Ended (frames.Manifest m) has is = absurd is
short_body laws Ended (frames.Ticket t) has is = absurd is
short_body laws Ended (frames.Packet p) has is = absurd is
short_body laws Ended frames.End has is = absurd is

-- what the head of a frame tells, whatever follows the frame
pub record IsMeasured (f : Frame) (later : List ℕ) : Type 0 where
  pub long : 10 ≤ length (frame_spelling f)
  pub told : length (frame_spelling f) ≡ 10 + body_len_in (frame_spelling f ++ later)

pub measured : SymbolLaws → (phase : Phase) (f : Frame) (later : List ℕ) → HasShape phase → MayFollow phase f → IsMeasured f later
measured laws phase f later has is =
    let short = short_body laws phase f has is in
    let len : length (frame_spelling f) ≡ 10 + length (body_of f) = ap length (spelled_by_body f) ∙ length-frame (kind_of f) (body_of f) in
    let told : body_len_in (frame_spelling f) ≡ length (body_of f) = ap body_len_in (spelled_by_body f) ∙ len_read (kind_of f) (body_of f) short in
    let front = number32_of_front (frame_spelling f) later 6 (omega arith) in
    record { long = omega arith; told = omega arith }

-- ---- a frame at the front is known by its bytes

ticket_body_unique : SymbolLaws → (shape : Dimensions) (t u : Ticket) → IsTicket shape t → IsTicket shape u → ticket_body t ≡ ticket_body u → t ≡ u
unfolding ticket_body
ticket_body_unique laws shape t u t-is u-is same =
    let parts = fronts_of_one_length t.key u.key (t.checks ∷ be_bytes_of t.sums) (u.checks ∷ be_bytes_of u.sums) (t-is.key_length ∙ sym u-is.key_length) same in
    let keys : t.key ≡ u.key = parts.0 in
    let after : t.checks ∷ be_bytes_of t.sums ≡ u.checks ∷ be_bytes_of u.sums = parts.1 in
    let checks : t.checks ≡ u.checks = cc in
    let bytes : be_bytes_of t.sums ≡ be_bytes_of u.sums = cc in
    let sums : t.sums ≡ u.sums = sym (laws.symbols t.sums t-is.sums.symbols) ∙ ap symbols_of bytes ∙ laws.symbols u.sums u-is.sums.symbols in
    rw (keys, checks, sums) refl

same_of_bodies : SymbolLaws → (phase : Phase) (f g : Frame) → HasShape phase → MayFollow phase f → MayFollow phase g → kind_of f ≡ kind_of g → body_of f ≡ body_of g → f ≡ g
same_of_bodies laws BeforeManifest (frames.Manifest m) (frames.Manifest n) has f-is g-is kinds bodies =
    ap frames.Manifest (manifest_body_unique m.shape.len m.shape.k m.shape.block m.digest n (omega (arith, f-is.shape.len)) (omega (arith, f-is.shape.k)) (omega (arith, f-is.shape.block)) g-is bodies)
same_of_bodies laws BeforeManifest (frames.Manifest m) (frames.Ticket t) has f-is g-is kinds bodies = absurd g-is
same_of_bodies laws BeforeManifest (frames.Manifest m) (frames.Packet p) has f-is g-is kinds bodies = absurd g-is
same_of_bodies laws BeforeManifest (frames.Manifest m) frames.End has f-is g-is kinds bodies = absurd g-is
same_of_bodies laws BeforeManifest (frames.Ticket t) g has f-is g-is kinds bodies = absurd f-is
same_of_bodies laws BeforeManifest (frames.Packet p) g has f-is g-is kinds bodies = absurd f-is
same_of_bodies laws BeforeManifest frames.End g has f-is g-is kinds bodies = absurd f-is
same_of_bodies laws (BeforeTicket shape) (frames.Ticket t) (frames.Ticket u) has f-is g-is kinds bodies =
    ap frames.Ticket (ticket_body_unique laws shape t u f-is g-is bodies)
same_of_bodies laws (BeforeTicket shape) (frames.Ticket t) (frames.Manifest m) has f-is g-is kinds bodies = absurd g-is
same_of_bodies laws (BeforeTicket shape) (frames.Ticket t) (frames.Packet p) has f-is g-is kinds bodies = absurd g-is
same_of_bodies laws (BeforeTicket shape) (frames.Ticket t) frames.End has f-is g-is kinds bodies = absurd g-is
same_of_bodies laws (BeforeTicket shape) (frames.Manifest m) g has f-is g-is kinds bodies = absurd f-is
same_of_bodies laws (BeforeTicket shape) (frames.Packet p) g has f-is g-is kinds bodies = absurd f-is
same_of_bodies laws (BeforeTicket shape) frames.End g has f-is g-is kinds bodies = absurd f-is
same_of_bodies laws (BeforeEnd shape) (frames.Packet p) (frames.Packet q) has f-is g-is kinds bodies =
    ap frames.Packet (packet_body_unique laws shape p q (omega (arith, has.generations)) f-is g-is bodies)
same_of_bodies laws (BeforeEnd shape) (frames.Packet p) frames.End has f-is g-is kinds bodies = absurd (omega (arith, kinds))
same_of_bodies laws (BeforeEnd shape) (frames.Packet p) (frames.Manifest m) has f-is g-is kinds bodies = absurd g-is
same_of_bodies laws (BeforeEnd shape) (frames.Packet p) (frames.Ticket t) has f-is g-is kinds bodies = absurd g-is
same_of_bodies laws (BeforeEnd shape) frames.End frames.End has f-is g-is kinds bodies = refl
same_of_bodies laws (BeforeEnd shape) frames.End (frames.Packet p) has f-is g-is kinds bodies = absurd (omega (arith, kinds))
same_of_bodies laws (BeforeEnd shape) frames.End (frames.Manifest m) has f-is g-is kinds bodies = absurd g-is
same_of_bodies laws (BeforeEnd shape) frames.End (frames.Ticket t) has f-is g-is kinds bodies = absurd g-is
same_of_bodies laws (BeforeEnd shape) (frames.Manifest m) g has f-is g-is kinds bodies = absurd f-is
same_of_bodies laws (BeforeEnd shape) (frames.Ticket t) g has f-is g-is kinds bodies = absurd f-is
same_of_bodies laws Ended (frames.Manifest m) g has f-is g-is kinds bodies = absurd f-is
same_of_bodies laws Ended (frames.Ticket t) g has f-is g-is kinds bodies = absurd f-is
same_of_bodies laws Ended (frames.Packet p) g has f-is g-is kinds bodies = absurd f-is
same_of_bodies laws Ended frames.End g has f-is g-is kinds bodies = absurd f-is

pub same_frame : SymbolLaws → (phase : Phase) (f g : Frame) (x y : List ℕ) → HasShape phase → MayFollow phase f → MayFollow phase g → frame_spelling f ++ x ≡ frame_spelling g ++ y → (f ≡ g) × (x ≡ y)
same_frame laws phase f g x y has f-is g-is same =
    let f-short = short_body laws phase f has f-is in
    let g-short = short_body laws phase g has g-is in
    let framed = ap (λ (s : List ℕ). s ++ x) (sym (spelled_by_body f)) ∙ same ∙ ap (λ (s : List ℕ). s ++ y) (spelled_by_body g) in
    let one = frame_unique (kind_of f) (kind_of g) (body_of f) (body_of g) x y f-short g-short framed in
    (same_of_bodies laws phase f g has f-is g-is one.kinds one.bodies, one.rests)

-- ---- the shape is that of a manifest that was read

pub shape_kept : (phase : Phase) (f : Frame) → HasShape phase → MayFollow phase f → HasShape (phase_after phase f)
shape_kept BeforeManifest (frames.Manifest m) has is = is.shape
shape_kept BeforeManifest (frames.Ticket t) has is = absurd is
shape_kept BeforeManifest (frames.Packet p) has is = absurd is
shape_kept BeforeManifest frames.End has is = tt
shape_kept (BeforeTicket shape) (frames.Manifest m) has is = absurd is
shape_kept (BeforeTicket shape) (frames.Ticket t) has is = has
shape_kept (BeforeTicket shape) (frames.Packet p) has is = has
shape_kept (BeforeTicket shape) frames.End has is = tt
shape_kept (BeforeEnd shape) (frames.Manifest m) has is = absurd is
shape_kept (BeforeEnd shape) (frames.Ticket t) has is = has
shape_kept (BeforeEnd shape) (frames.Packet p) has is = has
shape_kept (BeforeEnd shape) frames.End has is = tt
shape_kept Ended (frames.Manifest m) has is = absurd is
shape_kept Ended (frames.Ticket t) has is = has
shape_kept Ended (frames.Packet p) has is = has
shape_kept Ended frames.End has is = tt

pub shape_past : (phase : Phase) (fs : List Frame) → HasShape phase → AreInOrder phase fs → HasShape (phase_past phase fs)
shape_past phase [] has in-order = has
shape_past phase (f ∷ fs) has in-order = shape_past (phase_after phase f) fs (shape_kept phase f has in-order.0) in-order.1

-- ---- frames, and then bytes that are no frame

-- no frame that may follow stands at the front
abbrev pub NoFrameAt : Phase → List ℕ → Type 0
NoFrameAt phase bytes = (f : Frame) (later : List ℕ) → MayFollow phase f → bytes ≡ frame_spelling f ++ later → ⊥

pub one_way : SymbolLaws → (phase : Phase) (fs gs : List Frame) (x y : List ℕ) → HasShape phase → AreInOrder phase fs → AreInOrder phase gs → NoFrameAt (phase_past phase fs) x → NoFrameAt (phase_past phase gs) y → frames_spelling fs ++ x ≡ frames_spelling gs ++ y → (fs ≡ gs) × (x ≡ y)
one_way laws phase [] [] x y has fs-are gs-are no-x no-y same = (refl, same)
one_way laws phase [] (g ∷ gs) x y has fs-are gs-are no-x no-y same =
    absurd (no-x g (frames_spelling gs ++ y) gs-are.0 (same ∙ append_assoc (frame_spelling g) (frames_spelling gs) y))
one_way laws phase (f ∷ fs) [] x y has fs-are gs-are no-x no-y same =
    absurd (no-y f (frames_spelling fs ++ x) fs-are.0 (sym same ∙ append_assoc (frame_spelling f) (frames_spelling fs) x))
one_way laws phase (f ∷ fs) (g ∷ gs) x y has fs-are gs-are no-x no-y same =
    let joined = sym (append_assoc (frame_spelling f) (frames_spelling fs) x) ∙ same ∙ append_assoc (frame_spelling g) (frames_spelling gs) y in
    let first = same_frame laws phase f g (frames_spelling fs ++ x) (frames_spelling gs ++ y) has fs-are.0 gs-are.0 joined in
    let one : f ≡ g = first.0 in
    let gs-are' : AreInOrder (phase_after phase f) gs = subst (λ (h : Frame). AreInOrder (phase_after phase h) gs) (sym one) gs-are.1 in
    let no-y' : NoFrameAt (phase_past (phase_after phase f) gs) y = subst (λ (h : Frame). NoFrameAt (phase_past (phase_after phase h) gs) y) (sym one) no-y in
    let rest = one_way laws (phase_after phase f) fs gs x y (shape_kept phase f has fs-are.0) fs-are.1 gs-are' no-x no-y' first.1 in
    let others : fs ≡ gs = rest.0 in
    (cc, rest.1)

-- a part of a frame is none
pub no_frame_in_part : SymbolLaws → (phase : Phase) (rest : List ℕ) → HasShape phase → IsPartOfFrame rest → NoFrameAt phase rest
no_frame_in_part laws phase rest has part f later is spelled =
    let m = measured laws phase f later has is in
    let len : length rest ≡ length (frame_spelling f) + length later = ap length spelled ∙ length-append (frame_spelling f) later in
    let told : body_len_in rest ≡ body_len_in (frame_spelling f ++ later) = ap body_len_in spelled in
    let short = part (omega (arith, m.long)) in
    omega (arith, m.told)

-- of two fronts of one list the longer begins with the shorter
pub longer_front : (a x b y : List ℕ) → a ++ x ≡ b ++ y → length a ≤ length b → (more : List ℕ) × (b ≡ a ++ more)
longer_front [] x b y same short = (b, refl)
longer_front (c ∷ a) x [] y same short = absurd (omega arith)
longer_front (c ∷ a) x (d ∷ b) y same short =
    let heads : c ≡ d = cc in
    let tails : a ++ x ≡ b ++ y = cc in
    let rest = longer_front a x b y tails (omega arith) in
    let rest-is : b ≡ a ++ rest.0 = rest.1 in
    (rest.0, cc)

-- and not all of one
part_is_shorter : SymbolLaws → (rest more : List ℕ) (f : Frame) (after : List ℕ) → IsMeasured f after → IsPartOfFrame rest → rest ++ more ≡ frame_spelling f ++ after → length rest < length (frame_spelling f)
part_is_shorter laws rest more f after m part same =
    let told : body_len_in (rest ++ more) ≡ body_len_in (frame_spelling f ++ after) = ap body_len_in same in
    let long = m.long in
    let len = m.told in
    decided (leb_tells 10 (length rest)) told long len
  where
    decided : ((leb 10 (length rest) ≡ true) × (10 ≤ length rest)) ⊎ ((leb 10 (length rest) ≡ false) × (length rest < 10)) → body_len_in (rest ++ more) ≡ body_len_in (frame_spelling f ++ after) → 10 ≤ length (frame_spelling f) → length (frame_spelling f) ≡ 10 + body_len_in (frame_spelling f ++ after) → length rest < length (frame_spelling f)
    decided (inl there) told long len =
        let read = number32_of_front rest more 6 there.1 in
        let short = part there.1 in
        omega arith
    decided (inr few) told long len = let short = few.1 in omega arith

-- nor is there one where a judgement fails
pub no_frame_in_failing : SymbolLaws → (phase : Phase) (rest : List ℕ) (byte : ℕ) (later : List ℕ) (fault : WireFault) → HasShape phase → IsPartOfFrame rest → fault_at phase (rest ++ byte ∷ []) ≡ Some fault → NoFrameAt phase (rest ++ byte ∷ later)
no_frame_in_failing laws phase rest byte later fault has part fails f after is spelled =
    let m = measured laws phase f after has is in
    let short = part_is_shorter laws rest (byte ∷ later) f after m part spelled in
    let joined : (rest ++ byte ∷ []) ++ later ≡ frame_spelling f ++ after = append_assoc rest (byte ∷ []) later ∙ spelled in
    let front = longer_front (rest ++ byte ∷ []) later (frame_spelling f) after joined (omega (arith, length-append rest (byte ∷ []))) in
    let passes = none (fault_at phase (rest ++ byte ∷ [])) (spelling_is_clean laws phase f has is (rest ++ byte ∷ []) front.0 front.1) in
    absurd (let wrong : None ≡ Some fault = sym passes ∙ fails in cc)

-- ---- one reading, one first fault, and not both

pub one_reading : SymbolLaws → (phase : Phase) (bytes : List ℕ) (fs gs : List Frame) (x y : List ℕ) → HasShape phase → IsReadFrom phase bytes fs x → IsReadFrom phase bytes gs y → (fs ≡ gs) × (x ≡ y)
one_reading laws phase bytes fs gs x y has r s =
    one_way laws phase fs gs x y has r.in_order s.in_order
    (no_frame_in_part laws (phase_past phase fs) x (shape_past phase fs has r.in_order) r.part)
    (no_frame_in_part laws (phase_past phase gs) y (shape_past phase gs has s.in_order) s.part)
    (sym r.spelled ∙ s.spelled)

-- bytes that fail, as frames and what is no frame
pub failing_spelled : (phase : Phase) (bytes : List ℕ) (fs : List Frame) (fault : WireFault) (r : FailsFrom phase bytes fs fault) → bytes ≡ frames_spelling fs ++ (r.rest ++ r.byte ∷ r.later)
failing_spelled phase bytes fs fault r =
    r.bytes_are ∙ ap (λ (s : List ℕ). s ++ r.byte ∷ r.later) r.read.spelled ∙ append_assoc (frames_spelling fs) r.rest (r.byte ∷ r.later)

pub failing_no_frame : SymbolLaws → (phase : Phase) (bytes : List ℕ) (fs : List Frame) (fault : WireFault) → HasShape phase → (r : FailsFrom phase bytes fs fault) → NoFrameAt (phase_past phase fs) (r.rest ++ r.byte ∷ r.later)
failing_no_frame laws phase bytes fs fault has r =
    no_frame_in_failing laws (phase_past phase fs) r.rest r.byte r.later fault (shape_past phase fs has r.read.in_order) r.read.part r.fails

pub not_both : SymbolLaws → (phase : Phase) (bytes : List ℕ) (fs gs : List Frame) (x : List ℕ) (fault : WireFault) → HasShape phase → IsReadFrom phase bytes fs x → FailsFrom phase bytes gs fault → ⊥
not_both laws phase bytes fs gs x fault has r s =
    let one = one_way laws phase fs gs x (s.rest ++ s.byte ∷ s.later) has r.in_order s.read.in_order
    (no_frame_in_part laws (phase_past phase fs) x (shape_past phase fs has r.in_order) r.part)
    (failing_no_frame laws phase bytes gs fault has s)
    (sym r.spelled ∙ failing_spelled phase bytes gs fault s) in
    let clean = none (fault_at (phase_past phase fs) (s.rest ++ s.byte ∷ [])) (r.nothing_fails (s.rest ++ s.byte ∷ []) s.later (one.1 ∙ sym (append_assoc s.rest (s.byte ∷ []) s.later))) in
    let fails : fault_at (phase_past phase fs) (s.rest ++ s.byte ∷ []) ≡ Some fault =
    subst (λ (hs : List Frame). fault_at (phase_past phase hs) (s.rest ++ s.byte ∷ []) ≡ Some fault) (sym one.0) s.fails in
    let wrong : None ≡ Some fault = sym clean ∙ fails in
    absurd cc

-- the shorter of two parts ends where a judgement fails, so it is not shorter
not_shorter : (phase : Phase) (x : List ℕ) (b : ℕ) (l y : List ℕ) (c : ℕ) (k : List ℕ) (fault : WireFault) → x ++ b ∷ l ≡ y ++ c ∷ k → NothingFails phase y → fault_at phase (x ++ b ∷ []) ≡ Some fault → length x < length y → ⊥
not_shorter phase x b l y c k fault same clean fails short =
    let front = longer_front (x ++ b ∷ []) l y (c ∷ k) (append_assoc x (b ∷ []) l ∙ same) (omega (arith, length-append x (b ∷ []))) in
    let passes = none (fault_at phase (x ++ b ∷ [])) (clean (x ++ b ∷ []) front.0 front.1) in
    absurd (let wrong : None ≡ Some fault = sym passes ∙ fails in cc)

one_fault : (phase : Phase) (x : List ℕ) (b : ℕ) (l y : List ℕ) (c : ℕ) (k : List ℕ) (f g : WireFault) → x ++ b ∷ l ≡ y ++ c ∷ k → NothingFails phase x → NothingFails phase y → fault_at phase (x ++ b ∷ []) ≡ Some f → fault_at phase (y ++ c ∷ []) ≡ Some g → f ≡ g
one_fault phase x b l y c k f g same x-clean y-clean x-fails y-fails =
    let x-not : length x < length y → ⊥ = not_shorter phase x b l y c k f same y-clean x-fails in
    let y-not : length y < length x → ⊥ = not_shorter phase y c k x b l g (sym same) x-clean y-fails in
    let len : length x ≡ length y = equal (length x) (length y) x-not y-not in
    let fronts = fronts_of_one_length x y (b ∷ l) (c ∷ k) len same in
    let starts : x ≡ y = fronts.0 in
    let tails : b ∷ l ≡ c ∷ k = fronts.1 in
    let bytes : b ≡ c = cc in
    let found : Some f ≡ Some g = sym x-fails ∙ ap (λ (s : List ℕ). fault_at phase (s ++ b ∷ [])) starts ∙ ap (λ (n : ℕ). fault_at phase (y ++ n ∷ [])) bytes ∙ y-fails in
    cc
  where
    equal : (m n : ℕ) → (m < n → ⊥) → (n < m → ⊥) → m ≡ n
    equal m n not-less not-more = omega (arith, not-less, not-more)

pub one_failure : SymbolLaws → (phase : Phase) (bytes : List ℕ) (fs gs : List Frame) (f g : WireFault) → HasShape phase → FailsFrom phase bytes fs f → FailsFrom phase bytes gs g → (fs ≡ gs) × (f ≡ g)
one_failure laws phase bytes fs gs f g has r s =
    let one = one_way laws phase fs gs (r.rest ++ r.byte ∷ r.later) (s.rest ++ s.byte ∷ s.later) has r.read.in_order s.read.in_order
    (failing_no_frame laws phase bytes fs f has r) (failing_no_frame laws phase bytes gs g has s)
    (sym (failing_spelled phase bytes fs f r) ∙ failing_spelled phase bytes gs g s) in
    let clean : NothingFails (phase_past phase fs) s.rest = subst (λ (hs : List Frame). NothingFails (phase_past phase hs) s.rest) (sym one.0) s.read.nothing_fails in
    let fails : fault_at (phase_past phase fs) (s.rest ++ s.byte ∷ []) ≡ Some g =
    subst (λ (hs : List Frame). fault_at (phase_past phase hs) (s.rest ++ s.byte ∷ []) ≡ Some g) (sym one.0) s.fails in
    (one.0, one_fault (phase_past phase fs) r.rest r.byte r.later s.rest s.byte s.later f g one.1 r.read.nothing_fails clean r.fails fails)
