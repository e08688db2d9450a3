-- A stream is what is read up to the frame of an end, with nothing left.
use Rattle.std.proofs.Common.{◌≡◌, ◌≢◌, ◌⊎◌, ℕ, ◌+◌, ◌<◌, ◌≤◌, ◌^◌, true, false, List, [], ◌∷◌, ◌++◌, length, map, Option, Some, None, refl, ap, sym, subst, ◌∙◌, arith, append_assoc, inl, inr, leb}
use Rattle.std.specs.List.{All, flat_map}
use Rattle.std.proofs.lemmas.Bool.Decides.{leb_tells}
use Rattle.std.proofs.lemmas.List.{append-nil}
use Rattle.std.proofs.lemmas.List.Elements.{All-append, All-cons, All-head, All-nil, All-tail}
use Rattle.linear_spec.specs.SymbolLaws.{SymbolLaws}
use Rattle.linear_spec.specs.Symbols.{AreBytes}
use Rattle.linear_spec.specs.declared.packet.Packet.{Packet}
use Rattle.generation.specs.Shape.{Dimensions}
use Rattle.packet_wire.specs.declared.fault.FaultKind.TheVariants as kinds
use Rattle.packet_wire.specs.declared.fault.WireFault.{WireFault}
use Rattle.packet_wire.specs.declared.frame.Frame.{Frame}
use Rattle.packet_wire.specs.declared.frame.Frame.TheVariants as frames
use Rattle.packet_wire.specs.declared.manifest.Manifest.{Manifest}
use Rattle.packet_wire.specs.declared.phase.Phase.{Phase}
use Rattle.packet_wire.specs.declared.phase.Phase.TheVariants.{BeforeManifest, BeforeTicket, BeforeEnd, Ended}
use Rattle.packet_wire.specs.Stream.{Contents, IsPacket, IsStream, spelling_of, manifest_frame, ticket_frame, packet_frame, end_frame}
use Rattle.packet_wire.specs.Frames.{AreInOrder, frames_of, frames_spelling, phase_past}
use Rattle.packet_wire.specs.Faults.{FailsAfter, FailsFrom, IsFirstFault, IsRead, NothingFails, moved_by}
use Rattle.packet_wire.specs.Judgements.{body_len_in, fault_at, judgements}
use Rattle.packet_wire.specs.Making.{frame_in}
use Rattle.packet_wire.specs.Decoding.{AreStreamFrames}
use Rattle.packet_wire.proofs.Judging.{none}
use Rattle.packet_wire.proofs.Readings.{not_both, one_failure, one_reading}
use Rattle.packet_wire.proofs.Steps.{fails_next, fails_on, gives_next, holds_next, nothing_fails_in_nothing, nothing_is_part, whole_next}
use Rattle.packet_wire.proofs.Wholes.{made}

-- ---- the frames of a stream stand in order, and are its spelling

abbrev tail_of : List Packet → List Frame
tail_of packets = map frames.Packet packets ++ frames.End ∷ []

tail_in_order : (shape : Dimensions) (ps : List Packet) → All (IsPacket shape) ps → AreInOrder (BeforeEnd shape) (tail_of ps)
tail_in_order shape [] are = (tt, tt)
tail_in_order shape (p ∷ ps) are = (All-head (IsPacket shape) p ps are, tail_in_order shape ps (All-tail (IsPacket shape) p ps are))

tail_past : (shape : Dimensions) (ps : List Packet) → phase_past (BeforeEnd shape) (tail_of ps) ≡ Ended
tail_past shape [] = refl
tail_past shape (p ∷ ps) = tail_past shape ps

tail_spelled : (ps : List Packet) → frames_spelling (tail_of ps) ≡ flat_map packet_frame ps ++ end_frame
tail_spelled [] = append-nil end_frame
tail_spelled (p ∷ ps) = ap (λ (s : List ℕ). packet_frame p ++ s) (tail_spelled ps) ∙ sym (append_assoc (packet_frame p) (flat_map packet_frame ps) end_frame)

pub frames_are_past : (c : Contents) → phase_past BeforeManifest (frames_of c) ≡ Ended
frames_are_past c = tail_past c.manifest.shape c.packets

pub frames_spelled : (c : Contents) → spelling_of c ≡ frames_spelling (frames_of c)
unfolding spelling_of
frames_spelled c = ap (λ (s : List ℕ). manifest_frame c.manifest ++ (ticket_frame c.ticket ++ s)) (sym (tail_spelled c.packets))

pub stream_is_read : (bytes : List ℕ) (c : Contents) → IsStream bytes c → IsRead bytes (frames_of c) []
stream_is_read bytes c is = record {
  in_order = (is.manifest, (is.ticket, tail_in_order c.manifest.shape c.packets is.packets));
  spelled = is.spelled ∙ frames_spelled c ∙ sym (append-nil (frames_spelling (frames_of c)));
  nothing_fails = nothing_fails_in_nothing (phase_past BeforeManifest (frames_of c));
  part = nothing_is_part;
}

-- ---- and frames up to an end are those of a stream

record AreTail (shape : Dimensions) (fs : List Frame) : Type 0 where
  pub packets : List Packet
  pub are : All (IsPacket shape) packets
  pub frames_are : fs ≡ tail_of packets

none_after_end : (fs : List Frame) → AreInOrder Ended fs → fs ≡ []
none_after_end [] in-order = refl
none_after_end (frames.Manifest m ∷ fs) in-order = absurd in-order.0
none_after_end (frames.Ticket t ∷ fs) in-order = absurd in-order.0
none_after_end (frames.Packet p ∷ fs) in-order = absurd in-order.0
none_after_end (frames.End ∷ fs) in-order = absurd in-order.0

one_more_packet : (shape : Dimensions) (p : Packet) (fs : List Frame) → IsPacket shape p → AreTail shape fs → AreTail shape (frames.Packet p ∷ fs)
one_more_packet shape p fs is tail = record {
  packets = p ∷ tail.packets;
  are = All-cons (IsPacket shape) p tail.packets is tail.are;
  frames_are = ap (λ (gs : List Frame). frames.Packet p ∷ gs) tail.frames_are;
}

tail_ends : (shape : Dimensions) (fs : List Frame) → AreInOrder (BeforeEnd shape) fs → phase_past (BeforeEnd shape) fs ≡ Ended → AreTail shape fs
tail_ends shape [] in-order past = absurd cc
tail_ends shape (frames.Manifest m ∷ fs) in-order past = absurd in-order.0
tail_ends shape (frames.Ticket t ∷ fs) in-order past = absurd in-order.0
tail_ends shape (frames.Packet p ∷ fs) in-order past = one_more_packet shape p fs in-order.0 (tail_ends shape fs in-order.1 past)
tail_ends shape (frames.End ∷ fs) in-order past = record {
  packets = [];
  are = All-nil (IsPacket shape);
  frames_are = ap (λ (gs : List Frame). frames.End ∷ gs) (none_after_end fs in-order.1);
}

nothing_past_end : (rest : List ℕ) → NothingFails Ended rest → rest ≡ []
unfolding judgements
nothing_past_end [] clean = refl
nothing_past_end (x ∷ rest) clean = absurd (let wrong : fault_at Ended (x ∷ []) ≡ None = none (fault_at Ended (x ∷ [])) (clean (x ∷ []) rest refl) in cc)

past_ticket : (bytes : List ℕ) (m : Manifest) (fs : List Frame) → IsRead bytes (frames.Manifest m ∷ fs) [] → AreInOrder (BeforeTicket m.shape) fs → phase_past (BeforeTicket m.shape) fs ≡ Ended → AreStreamFrames bytes (frames.Manifest m ∷ fs)
past_ticket bytes m [] read in-order past = absurd cc
past_ticket bytes m (frames.Manifest n ∷ fs) read in-order past = absurd in-order.0
past_ticket bytes m (frames.Packet p ∷ fs) read in-order past = absurd in-order.0
past_ticket bytes m (frames.End ∷ fs) read in-order past = absurd in-order.0
past_ticket bytes m (frames.Ticket t ∷ fs) read in-order past =
    let tail = tail_ends m.shape fs in-order.1 past in
    let c : Contents = record { manifest = m; ticket = t; packets = tail.packets } in
    let given : frames.Manifest m ∷ (frames.Ticket t ∷ fs) ≡ frames_of c = ap (λ (gs : List Frame). frames.Manifest m ∷ (frames.Ticket t ∷ gs)) tail.frames_are in (
      c,
      record {
        manifest = read.in_order.0;
        ticket = in-order.0;
        packets = tail.are;
        spelled = read.spelled ∙ append-nil (frames_spelling (frames.Manifest m ∷ (frames.Ticket t ∷ fs))) ∙ ap frames_spelling given ∙ sym (frames_spelled c);
      },
      given,
    )

read_up_to_end : (bytes : List ℕ) (fs : List Frame) → IsRead bytes fs [] → phase_past BeforeManifest fs ≡ Ended → AreStreamFrames bytes fs
read_up_to_end bytes [] read past = absurd cc
read_up_to_end bytes (frames.Manifest m ∷ fs) read past = past_ticket bytes m fs read read.in_order.1 past
read_up_to_end bytes (frames.Ticket t ∷ fs) read past = absurd read.in_order.0
read_up_to_end bytes (frames.Packet p ∷ fs) read past = absurd read.in_order.0
read_up_to_end bytes (frames.End ∷ fs) read past = absurd read.in_order.0

pub read_is_stream : (bytes : List ℕ) (fs : List Frame) (rest : List ℕ) → IsRead bytes fs rest → phase_past BeforeManifest fs ≡ Ended → AreStreamFrames bytes fs
read_is_stream bytes fs rest read past =
    let none = nothing_past_end rest (subst (λ (phase : Phase). NothingFails phase rest) past read.nothing_fails) in
    read_up_to_end bytes fs (subst (λ (s : List ℕ). IsRead bytes fs s) none read) past

-- ---- the laws

same_packets : (ps qs : List Packet) → tail_of ps ≡ tail_of qs → ps ≡ qs
same_packets [] [] same = refl
same_packets [] (q ∷ qs) same = absurd cc
same_packets (p ∷ ps) [] same = absurd cc
same_packets (p ∷ ps) (q ∷ qs) same =
    let heads : p ≡ q = cc in
    let tails : tail_of ps ≡ tail_of qs = cc in
    let others = same_packets ps qs tails in
    cc

pub same_contents : (c d : Contents) → frames_of c ≡ frames_of d → c ≡ d
same_contents c d same =
    let manifests : c.manifest ≡ d.manifest = cc in
    let tickets : c.ticket ≡ d.ticket = cc in
    let tails : tail_of c.packets ≡ tail_of d.packets = cc in
    let packets = same_packets c.packets d.packets tails in
    rw (manifests, tickets, packets) refl

pub one_contents : SymbolLaws → (bytes : List ℕ) (c d : Contents) → IsStream bytes c → IsStream bytes d → c ≡ d
one_contents laws bytes c d c-is d-is =
    let one = one_reading laws BeforeManifest bytes (frames_of c) (frames_of d) [] [] tt (stream_is_read bytes c c-is) (stream_is_read bytes d d-is) in
    same_contents c d one.0

pub stream_or_fault : SymbolLaws → (bytes : List ℕ) (c : Contents) (fault : WireFault) → IsStream bytes c → IsFirstFault bytes fault → ⊥
stream_or_fault laws bytes c fault is (inl failing) =
    not_both laws BeforeManifest bytes (frames_of c) failing.0 [] failing.1.0 tt (stream_is_read bytes c is) failing.1.1
stream_or_fault laws bytes c fault is (inr short) =
    let one = one_reading laws BeforeManifest bytes (frames_of c) short.0 [] short.1 tt (stream_is_read bytes c is) short.2 in
    short.3 (ap (λ (fs : List Frame). phase_past BeforeManifest fs) (sym one.0) ∙ frames_are_past c)

moved_same : (fs gs : List Frame) (f g x y : WireFault) → fs ≡ gs → f ≡ g → x ≡ moved_by (length (frames_spelling fs)) f → y ≡ moved_by (length (frames_spelling gs)) g → x ≡ y
moved_same fs gs f g x y same-frames same-fault x-is y-is =
    x-is ∙ ap (λ (hs : List Frame). moved_by (length (frames_spelling hs)) f) same-frames ∙ ap (λ (h : WireFault). moved_by (length (frames_spelling gs)) h) same-fault ∙ sym y-is

pub one_failing : SymbolLaws → (bytes : List ℕ) (fs gs : List Frame) (x y : WireFault) → FailsAfter bytes fs x → FailsAfter bytes gs y → (fs ≡ gs) × (x ≡ y)
one_failing laws bytes fs gs x y x-is y-is =
    let one = one_failure laws BeforeManifest bytes fs gs x-is.0 y-is.0 tt x-is.1 y-is.1 in
    (one.0, moved_same fs gs x-is.0 y-is.0 x y one.0 one.1 x-is.2 y-is.2)

pub one_first_fault : SymbolLaws → (bytes : List ℕ) (x y : WireFault) → IsFirstFault bytes x → IsFirstFault bytes y → x ≡ y
one_first_fault laws bytes x y (inl x-is) (inl y-is) = let one = one_failing laws bytes x-is.0 y-is.0 x y x-is.1 y-is.1 in one.1
one_first_fault laws bytes x y (inl x-is) (inr y-is) = absurd (not_both laws BeforeManifest bytes y-is.0 x-is.0 y-is.1 x-is.1.0 tt y-is.2 x-is.1.1)
one_first_fault laws bytes x y (inr x-is) (inl y-is) = absurd (not_both laws BeforeManifest bytes x-is.0 y-is.0 x-is.1 y-is.1.0 tt x-is.2 y-is.1.1)
one_first_fault laws bytes x y (inr x-is) (inr y-is) = x-is.4 ∙ sym y-is.4

pub failing_on : (bytes more : List ℕ) (fs : List Frame) (fault : WireFault) → FailsAfter bytes fs fault → FailsAfter (bytes ++ more) fs fault
failing_on bytes more fs fault is = (is.0, fails_on BeforeManifest bytes more fs is.0 is.1, is.2)

pub first_fault_stays : (bytes more : List ℕ) (fault : WireFault) → IsFirstFault bytes fault → fault.kind ≢ kinds.Truncated → IsFirstFault (bytes ++ more) fault
first_fault_stays bytes more fault (inl is) other = inl (is.0, failing_on bytes more is.0 fault is.1)
first_fault_stays bytes more fault (inr is) other = absurd (other (ap (λ (f : WireFault). f.kind) is.4))

-- ---- each string of bytes is read in some way

data Outcome (bytes : List ℕ) : Type 0 where
  reads : (fs : List Frame) (rest : List ℕ) → AreBytes rest → IsRead bytes fs rest → Outcome bytes
  fails : (fs : List Frame) (fault : WireFault) → FailsFrom BeforeManifest bytes fs fault → Outcome bytes

-- one byte more, by what is found
byte_whole : SymbolLaws → (fed : List ℕ) (fs : List Frame) (rest : List ℕ) (byte : ℕ) → AreBytes (rest ++ byte ∷ []) → IsRead fed fs rest → fault_at (phase_past BeforeManifest fs) (rest ++ byte ∷ []) ≡ None → 10 ≤ length (rest ++ byte ∷ []) → 10 + body_len_in (rest ++ byte ∷ []) ≤ length (rest ++ byte ∷ []) → Outcome (fed ++ byte ∷ [])
byte_whole laws fed fs rest byte bytes read passes there reached =
    let phase = phase_past BeforeManifest fs in
    let whole = whole_next BeforeManifest fed fs rest byte read passes there reached in
    let is = made laws phase (rest ++ byte ∷ []) bytes whole in
    let f = frame_in phase (rest ++ byte ∷ []) in
    reads (fs ++ f ∷ []) [] (All-nil (λ byte. byte < 2 ^ 8)) (gives_next BeforeManifest fed fs rest byte f read is)

byte_passes : SymbolLaws → (fed : List ℕ) (fs : List Frame) (rest : List ℕ) (byte : ℕ) → AreBytes (rest ++ byte ∷ []) → IsRead fed fs rest → fault_at (phase_past BeforeManifest fs) (rest ++ byte ∷ []) ≡ None → Outcome (fed ++ byte ∷ [])
byte_passes laws fed fs rest byte bytes read passes =
    decided (leb_tells 10 (length held)) (leb_tells (10 + body_len_in held) (length held))
  where
    held : List ℕ
    held = rest ++ byte ∷ []

    decided : ((leb 10 (length held) ≡ true) × (10 ≤ length held)) ⊎ ((leb 10 (length held) ≡ false) × (length held < 10)) → ((leb (10 + body_len_in held) (length held) ≡ true) × (10 + body_len_in held ≤ length held)) ⊎ ((leb (10 + body_len_in held) (length held) ≡ false) × (length held < 10 + body_len_in held)) → Outcome (fed ++ byte ∷ [])
    decided (inl there) (inl reached) = byte_whole laws fed fs rest byte bytes read passes there.1 reached.1
    decided (inl there) (inr less) = reads fs held bytes (holds_next BeforeManifest fed fs rest byte read passes (λ _. less.1))
    decided (inr few) more = reads fs held bytes (holds_next BeforeManifest fed fs rest byte read passes (λ there. absurd (omega (arith, there, few.1))))

one_byte_more : SymbolLaws → (fed : List ℕ) (byte : ℕ) → byte < 2 ^ 8 → Outcome fed → Outcome (fed ++ byte ∷ [])
one_byte_more laws fed byte is (fails fs fault failed) = fails fs fault (fails_on BeforeManifest fed (byte ∷ []) fs fault failed)
one_byte_more laws fed byte is (reads fs rest bytes read) =
    found (fault_at (phase_past BeforeManifest fs) (rest ++ byte ∷ [])) refl
  where
    held-bytes : AreBytes (rest ++ byte ∷ [])
    held-bytes = All-append (λ byte. byte < 2 ^ 8) rest (byte ∷ []) bytes (All-cons (λ byte. byte < 2 ^ 8) byte [] is (All-nil (λ byte. byte < 2 ^ 8)))

    found : (o : Option WireFault) → fault_at (phase_past BeforeManifest fs) (rest ++ byte ∷ []) ≡ o → Outcome (fed ++ byte ∷ [])
    found None passes = byte_passes laws fed fs rest byte held-bytes read passes
    found (Some fault) at = fails fs fault (fails_next BeforeManifest fed fs rest byte fault read at)

all_bytes_more : SymbolLaws → (fed more : List ℕ) → AreBytes more → Outcome fed → Outcome (fed ++ more)
all_bytes_more laws fed [] bytes known = subst Outcome (sym (append-nil fed)) known
all_bytes_more laws fed (byte ∷ more) bytes known =
    let byte-is = All-head (λ byte. byte < 2 ^ 8) byte more bytes in
    let others = All-tail (λ byte. byte < 2 ^ 8) byte more bytes in
    subst Outcome (append_assoc fed (byte ∷ []) more) (all_bytes_more laws (fed ++ byte ∷ []) more others (one_byte_more laws fed byte byte-is known))

outcome_of : SymbolLaws → (bytes : List ℕ) → AreBytes bytes → Outcome bytes
outcome_of laws bytes are =
    all_bytes_more laws [] bytes are (reads [] [] (All-nil (λ byte. byte < 2 ^ 8)) (record {
      in_order = tt;
      spelled = refl;
      nothing_fails = nothing_fails_in_nothing BeforeManifest;
      part = nothing_is_part;
    }))

cut_short : (bytes : List ℕ) (fs : List Frame) (rest : List ℕ) → IsRead bytes fs rest → phase_past BeforeManifest fs ≢ Ended → (fault : WireFault) × IsFirstFault bytes fault
cut_short bytes fs rest read not-ended = (record { offset = length bytes; kind = kinds.Truncated }, inr (fs, rest, read, not-ended, refl))

read_told : (bytes : List ℕ) (fs : List Frame) (rest : List ℕ) (phase : Phase) → IsRead bytes fs rest → phase_past BeforeManifest fs ≡ phase → ((c : Contents) × IsStream bytes c) ⊎ ((fault : WireFault) × IsFirstFault bytes fault)
read_told bytes fs rest BeforeManifest read past = inr (cut_short bytes fs rest read (λ ended. absurd (let w : BeforeManifest ≡ Ended = sym past ∙ ended in cc)))
read_told bytes fs rest (BeforeTicket shape) read past = inr (cut_short bytes fs rest read (λ ended. absurd (let w : BeforeTicket shape ≡ Ended = sym past ∙ ended in cc)))
read_told bytes fs rest (BeforeEnd shape) read past = inr (cut_short bytes fs rest read (λ ended. absurd (let w : BeforeEnd shape ≡ Ended = sym past ∙ ended in cc)))
read_told bytes fs rest Ended read past = let stream = read_is_stream bytes fs rest read past in inl (stream.0, stream.1)

told : (bytes : List ℕ) → Outcome bytes → ((c : Contents) × IsStream bytes c) ⊎ ((fault : WireFault) × IsFirstFault bytes fault)
told bytes (reads fs rest are read) = read_told bytes fs rest (phase_past BeforeManifest fs) read refl
told bytes (fails fs fault failed) = inr (moved_by (length (frames_spelling fs)) fault, inl (fs, (fault, failed, refl)))

pub stream_or_first_fault : SymbolLaws → (bytes : List ℕ) → AreBytes bytes → ((c : Contents) × IsStream bytes c) ⊎ ((fault : WireFault) × IsFirstFault bytes fault)
stream_or_first_fault laws bytes are = told bytes (outcome_of laws bytes are)

-- ---- frames and spellings

pub streams_differ : (bytes bytes' : List ℕ) (c d : Contents) → IsStream bytes c → IsStream bytes' d → bytes ≢ bytes' → frames_of c ≢ frames_of d
streams_differ bytes bytes' c d c-is d-is differ same =
    differ (c-is.spelled ∙ ap spelling_of (same_contents c d same) ∙ sym d-is.spelled)
