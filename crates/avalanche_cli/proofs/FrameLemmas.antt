-- Frames that are taken off the end of a stream one after another.
use Rattle.std.proofs.Common.{◌≡◌, ◌<◌, List, [], ◌∷◌, ◌++◌, length, map, take, drop, refl, sym, subst, ap, ◌∙◌, arith, reverse, append-nil}
use Rattle.std.proofs.lemmas.List.{append_assoc, length-map, length-reverse, reverse-append, map-append, take_at}
use Rattle.linear_spec.specs.declared.packet.Packet.{Packet}
use Rattle.generation.specs.declared.ticket.Ticket.{Ticket}
use Rattle.packet_wire.specs.declared.manifest.Manifest.{Manifest}
use Rattle.packet_wire.specs.Frames.{frames_of}
use Rattle.packet_wire.specs.Stream.{Contents}
use Rattle.packet_wire.specs.declared.frame.Frame.{Frame}
use Rattle.packet_wire.specs.declared.frame.Frame.TheVariants as kinds
use Rattle.std.specs.Prelude.{Option, None, Some, IsSome, ◌↔◌, option_to_list}
use Rattle.avalanche_cli.specs.Reading.{IsPacketFrame, TakesPackets, body_of, contents_of}
use Rattle.avalanche_cli.specs.declared.stream.Stream.{Stream}

-- ---- the last item of a list

-- a list that is not empty, as its last item and those before it
pub record HasLast {X : Type 0} (xs : List X) : Type 0 where
  pub front : List X
  pub last : X
  pub is : xs ≡ front ++ last ∷ []

pub last_of : {X : Type 0} (xs : List X) → 0 < length xs → HasLast xs
last_of [] some = absurd (omega arith)
last_of (x ∷ []) some = record { front = []; last = x; is = refl }
last_of {X = X} (x ∷ y ∷ xs) some =
    let more = last_of (y ∷ xs) (omega arith) in
    record { front = x ∷ more.front; last = more.last; is = ap (λ (l : List X). x ∷ l) more.is }

-- two lists with a last item
pub same_last : {X : Type 0} (xs ys : List X) (x y : X) → xs ++ x ∷ [] ≡ ys ++ y ∷ [] → (xs ≡ ys) × (x ≡ y)
same_last [] [] x y is = (refl, cc)
same_last [] (b ∷ []) x y is = absurd cc
same_last [] (b ∷ c ∷ ys) x y is = absurd cc
same_last (a ∷ []) [] x y is = absurd cc
same_last (a ∷ c ∷ xs) [] x y is = absurd cc
same_last {X = X} (a ∷ xs) (b ∷ ys) x y is =
    let tail : xs ++ x ∷ [] ≡ ys ++ y ∷ [] = cc in
    let head : a ≡ b = cc in
    let more = same_last xs ys x y tail in
    (ap (λ (c : X). c ∷ xs) head ∙ ap (λ (l : List X). b ∷ l) more.0, more.1)

-- ---- packets

-- a stream of which some packets were taken, the last one first
pub record HasTaken (contents : Contents) (frames : List Frame) (taken : List Packet) : Type 0 where
  pub rest : List Packet
  pub frames_are : frames ≡ kinds.Manifest contents.manifest ∷ kinds.Ticket contents.ticket ∷ map kinds.Packet rest
  pub packets_are : contents.packets ≡ rest ++ reverse taken

pub take_last : (contents : Contents) (frames left : List Frame) (taken : List Packet) (frame : Frame) → HasTaken contents frames taken → 2 < length frames → frames ≡ left ++ frame ∷ [] → (packet : Packet) × (frame ≡ kinds.Packet packet) × HasTaken contents left (taken ++ packet ∷ [])
take_last contents frames left taken frame has some is =
    let counted = ap (λ (l : List Frame). length l) has.frames_are in
    let mapped = length-map has.rest kinds.Packet in
    let last = last_of has.rest (omega arith) in
    let front = kinds.Manifest contents.manifest ∷ kinds.Ticket contents.ticket ∷ map kinds.Packet last.front in
    let split : frames ≡ front ++ kinds.Packet last.last ∷ [] =
    has.frames_are ∙ ap (λ (l : List Packet). kinds.Manifest contents.manifest ∷ kinds.Ticket contents.ticket ∷ map kinds.Packet l) last.is
    ∙ ap (λ (l : List Frame). kinds.Manifest contents.manifest ∷ kinds.Ticket contents.ticket ∷ l) (map-append kinds.Packet last.front (last.last ∷ [])) in
    let same = same_last left front frame (kinds.Packet last.last) (sym is ∙ split) in (
      last.last,
      same.1,
      record {
        rest = last.front;
        frames_are = same.0;
        packets_are = has.packets_are ∙ ap (λ (l : List Packet). l ++ reverse taken) last.is ∙ append_assoc last.front (last.last ∷ []) (reverse taken)
            ∙ ap (λ (l : List Packet). last.front ++ l) (sym (reverse-append taken (last.last ∷ [])));
      },
    )

-- all were taken
pub all_taken : (contents : Contents) (frames : List Frame) (taken : List Packet) → HasTaken contents frames taken → length frames < 3 → (reverse taken ≡ contents.packets) × (frames ≡ kinds.Manifest contents.manifest ∷ kinds.Ticket contents.ticket ∷ [])
all_taken contents frames taken has few = go has.rest has.frames_are has.packets_are
  where
    go : (rest : List Packet) → frames ≡ kinds.Manifest contents.manifest ∷ kinds.Ticket contents.ticket ∷ map kinds.Packet rest → contents.packets ≡ rest ++ reverse taken → (reverse taken ≡ contents.packets) × (frames ≡ kinds.Manifest contents.manifest ∷ kinds.Ticket contents.ticket ∷ [])
    go [] are packets = (sym packets, are)
    go (packet ∷ rest) are packets = let counted = ap (λ (l : List Frame). length l) are in absurd (omega arith)

-- ---- what frames say

same_packets : (packets others : List Packet) → map kinds.Packet packets ++ kinds.End ∷ [] ≡ map kinds.Packet others ++ kinds.End ∷ [] → packets ≡ others
same_packets [] [] is = refl
same_packets [] (other ∷ others) is = absurd cc
same_packets (packet ∷ packets) [] is = absurd cc
same_packets (packet ∷ packets) (other ∷ others) is =
    let tail : map kinds.Packet packets ++ kinds.End ∷ [] ≡ map kinds.Packet others ++ kinds.End ∷ [] = cc in
    let head : packet ≡ other = cc in
    ap (λ (p : Packet). p ∷ packets) head ∙ ap (λ (l : List Packet). other ∷ l) (same_packets packets others tail)

-- the frames of a stream say what it holds
pub same_frames : (contents other : Contents) → frames_of contents ≡ frames_of other → contents ≡ other
same_frames contents other is =
    let manifest : contents.manifest ≡ other.manifest = cc in
    let ticket : contents.ticket ≡ other.ticket = cc in
    let rest : map kinds.Packet contents.packets ++ kinds.End ∷ [] ≡ map kinds.Packet other.packets ++ kinds.End ∷ [] = cc in
    let packets = same_packets contents.packets other.packets rest in
    ap (λ (m : Manifest). record { manifest = m; ticket = contents.ticket; packets = contents.packets }) manifest
    ∙ ap (λ (t : Ticket). record { manifest = other.manifest; ticket = t; packets = contents.packets }) ticket
    ∙ ap (λ (ps : List Packet). record { manifest = other.manifest; ticket = other.ticket; packets = ps }) packets

-- ---- the steps that take a stream apart

-- an item that was taken off the end
pub taken_off : {X : Type 0} (xs ys : List X) (o : Option X) (x : X) → xs ≡ ys ++ option_to_list o → o ≡ Some x → xs ≡ ys ++ x ∷ []
taken_off {X = X} xs ys o x is some = is ∙ ap (λ (p : Option X). ys ++ option_to_list p) some

pub without_end : (contents : Contents) (frames left : List Frame) (last : Option Frame) → frames ≡ frames_of contents → frames ≡ left ++ option_to_list last → (IsSome last ↔ (0 < length frames)) → left ≡ body_of contents
without_end contents frames left None are is variant = let counted = ap (λ (l : List Frame). length l) are in let some : IsSome {T = Frame} None = variant.1 (omega arith) in absurd cc
without_end contents frames left (Some last) are is variant = let same = same_last left (body_of contents) last kinds.End (sym is ∙ are) in same.0

-- the frames are those before without some packets, the last ones
pub record IsTakenFrom (before frames : List Frame) (taken : List Packet) : Type 0 where
  pub contents : Contents
  pub before_is : before ≡ body_of contents
  pub has : HasTaken contents frames taken

pub none_taken : (contents : Contents) (frames : List Frame) (taken : List Packet) → frames ≡ body_of contents → taken ≡ [] → IsTakenFrom frames frames taken
none_taken contents frames taken are none = record {
  contents = contents;
  before_is = are;
  has = record {
    rest = contents.packets;
    frames_are = are;
    packets_are = subst (λ (l : List Packet). contents.packets ≡ contents.packets ++ reverse l) (sym none) (sym (append-nil contents.packets));
  };
}

pub is_packet : (before frames left : List Frame) (taken : List Packet) (frame : Frame) → IsTakenFrom before frames taken → 2 < length frames → frames ≡ left ++ frame ∷ [] → IsPacketFrame frame
is_packet before frames left taken frame from some is = let last = take_last from.contents frames left taken frame from.has some is in (last.0, last.1)

pub take_more : (before frames left : List Frame) (taken : List Packet) (frame : Frame) (packet : Packet) → IsTakenFrom before frames taken → 2 < length frames → frames ≡ left ++ frame ∷ [] → frame ≡ kinds.Packet packet → IsTakenFrom before left (taken ++ packet ∷ [])
take_more before frames left taken frame packet from some is is_packet =
    let last = take_last from.contents frames left taken frame from.has some is in
    let same : last.0 ≡ packet = packet_same last.0 packet (sym last.1 ∙ is_packet) in
    record { contents = from.contents; before_is = from.before_is; has = subst (λ (p : Packet). HasTaken from.contents left (taken ++ p ∷ [])) same last.2 }
  where
    packet_same : (p q : Packet) → kinds.Packet p ≡ kinds.Packet q → p ≡ q
    packet_same p q same = cc

pub all_apart : (before frames : List Frame) (taken packets : List Packet) → IsTakenFrom before frames taken → length frames < 3 → packets ≡ reverse taken → TakesPackets before frames packets
all_apart before frames taken packets from few is =
    let all = all_taken from.contents frames taken from.has few in
    record { contents = from.contents; before_is = from.before_is; packets_are = is ∙ all.0; after_is = all.1 }

-- packets that were written over by the same in reverse order
pub reversed : (packets back : List Packet) → back ≡ reverse packets → take (length packets) (back ++ drop (length back) packets) ≡ reverse packets
reversed packets back is =
    let long = ap (λ (l : List Packet). length l) is ∙ length-reverse packets in
    take_at back (drop (length back) packets) (length packets) long ∙ is

-- the last two frames
pub ticket_last : (contents : Contents) (frames left : List Frame) (frame : Frame) → frames ≡ kinds.Manifest contents.manifest ∷ kinds.Ticket contents.ticket ∷ [] → frames ≡ left ++ frame ∷ [] → (frame ≡ kinds.Ticket contents.ticket) × (left ≡ kinds.Manifest contents.manifest ∷ [])
ticket_last contents frames left frame are is = let same = same_last left (kinds.Manifest contents.manifest ∷ []) frame (kinds.Ticket contents.ticket) (sym is ∙ are) in (same.1, same.0)

pub manifest_last : (contents : Contents) (frames left : List Frame) (frame : Frame) → frames ≡ kinds.Manifest contents.manifest ∷ [] → frames ≡ left ++ frame ∷ [] → frame ≡ kinds.Manifest contents.manifest
manifest_last contents frames left frame are is = let same = same_last left [] frame (kinds.Manifest contents.manifest) (sym is ∙ are) in same.1

-- the parts that were taken out are those of the stream
pub same_stream : (contents : Contents) (frames : List Frame) (stream : Stream) (manifest ticket : Frame) (before after : List Frame) → frames ≡ frames_of contents → before ≡ body_of contents → (takes : TakesPackets before after stream.packets.items) → manifest ≡ kinds.Manifest takes.contents.manifest → manifest ≡ kinds.Manifest stream.manifest → ticket ≡ kinds.Ticket takes.contents.ticket → ticket ≡ kinds.Ticket stream.ticket → frames ≡ frames_of (contents_of stream)
same_stream contents frames stream manifest ticket before after are before_are takes manifest_is manifest_also ticket_is ticket_also =
    let body : body_of contents ≡ body_of takes.contents = sym before_are ∙ takes.before_is in
    let m : kinds.Manifest takes.contents.manifest ≡ kinds.Manifest stream.manifest = sym manifest_is ∙ manifest_also in
    let t : kinds.Ticket takes.contents.ticket ≡ kinds.Ticket stream.ticket = sym ticket_is ∙ ticket_also in
    let whole : body_of takes.contents ≡ body_of (contents_of stream) = parts m t (sym takes.packets_are) in
    are ∙ ap (λ (l : List Frame). l ++ kinds.End ∷ []) (body ∙ whole)
  where
    parts : {m n t u : Frame} {ps qs : List Packet} → m ≡ n → t ≡ u → ps ≡ qs → m ∷ t ∷ map kinds.Packet ps ≡ n ∷ u ∷ map kinds.Packet qs
    parts a b c = cc
