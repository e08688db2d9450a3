-- A whole frame in which nothing fails is the spelling of a frame that may follow.
use Rattle.std.proofs.Common.{◌≡◌, ℕ, ◌+◌, ◌*◌, ◌%◌, ◌<◌, ◌≤◌, ◌^◌, Bool, true, false, ◌&&◌, ◌||◌, ◌==◌, if◌then◌else◌, List, [], ◌∷◌, ◌++◌, length, get_or, take, drop, refl, ap, sym, subst, ◌∙◌, arith}
use Rattle.std.specs.Int.{w16, w32, w64, to_be_bytes}
use Rattle.std.specs.List.{list_any}
use Rattle.std.proofs.lemmas.Bool.{eq-eqb, eqb-true, leb-true, ltb-true}
use Rattle.std.proofs.lemmas.List.{drop_more, length-append, length-drop, length-take-le, take-append-drop, drop-drop}
use Rattle.std.proofs.lemmas.List.Elements.{All-drop, All-take}
use Rattle.linear_spec.specs.SymbolLaws.{SymbolLaws}
use Rattle.linear_spec.specs.Symbols.{AreBytes, AreSymbols, IsVector, be_bytes_of, symbols_of}
use Rattle.generation.specs.Shape.{Dimensions, IsShape, generations_of, symbols_per_block}
use Rattle.packet_wire.specs.declared.frame.Frame.{Frame}
use Rattle.packet_wire.specs.declared.frame.Frame.TheVariants as frames
use Rattle.packet_wire.specs.declared.phase.Phase.{Phase}
use Rattle.packet_wire.specs.declared.phase.Phase.TheVariants.{BeforeManifest, BeforeTicket, BeforeEnd, Ended}
use Rattle.packet_wire.specs.Frame.{frame, head}
use Rattle.packet_wire.specs.Stream.{IsManifest, IsTicket, IsPacket, manifest_body, ticket_body, packet_body, manifest_frame, ticket_frame, packet_frame, end_frame}
use Rattle.packet_wire.specs.Frames.{MayFollow, frame_spelling}
use Rattle.packet_wire.specs.Judgements.{Judgement, body_judgements, head_judgements, judgements, body_len_in, check_counts, kind_in, number16_at, number32_at, number64_at, shape_in, may_follow, fits_kind, manifest_judgements, packet_judgements, packet_len, ticket_judgements, ticket_len, may_have_version}
use Rattle.packet_wire.specs.Making.{IsWholeFrame, frame_in, manifest_in, packet_in, ticket_in}
use Rattle.packet_wire.proofs.Fronts.{Passed, passed_of_clean}
use Rattle.packet_wire.proofs.Numbers.{spells16, spells32, spells64}
use Rattle.packet_wire.proofs.Packets.{length-packet_body}
use Rattle.linear_spec.specs.declared.packet.Packet.{Packet}
use Rattle.generation.specs.declared.ticket.Ticket.{Ticket}

both : (a b : Bool) → (a && b) ≡ true → (a ≡ true) × (b ≡ true)
both true b is = (refl, is)
both false b is = absurd cc

-- ---- the head

pub record HasHead (phase : Phase) (held : List ℕ) : Type 0 where
  pub kind : may_follow phase (kind_in held) ≡ true
  pub fits : fits_kind phase (kind_in held) (body_len_in held) ≡ true
  pub spelled : held ≡ frame (kind_in held) (drop 10 held)

six_cells : (s : List ℕ) → 6 ≤ length s → s ≡ get_or s 0 0 ∷ get_or s 1 0 ∷ get_or s 2 0 ∷ get_or s 3 0 ∷ get_or s 4 0 ∷ get_or s 5 0 ∷ drop 6 s
six_cells [] there = absurd (omega arith)
six_cells (a ∷ []) there = absurd (omega arith)
six_cells (a ∷ b ∷ []) there = absurd (omega arith)
six_cells (a ∷ b ∷ c ∷ []) there = absurd (omega arith)
six_cells (a ∷ b ∷ c ∷ d ∷ []) there = absurd (omega arith)
six_cells (a ∷ b ∷ c ∷ d ∷ e ∷ []) there = absurd (omega arith)
six_cells (a ∷ b ∷ c ∷ d ∷ e ∷ f ∷ s) there = refl

joined_head : (s : List ℕ) (a b c d e kind len : ℕ) (tail rest : List ℕ) → s ≡ a ∷ b ∷ c ∷ d ∷ e ∷ kind ∷ tail → a ≡ 65 → b ≡ 86 → c ≡ 76 → d ≡ 78 → e ≡ 1 → tail ≡ to_be_bytes w32 len ++ rest → len ≡ length rest → s ≡ frame kind rest
unfolding frame head
joined_head s a b c d e kind len tail rest cells a-is b-is c-is d-is e-is tail-is len-is =
    let headed : a ∷ b ∷ c ∷ d ∷ e ∷ kind ∷ tail ≡ frame kind rest = rw (a-is, b-is, c-is, d-is, e-is, tail-is, len-is) refl in
    cells ∙ headed

-- the version that a frame may have
first_version : (phase : Phase) (version : ℕ) → may_have_version phase version ≡ true → version ≡ 1
first_version BeforeManifest version is = eqb-true version 1 is
first_version (BeforeTicket shape) version is = eqb-true version 1 is
first_version (BeforeEnd shape) version is = eqb-true version 1 is
first_version Ended version is = absurd cc

pub head_of : (phase : Phase) (held : List ℕ) → AreBytes held → 10 ≤ length held → length held ≡ 10 + body_len_in held → Passed (head_judgements phase held) (length held) → HasHead phase held
unfolding head_judgements
head_of phase held bytes there whole passed =
    let letter-a = eqb-true (get_or held 0 0) 65 (passed.0 (omega arith)) in
    let letter-v = eqb-true (get_or held 1 0) 86 (passed.1.0 (omega arith)) in
    let letter-l = eqb-true (get_or held 2 0) 76 (passed.1.1.0 (omega arith)) in
    let letter-n = eqb-true (get_or held 3 0) 78 (passed.1.1.1.0 (omega arith)) in
    let version = first_version phase (get_or held 4 0) (passed.1.1.1.1.0 (omega arith)) in
    let count : number32_at held 6 ≡ length (drop 10 held) = omega (arith, length-drop 10 held) in
    record {
      kind = passed.1.1.1.1.1.1.0 (omega arith);
      fits = passed.1.1.1.1.1.1.1.0 there;
      spelled = joined_head held _ _ _ _ _ _ _ _ _ (six_cells held (omega arith)) letter-a letter-v letter-l letter-n version (spells32 held 6 bytes (omega arith)) count;
    }

-- the spelling of a frame from that of its body
framed : (held body : List ℕ) (kind : ℕ) → held ≡ frame (kind_in held) (drop 10 held) → kind_in held ≡ kind → drop 10 held ≡ body → held ≡ frame kind body
framed held body kind spelled kind-is body-is =
    spelled ∙ ap (λ (k : ℕ). frame k (drop 10 held)) kind-is ∙ ap (λ (b : List ℕ). frame kind b) body-is

-- ---- a manifest

manifest_spelled : (held : List ℕ) → AreBytes held → length held ≡ 54 → drop 10 held ≡ manifest_body (manifest_in held)
unfolding manifest_body
manifest_spelled held bytes count =
    spells64 held 10 bytes (omega arith)
    ∙ ap (λ (x : List ℕ). to_be_bytes w64 (number64_at held 10) ++ x) (spells16 held 18 bytes (omega arith)
    ∙ ap (λ (x : List ℕ). to_be_bytes w16 (number16_at held 18) ++ x) (spells16 held 20 bytes (omega arith)))

manifest_made : (held : List ℕ) → AreBytes held → length held ≡ 10 + body_len_in held → HasHead BeforeManifest held → Passed (manifest_judgements held) (length held) → IsManifest (manifest_in held) × (held ≡ manifest_frame (manifest_in held))
manifest_made held bytes whole headed passed =
    let kind = eqb-true (kind_in held) 1 headed.kind in
    let len = eqb-true (body_len_in held) 44 headed.fits in
    let count : length held ≡ 54 = omega (arith, whole, len) in
    let k-fits = both _ _ (passed.1.0 (omega arith)) in
    let block-fits = both _ _ (passed.1.1.0 (omega arith)) in
    let block-starts = both _ _ block-fits.0 in (
      record {
        shape = record {
          k = (leb-true 1 (number16_at held 18) k-fits.0, leb-true (number16_at held 18) 64 k-fits.1);
          block = (eqb-true (number16_at held 20 % 2) 0 block-starts.0, leb-true 2 (number16_at held 20) block-starts.1, leb-true (number16_at held 20) 4096 block-fits.1);
          len = leb-true (number64_at held 10) 16777216 (passed.0 (omega arith));
          generations = leb-true (generations_of (shape_in held)) 256 (passed.1.1.1.0 (omega arith));
        };
        digest_bytes = All-drop (λ byte. byte < 2 ^ 8) 22 held bytes;
        digest_length = omega (arith, length-drop 22 held);
      },
      framed held (manifest_body (manifest_in held)) 1 headed.spelled kind (manifest_spelled held bytes count),
    )

-- ---- a ticket

-- whatever the number of checks, the body has room for a key and that number
long_enough : (shape : Dimensions) (len : ℕ) (counts : List ℕ) → list_any (λ checks. len == ticket_len shape checks) counts ≡ true → 33 ≤ len
long_enough shape len [] some = absurd cc
long_enough shape len (checks ∷ counts) some =
    decided (len == ticket_len shape checks) refl (long_enough shape len counts)
  where
    decided : (b : Bool) → (len == ticket_len shape checks) ≡ b → (list_any (λ checks. len == ticket_len shape checks) counts ≡ true → 33 ≤ len) → 33 ≤ len
    decided true is later = omega (arith, eqb-true len (ticket_len shape checks) is)
    decided false is later = later (rw is at some)

ticket_spelled : SymbolLaws → (held : List ℕ) (sums : ℕ) → AreBytes held → length held ≡ 43 + 2 * sums → drop 10 held ≡ ticket_body (ticket_in held)
unfolding ticket_body
ticket_spelled laws held sums bytes count =
    let sums-len : length (drop 43 held) ≡ 2 * sums = omega (arith, length-drop 43 held) in
    let sums-back = laws.bytes (drop 43 held) (All-drop (λ byte. byte < 2 ^ 8) 43 held bytes) (omega arith) in
    let checks = drop_more held 42 0 (omega arith) in
    sym (take-append-drop 32 (drop 10 held))
    ∙ ap (λ (x : List ℕ). take 32 (drop 10 held) ++ x) (drop-drop 32 10 held ∙ checks ∙ ap (λ (x : List ℕ). get_or held 42 0 ∷ x) (sym sums-back))

-- a list of symbols that bytes spell
symbols_of_count : SymbolLaws → (bytes : List ℕ) (count : ℕ) → AreBytes bytes → length bytes ≡ 2 * count → IsVector count (symbols_of bytes)
symbols_of_count laws bytes count are len =
    let back = laws.bytes bytes are (omega arith) in
    record {
      count = omega (arith, laws.length (symbols_of bytes), ap length back);
      symbols = laws.are_symbols bytes are;
    }

ticket_made : SymbolLaws → (shape : Dimensions) (held : List ℕ) → AreBytes held → length held ≡ 10 + body_len_in held → HasHead (BeforeTicket shape) held → Passed (ticket_judgements shape held) (length held) → IsTicket shape (ticket_in held) × (held ≡ ticket_frame (ticket_in held))
ticket_made laws shape held bytes whole headed passed =
    let kind = eqb-true (kind_in held) 2 headed.kind in
    let long = long_enough shape (body_len_in held) check_counts headed.fits in
    let checks = get_or held 42 0 in
    let agrees = both _ _ (passed.0 (omega arith)) in
    let len = eqb-true (body_len_in held) (ticket_len shape checks) agrees.1 in
    let sums = checks * generations_of shape * shape.k in
    let count : length held ≡ 43 + 2 * sums = omega (arith, whole, len) in
    let body-bytes = All-drop (λ byte. byte < 2 ^ 8) 10 held bytes in
    let sums-len : length (drop 43 held) ≡ 2 * sums = omega (arith, length-drop 43 held) in (
      record {
        key_bytes = All-take (λ byte. byte < 2 ^ 8) 32 (drop 10 held) body-bytes;
        key_length = length-take-le 32 (drop 10 held) (omega (arith, length-drop 10 held));
        checks = leb-true checks 8 agrees.0;
        sums = symbols_of_count laws (drop 43 held) sums (All-drop (λ byte. byte < 2 ^ 8) 43 held bytes) sums-len;
      },
      framed held (ticket_body (ticket_in held)) 2 headed.spelled kind (ticket_spelled laws held sums bytes count),
    )

-- ---- a packet

packet_spelled : SymbolLaws → (shape : Dimensions) (held : List ℕ) (s : ℕ) → AreBytes held → length held ≡ 12 + 2 * shape.k + 2 * s → drop 10 held ≡ packet_body (packet_in shape held)
unfolding packet_body
packet_spelled laws shape held s bytes count =
    let parts = drop 12 held in
    let parts-are = All-drop (λ byte. byte < 2 ^ 8) 12 held bytes in
    let parts-len : length parts ≡ 2 * shape.k + 2 * s = omega (arith, length-drop 12 held) in
    let coeffs-len : length (take (2 * shape.k) parts) ≡ 2 * shape.k = length-take-le (2 * shape.k) parts (omega arith) in
    let payload-len : length (drop (2 * shape.k) parts) ≡ 2 * s = omega (arith, length-drop (2 * shape.k) parts) in
    let coeffs = laws.bytes (take (2 * shape.k) parts) (All-take (λ byte. byte < 2 ^ 8) (2 * shape.k) parts parts-are) (omega arith) in
    let payload = laws.bytes (drop (2 * shape.k) parts) (All-drop (λ byte. byte < 2 ^ 8) (2 * shape.k) parts parts-are) (omega arith) in
    spells16 held 10 bytes (omega arith)
    ∙ ap (λ (x : List ℕ). to_be_bytes w16 (number16_at held 10) ++ x) (sym (take-append-drop (2 * shape.k) parts)
    ∙ ap (λ (x : List ℕ). x ++ drop (2 * shape.k) parts) (sym coeffs)
    ∙ ap (λ (x : List ℕ). be_bytes_of (symbols_of (take (2 * shape.k) parts)) ++ x) (sym payload))

packet_made : SymbolLaws → (shape : Dimensions) (held : List ℕ) → AreBytes held → length held ≡ 10 + packet_len shape → kind_in held ≡ 3 → HasHead (BeforeEnd shape) held → Passed (packet_judgements shape held) (length held) → IsPacket shape (packet_in shape held) × (held ≡ packet_frame (packet_in shape held))
packet_made laws shape held bytes count kind headed passed =
    let s = symbols_per_block shape in
    let parts = drop 12 held in
    let parts-are = All-drop (λ byte. byte < 2 ^ 8) 12 held bytes in
    let parts-len : length parts ≡ 2 * shape.k + 2 * s = omega (arith, length-drop 12 held) in
    let coeffs-len : length (take (2 * shape.k) parts) ≡ 2 * shape.k = length-take-le (2 * shape.k) parts (omega arith) in
    let payload-len : length (drop (2 * shape.k) parts) ≡ 2 * s = omega (arith, length-drop (2 * shape.k) parts) in (
      record {
        generation = ltb-true (number16_at held 10) (generations_of shape) (passed.0 (omega arith));
        fits = record {
          coeffs = symbols_of_count laws (take (2 * shape.k) parts) shape.k (All-take (λ byte. byte < 2 ^ 8) (2 * shape.k) parts parts-are) coeffs-len;
          payload = symbols_of_count laws (drop (2 * shape.k) parts) s (All-drop (λ byte. byte < 2 ^ 8) (2 * shape.k) parts parts-are) payload-len;
        };
      },
      framed held (packet_body (packet_in shape held)) 3 headed.spelled kind (packet_spelled laws shape held s bytes (omega arith)),
    )

-- ---- an end

empty_list : (s : List ℕ) → length s ≡ 0 → s ≡ []
empty_list [] len = refl
empty_list (x ∷ s) len = absurd (omega arith)

four : (kind : ℕ) → (kind == 3 || kind == 4) ≡ true → (kind == 3) ≡ false → kind ≡ 4
four kind some not-three = eqb-true kind 4 (rw not-three at some)

end_made : (shape : Dimensions) (held : List ℕ) → length held ≡ 10 → kind_in held ≡ 4 → HasHead (BeforeEnd shape) held → held ≡ end_frame
end_made shape held count kind headed = framed held [] 4 headed.spelled kind (empty_list (drop 10 held) (omega (arith, length-drop 10 held)))

-- ---- all of them

-- the bytes are the frame's, and it may follow
abbrev pub IsMade : Phase → List ℕ → Frame → Type 0
IsMade phase held made = MayFollow phase made × (held ≡ frame_spelling made)

made_before_end : SymbolLaws → (shape : Dimensions) (held : List ℕ) (three : Bool) → AreBytes held → length held ≡ 10 + body_len_in held → HasHead (BeforeEnd shape) held → Passed (packet_judgements shape held) (length held) → (kind_in held == 3) ≡ three → IsMade (BeforeEnd shape) held (if three then frames.Packet (packet_in shape held) else frames.End)
made_before_end laws shape held true bytes whole headed passed three =
    let fits = rw three at headed.fits in
    let len = eqb-true (body_len_in held) (packet_len shape) fits in
    packet_made laws shape held bytes (omega arith) (eqb-true (kind_in held) 3 three) headed passed
made_before_end laws shape held false bytes whole headed passed three =
    let fits = rw three at headed.fits in
    let len = eqb-true (body_len_in held) 0 fits in
    (tt, end_made shape held (omega arith) (four (kind_in held) headed.kind three) headed)

split : (xs ys : List Judgement) (count : ℕ) → Passed (xs ++ ys) count → Passed xs count × Passed ys count
split [] ys count passed = (tt, passed)
split (x ∷ xs) ys count passed =
    let rest = split xs ys count passed.1 in
    ((passed.0, rest.0), rest.1)

made_of_parts : SymbolLaws → (phase : Phase) (held : List ℕ) → AreBytes held → 10 ≤ length held → length held ≡ 10 + body_len_in held → Passed (judgements phase held) (length held) → IsMade phase held (frame_in phase held)
unfolding judgements body_judgements
made_of_parts laws BeforeManifest held bytes there whole passed =
    let parts = split (head_judgements BeforeManifest held) (manifest_judgements held) (length held) passed in
    manifest_made held bytes whole (head_of BeforeManifest held bytes there whole parts.0) parts.1
made_of_parts laws (BeforeTicket shape) held bytes there whole passed =
    let parts = split (head_judgements (BeforeTicket shape) held) (ticket_judgements shape held) (length held) passed in
    ticket_made laws shape held bytes whole (head_of (BeforeTicket shape) held bytes there whole parts.0) parts.1
made_of_parts laws (BeforeEnd shape) held bytes there whole passed =
    let parts = split (head_judgements (BeforeEnd shape) held) (packet_judgements shape held) (length held) passed in
    made_before_end laws shape held (kind_in held == 3) bytes whole (head_of (BeforeEnd shape) held bytes there whole parts.0) parts.1 refl
made_of_parts laws Ended held bytes there whole passed = absurd (let wrong : false ≡ true = passed.0 (omega arith) in cc)

pub made : SymbolLaws → (phase : Phase) (held : List ℕ) → AreBytes held → IsWholeFrame phase held → IsMade phase held (frame_in phase held)
made laws phase held bytes whole =
    made_of_parts laws phase held bytes whole.head_is_there whole.body_is_there (passed_of_clean phase held whole.nothing_fails)

-- ---- what the makers of frames require

pub whole_manifest : SymbolLaws → (held : List ℕ) → AreBytes held → IsWholeFrame BeforeManifest held → (length held ≡ 54) × IsShape (shape_in held)
whole_manifest laws held bytes whole =
    let is = made laws BeforeManifest held bytes whole in
    (omega (arith, is.0.digest_length, length-drop 22 held), is.0.shape)

long_ticket : (t : Ticket) → length t.key ≡ 32 → 43 ≤ length (ticket_frame t)
unfolding frame head ticket_body
long_ticket t key-len = omega (arith, key-len, length-append t.key (t.checks ∷ be_bytes_of t.sums))

pub whole_ticket : SymbolLaws → (shape : Dimensions) (held : List ℕ) → AreBytes held → IsWholeFrame (BeforeTicket shape) held → 43 ≤ length held
whole_ticket laws shape held bytes whole =
    let is = made laws (BeforeTicket shape) held bytes whole in
    omega (arith, ap length is.1, long_ticket (ticket_in held) is.0.key_length)

long_packet : SymbolLaws → (shape : Dimensions) (p : Packet) → IsPacket shape p → 12 + 2 * shape.k ≤ length (packet_frame p)
unfolding frame head
long_packet laws shape p is = omega (arith, length-packet_body laws shape p is)

pub whole_packet : SymbolLaws → (shape : Dimensions) (held : List ℕ) → AreBytes held → IsWholeFrame (BeforeEnd shape) held → kind_in held ≡ 3 → 12 + 2 * shape.k ≤ length held
whole_packet laws shape held bytes whole kind =
    let is = made laws (BeforeEnd shape) held bytes whole in
    let three = eq-eqb (kind_in held) 3 kind in
    let packet : IsMade (BeforeEnd shape) held (frames.Packet (packet_in shape held)) =
    subst (λ (b : Bool). IsMade (BeforeEnd shape) held (if b then frames.Packet (packet_in shape held) else frames.End)) three is in
    omega (arith, ap length packet.1, long_packet laws shape (packet_in shape held) packet.0)

pub none_after_end : (held : List ℕ) → IsWholeFrame Ended held → ⊥
unfolding judgements
none_after_end held whole =
    let passed = passed_of_clean Ended held whole.nothing_fails in
    absurd (let wrong : false ≡ true = passed.0 (omega (arith, whole.head_is_there)) in cc)
