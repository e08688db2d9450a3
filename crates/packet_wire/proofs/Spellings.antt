-- In the spelling of a frame that may follow nothing fails.
use Rattle.std.proofs.Common.{◌≡◌, ◌≢◌, ℕ, ◌+◌, ◌*◌, ◌%◌, ◌<◌, ◌≤◌, ◌^◌, Bool, true, false, ◌&&◌, ◌||◌, ◌==◌, nat_le, nat_lt, List, [], ◌∷◌, ◌++◌, length, get_or, refl, ap, sym, subst, ◌∙◌, arith}
use Rattle.std.specs.Int.{w16, to_be_bytes}
use Rattle.std.specs.List.{list_any}
use Rattle.std.proofs.lemmas.Bool.{eq-eqb, le-leb, lt-ltb, eqb-true}
use Rattle.std.proofs.lemmas.List.{get_or-append-add, length-append}
use Rattle.std.proofs.Math.Seq.{get_or-append_seam}
use Rattle.std.specs.Cmp.Derive.{both_true}
use Rattle.linear_spec.specs.SymbolLaws.{SymbolLaws}
use Rattle.linear_spec.specs.Symbols.{be_bytes_of}
use Rattle.linear_spec.specs.declared.packet.Packet.{Packet}
use Rattle.generation.specs.declared.ticket.Ticket.{Ticket}
use Rattle.generation.specs.Shape.{Dimensions, IsShape, generations_of}
use Rattle.packet_wire.specs.declared.manifest.Manifest.{Manifest}
use Rattle.packet_wire.specs.declared.frame.Frame.{Frame}
use Rattle.packet_wire.specs.declared.frame.Frame.TheVariants as frames
use Rattle.packet_wire.specs.declared.phase.Phase.{Phase}
use Rattle.packet_wire.specs.declared.phase.Phase.TheVariants.{BeforeManifest, BeforeTicket, BeforeEnd, Ended}
use Rattle.packet_wire.specs.Frame.{frame, head}
use Rattle.packet_wire.specs.Stream.{IsManifest, IsTicket, IsPacket, manifest_body, ticket_body, packet_body, manifest_frame, ticket_frame, packet_frame, end_frame}
use Rattle.packet_wire.specs.Frames.{MayFollow, frame_spelling}
use Rattle.packet_wire.specs.Faults.{NothingFails}
use Rattle.packet_wire.specs.Judgements.{Judgement, body_judgements, head_judgements, judgements, body_len_in, check_counts, number16_at, number64_at, shape_in, is_kind, may_have_version, may_follow, fits_kind, manifest_judgements, packet_judgements, packet_len, ticket_judgements, ticket_len}
use Rattle.packet_wire.proofs.Bodies.{length-manifest_body}
use Rattle.packet_wire.proofs.Fronts.{Passed, clean_of_passed}
use Rattle.packet_wire.proofs.Numbers.{read16, read32, read64}
use Rattle.packet_wire.proofs.Packets.{length-packet_body}

-- ---- what is read in a frame

pub len_read : (kind : ℕ) (body : List ℕ) → length body < 2 ^ 32 → body_len_in (frame kind body) ≡ length body
unfolding frame head
len_read kind body fits = read32 (length body) body fits

-- what stands at a place of the body
pub cell_of_body : (kind : ℕ) (body : List ℕ) (i : ℕ) → get_or (frame kind body) (10 + i) 0 ≡ get_or body i 0
unfolding frame head
cell_of_body kind body i = get_or-append-add (head kind (length body)) body i 0

-- the head of a frame passes where its kind may follow and its length fits
head_passes : (phase : Phase) (kind : ℕ) (body : List ℕ) (count : ℕ) → length body < 2 ^ 32 → may_have_version phase 1 ≡ true → is_kind phase kind ≡ true → may_follow phase kind ≡ true → fits_kind phase kind (length body) ≡ true → Passed (head_judgements phase (frame kind body)) count
unfolding head_judgements frame head
head_passes phase kind body count short versioned known follows fits = (
  λ _. refl,
  (
    λ _. refl,
    (
      λ _. refl,
      (
        λ _. refl,
        (
          λ _. versioned,
          (
            λ _. known,
            (
              λ _. follows,
              (λ _. ap (λ (len : ℕ). fits_kind phase kind len) (read32 (length body) body short) ∙ fits, tt),
            ),
          ),
        ),
      ),
    ),
  ),
)

join : (xs ys : List Judgement) (count : ℕ) → Passed xs count → Passed ys count → Passed (xs ++ ys) count
join [] ys count first second = second
join (x ∷ xs) ys count first second = (first.0, join xs ys count first.1 second)

-- ---- a manifest

manifest_passes : (m : Manifest) (count : ℕ) → IsManifest m → Passed (manifest_judgements (manifest_frame m)) count
unfolding frame head manifest_body
manifest_passes m count is =
    let limits = is.shape in
    let len : number64_at (manifest_frame m) 10 ≡ m.shape.len = read64 m.shape.len (to_be_bytes w16 m.shape.k ++ (to_be_bytes w16 m.shape.block ++ m.digest)) (omega (arith, limits.len)) in
    let k : number16_at (manifest_frame m) 18 ≡ m.shape.k = read16 m.shape.k (to_be_bytes w16 m.shape.block ++ m.digest) (omega (arith, limits.k)) in
    let block : number16_at (manifest_frame m) 20 ≡ m.shape.block = read16 m.shape.block m.digest (omega (arith, limits.block)) in
    let shape : shape_in (manifest_frame m) ≡ m.shape =
    ap (λ (n : ℕ). record { len = n; k = number16_at (manifest_frame m) 18; block = number16_at (manifest_frame m) 20 }) len
    ∙ ap (λ (n : ℕ). record { len = m.shape.len; k = n; block = number16_at (manifest_frame m) 20 }) k
    ∙ ap (λ (n : ℕ). record { len = m.shape.len; k = m.shape.k; block = n }) block in
    let k-fits : (nat_le 1 m.shape.k && nat_le m.shape.k 64) ≡ true = both_true (le-leb 1 m.shape.k limits.k.0) (le-leb m.shape.k 64 limits.k.1) in
    let block-fits : (m.shape.block % 2 == 0 && nat_le 2 m.shape.block && nat_le m.shape.block 4096) ≡ true =
    both_true (both_true (eq-eqb (m.shape.block % 2) 0 limits.block.0) (le-leb 2 m.shape.block limits.block.1)) (le-leb m.shape.block 4096 limits.block.2) in (
      λ _. ap (λ (x : ℕ). nat_le x 16777216) len ∙ le-leb m.shape.len 16777216 limits.len,
      (
        λ _. ap (λ (x : ℕ). nat_le 1 x && nat_le x 64) k ∙ k-fits,
        (
          λ _. ap (λ (x : ℕ). x % 2 == 0 && nat_le 2 x && nat_le x 4096) block ∙ block-fits,
          (λ _. ap (λ (d : Dimensions). nat_le (generations_of d) 256) shape ∙ le-leb (generations_of m.shape) 256 limits.generations, tt),
        ),
      ),
    )

manifest_clean : (m : Manifest) → IsManifest m → NothingFails BeforeManifest (manifest_frame m)
unfolding judgements body_judgements
manifest_clean m is =
    let len = length-manifest_body m is in
    let count = length (manifest_frame m) in
    clean_of_passed BeforeManifest (manifest_frame m)
    (join (head_judgements BeforeManifest (manifest_frame m)) (manifest_judgements (manifest_frame m)) count
    (head_passes BeforeManifest 1 (manifest_body m) count (omega arith) refl refl refl (eq-eqb (length (manifest_body m)) 44 len))
    (manifest_passes m count is))

-- ---- a ticket

or_true : (a b : Bool) → b ≡ true → (a || b) ≡ true
or_true true b is = refl
or_true false b is = is

any_more : (test : ℕ → Bool) (x t : ℕ) (xs : List ℕ) → test t ≡ true → (t ≢ x → list_any test xs ≡ true) → list_any test (x ∷ xs) ≡ true
any_more test x t xs here later =
    decided (t == x) refl
  where
    decided : (b : Bool) → (t == x) ≡ b → list_any test (x ∷ xs) ≡ true
    decided true is = let at : test x ≡ true = subst (λ (n : ℕ). test n ≡ true) (eqb-true t x is) here in rw at refl
    decided false is = or_true (test x) (list_any test xs) (later (λ same. absurd (let w : true ≡ false = sym (eq-eqb t x same) ∙ is in cc)))

any_of_nine : (test : ℕ → Bool) (t : ℕ) → t ≤ 8 → test t ≡ true → list_any test check_counts ≡ true
any_of_nine test t few here =
    any_more test 0 t (1 ∷ 2 ∷ 3 ∷ 4 ∷ 5 ∷ 6 ∷ 7 ∷ 8 ∷ []) here (λ not-0.
    any_more test 1 t (2 ∷ 3 ∷ 4 ∷ 5 ∷ 6 ∷ 7 ∷ 8 ∷ []) here (λ not-1.
    any_more test 2 t (3 ∷ 4 ∷ 5 ∷ 6 ∷ 7 ∷ 8 ∷ []) here (λ not-2.
    any_more test 3 t (4 ∷ 5 ∷ 6 ∷ 7 ∷ 8 ∷ []) here (λ not-3.
    any_more test 4 t (5 ∷ 6 ∷ 7 ∷ 8 ∷ []) here (λ not-4.
    any_more test 5 t (6 ∷ 7 ∷ 8 ∷ []) here (λ not-5.
    any_more test 6 t (7 ∷ 8 ∷ []) here (λ not-6.
    any_more test 7 t (8 ∷ []) here (λ not-7.
    any_more test 8 t [] here (λ not-8.
    absurd (omega arith))))))))))

pub length-ticket_body : SymbolLaws → (shape : Dimensions) (t : Ticket) → IsTicket shape t → length (ticket_body t) ≡ ticket_len shape t.checks
unfolding ticket_body
length-ticket_body laws shape t is =
    omega (arith, length-append t.key (t.checks ∷ be_bytes_of t.sums), laws.length t.sums, is.key_length, is.sums.count)

-- a ticket of the largest shape is short enough for the head to tell its length
pub short_ticket : (shape : Dimensions) (checks : ℕ) → IsShape shape → checks ≤ 8 → ticket_len shape checks < 2 ^ 32
short_ticket shape checks limits few =
    let generations = mul-le checks (generations_of shape) 8 256 few limits.generations in
    let sums = mul-le (checks * generations_of shape) shape.k 2048 64 generations limits.k.1 in
    omega arith
  where
    mul-le : (a b c d : ℕ) → a ≤ c → b ≤ d → a * b ≤ c * d
    mul-le a b c d ac bd = grind arith

checks_read : (t : Ticket) → length t.key ≡ 32 → get_or (ticket_frame t) 42 0 ≡ t.checks
unfolding ticket_body
checks_read t len = cell_of_body 2 (ticket_body t) 32 ∙ ap (λ (n : ℕ). get_or (ticket_body t) n 0) (sym len) ∙ get_or-append_seam t.key t.checks (be_bytes_of t.sums) 0

ticket_clean : SymbolLaws → (shape : Dimensions) (t : Ticket) → IsShape shape → IsTicket shape t → NothingFails (BeforeTicket shape) (ticket_frame t)
unfolding judgements body_judgements
ticket_clean laws shape t limits is =
    let len = length-ticket_body laws shape t is in
    let short : length (ticket_body t) < 2 ^ 32 = omega (arith, short_ticket shape t.checks limits is.checks) in
    let count = length (ticket_frame t) in
    let agrees : (length (ticket_body t) == ticket_len shape t.checks) ≡ true = eq-eqb _ _ len in
    let checks = checks_read t is.key_length in
    let told = len_read 2 (ticket_body t) short in
    clean_of_passed (BeforeTicket shape) (ticket_frame t)
    (join (head_judgements (BeforeTicket shape) (ticket_frame t)) (ticket_judgements shape (ticket_frame t)) count
    (head_passes (BeforeTicket shape) 2 (ticket_body t) count short refl refl refl
    (any_of_nine (λ (checks : ℕ). length (ticket_body t) == ticket_len shape checks) t.checks is.checks agrees)) (
      λ _. ap (λ (x : ℕ). nat_le x 8 && body_len_in (ticket_frame t) == ticket_len shape x) checks
          ∙ ap (λ (x : ℕ). nat_le t.checks 8 && x == ticket_len shape t.checks) told
          ∙ both_true (le-leb t.checks 8 is.checks) agrees,
      tt,
    ))

-- ---- a packet

generation_read : (p : Packet) → p.generation < 2 ^ 16 → number16_at (packet_frame p) 10 ≡ p.generation
unfolding frame head packet_body
generation_read p fits = read16 p.generation (be_bytes_of p.coeffs ++ be_bytes_of p.payload) fits

packet_clean : SymbolLaws → (shape : Dimensions) (p : Packet) → IsShape shape → IsPacket shape p → NothingFails (BeforeEnd shape) (packet_frame p)
unfolding judgements body_judgements
packet_clean laws shape p limits is =
    let len = length-packet_body laws shape p is in
    let k-few = limits.k in
    let block-few = limits.block in
    let short : length (packet_body p) < 2 ^ 32 = omega arith in
    let count = length (packet_frame p) in
    let generation = generation_read p (omega (arith, is.generation, limits.generations)) in
    clean_of_passed (BeforeEnd shape) (packet_frame p)
    (join (head_judgements (BeforeEnd shape) (packet_frame p)) (packet_judgements shape (packet_frame p)) count
    (head_passes (BeforeEnd shape) 3 (packet_body p) count short refl refl refl (eq-eqb (length (packet_body p)) (packet_len shape) len))
    (λ _. ap (λ (x : ℕ). nat_lt x (generations_of shape)) generation ∙ lt-ltb p.generation (generations_of shape) is.generation, tt))

-- ---- an end, whose frame is a head alone

end_clean : (shape : Dimensions) → NothingFails (BeforeEnd shape) end_frame
unfolding judgements body_judgements frame head
end_clean shape =
    clean_of_passed (BeforeEnd shape) end_frame
    (join (head_judgements (BeforeEnd shape) end_frame) (packet_judgements shape end_frame) 10
    (head_passes (BeforeEnd shape) 4 [] 10 (omega arith) refl refl refl refl) (λ there. absurd (omega arith), tt))

-- ---- all of them

-- the shape that a phase has keeps the limits, since a manifest that may follow told it
abbrev pub HasShape : Phase → Type 0
HasShape BeforeManifest = Unit {0}
HasShape (BeforeTicket shape) = IsShape shape
HasShape (BeforeEnd shape) = IsShape shape
HasShape Ended = Unit {0}

pub spelling_is_clean : SymbolLaws → (phase : Phase) (f : Frame) → HasShape phase → MayFollow phase f → NothingFails phase (frame_spelling f)
spelling_is_clean laws BeforeManifest (frames.Manifest m) has is = manifest_clean m is
spelling_is_clean laws BeforeManifest (frames.Ticket t) has is = absurd is
spelling_is_clean laws BeforeManifest (frames.Packet p) has is = absurd is
spelling_is_clean laws BeforeManifest frames.End has is = absurd is
spelling_is_clean laws (BeforeTicket shape) (frames.Manifest m) has is = absurd is
spelling_is_clean laws (BeforeTicket shape) (frames.Ticket t) has is = ticket_clean laws shape t has is
spelling_is_clean laws (BeforeTicket shape) (frames.Packet p) has is = absurd is
spelling_is_clean laws (BeforeTicket shape) frames.End has is = absurd is
spelling_is_clean laws (BeforeEnd shape) (frames.Manifest m) has is = absurd is
spelling_is_clean laws (BeforeEnd shape) (frames.Ticket t) has is = absurd is
spelling_is_clean laws (BeforeEnd shape) (frames.Packet p) has is = packet_clean laws shape p has is
spelling_is_clean laws (BeforeEnd shape) frames.End has is = end_clean shape
spelling_is_clean laws Ended f has is = absurd (ended f is)
  where
    ended : (f : Frame) → MayFollow Ended f → ⊥
    ended (frames.Manifest m) is = is
    ended (frames.Ticket t) is = is
    ended (frames.Packet p) is = is
    ended frames.End is = is
