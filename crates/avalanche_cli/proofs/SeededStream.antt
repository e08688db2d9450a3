-- What `seed` writes is a stream, and how long it is.
use Rattle.std.proofs.Common.{◌≡◌, ℕ, zero, suc, ◌+◌, ◌*◌, ◌<◌, ◌≤◌, ◌^◌, Bool, true, false, List, [], ◌∷◌, ◌++◌, length, replicate, if◌then◌else◌, refl, ap, ap₂, subst, ◌∙◌, length-append, lit<, arith}
use Rattle.std.specs.Int.{w64, to_be_bytes, byte_at, bytes_high_first}
use Rattle.std.specs.List.{All, flat_map, range_with_len}
use Rattle.std.proofs.Math.Nat.{mul-le-mul_left, mul_assoc}
use Rattle.std.proofs.lemmas.Grind.{div_ceil_times}
use Rattle.std.proofs.lemmas.List.Elements.{All-append, All-cons, All-head, All-nil, All-replicate, All-tail}
use Rattle.std.proofs.lemmas.List.FromFn.{length-map-range_with_len, length-range_with_len}
use Rattle.sha2.specs.Sha256.{digest_bytes, sha256}
use Rattle.sha2.proofs.Facts256.{length-sha256}
use Rattle.linear_spec.specs.declared.packet.Packet.{Packet}
use Rattle.linear_spec.specs.Packet.{Fits}
use Rattle.linear_spec.specs.Symbols.{AreBytes, IsVector, be_bytes_of}
use Rattle.generation.specs.declared.ticket.Ticket.{Ticket}
use Rattle.generation.specs.Shape.{Dimensions, IsShape, generations_of, symbols_per_block}
use Rattle.src_check.specs.Keys.{key_of_ticket}
use Rattle.packet_wire.specs.declared.manifest.Manifest.{Manifest}
use Rattle.packet_wire.specs.Frame.{frame, head}
use Rattle.packet_wire.specs.Stream.{IsPacket, IsStream, IsTicket, end_frame, manifest_body, manifest_frame, packet_body, packet_frame, spelling_of, ticket_body, ticket_frame}
use Rattle.avalanche_args.specs.declared.command.SeedWords.{SeedWords}
use Rattle.avalanche_cli.specs.Seed.{IsSeedable, contents_of_seed, generation_packets_of, manifest_of_seed, packets_of_seed, seed_count_of, seed_draw, seed_draws_of, seed_packets_of, shape_of_seed, stream_of_seed, stream_room_of, ticket_of_seed}
use Rattle.avalanche_cli.proofs.SeedLemmas.{is_shape}
use Rattle.avalanche_cli.proofs.SystematicLemmas.{length-generation_packets}

-- ---- bytes

AreBytes-high_first : (k n : ℕ) → AreBytes (bytes_high_first k n)
AreBytes-high_first zero n = All-nil (λ byte. byte < 2 ^ 8)
AreBytes-high_first (suc k) n = All-cons (λ byte. byte < 2 ^ 8) (byte_at k n) (bytes_high_first k n) (byte_is_byte k) (AreBytes-high_first k n)
  where
    byte_is_byte : (i : ℕ) → byte_at i n < 2 ^ 8
    byte_is_byte zero = omega arith
    byte_is_byte (suc i) = omega arith

AreBytes-digest_bytes : (hash : List ℕ) (n : ℕ) → AreBytes (digest_bytes hash n)
unfolding digest_bytes
AreBytes-digest_bytes hash zero = All-nil (λ byte. byte < 2 ^ 8)
AreBytes-digest_bytes hash (suc n) = All-append (λ byte. byte < 2 ^ 8) (digest_bytes hash n) _ (AreBytes-digest_bytes hash n) (AreBytes-high_first 4 _)

AreBytes-sha256 : (file : List ℕ) → AreBytes (sha256 file)
unfolding sha256
AreBytes-sha256 file = AreBytes-digest_bytes _ 8

AreBytes-key : (key peer : ℕ) → AreBytes (key_of_ticket key peer)
AreBytes-key key peer =
    let P : ℕ → Type 0 = λ byte. byte < 2 ^ 8 in
    All-append P (to_be_bytes w64 key) (to_be_bytes w64 peer ++ replicate 16 0) (AreBytes-high_first 8 key)
    (All-append P (to_be_bytes w64 peer) (replicate 16 0) (AreBytes-high_first 8 peer) (All-replicate P 16 0 (lit< tt)))

length-key : (key peer : ℕ) → length (key_of_ticket key peer) ≡ 32
length-key key peer = refl

-- ---- a stream

pub is_ticket : (d : Dimensions) (ticket : Ticket) → AreBytes ticket.key → length ticket.key ≡ 32 → ticket.checks ≤ 8 → IsVector (generations_of d * ticket.checks * d.k) ticket.sums → IsTicket d ticket
is_ticket d ticket bytes long few sums =
    let count : generations_of d * ticket.checks * d.k ≡ ticket.checks * generations_of d * d.k = omega arith in
    record { key_bytes = bytes; key_length = long; checks = few; sums = subst (λ (n : ℕ). IsVector n ticket.sums) count sums }

pub is_stream : (words : SeedWords) (file : List ℕ) → IsSeedable words file → IsVector (generations_of (shape_of_seed words file) * words.checks * words.k) (ticket_of_seed words file).sums → All (IsPacket (shape_of_seed words file)) (packets_of_seed words file) → IsStream (stream_of_seed words file) (contents_of_seed words file)
is_stream words file is sums packets = record {
  manifest = record { shape = is_shape words file is.in_range is.within; digest_bytes = AreBytes-sha256 file; digest_length = length-sha256 file };
  ticket = is_ticket (shape_of_seed words file) (ticket_of_seed words file) (AreBytes-key words.key words.peer) (length-key words.key words.peer) is.in_range.checks sums;
  packets = packets;
  spelled = refl;
}

-- ---- its length

length-head : (kind len : ℕ) → length (head kind len) ≡ 10
unfolding head
length-head kind len = refl

length-frame : (kind : ℕ) (body : List ℕ) → length (frame kind body) ≡ 10 + length body
unfolding frame
length-frame kind body = omega (arith, length-append (head kind (length body)) body, length-head kind (length body))

pub length-flat_map_same : {X Y : Type 0} (f : X → List Y) (size : ℕ) (xs : List X) → All (λ x. length (f x) ≡ size) xs → length (flat_map f xs) ≡ length xs * size
length-flat_map_same f size [] all = omega arith
length-flat_map_same {X = X} f size (x ∷ xs) all =
    let P : X → Type 0 = λ y. length (f y) ≡ size in
    omega (arith, length-append (f x) (flat_map f xs), All-head P x xs all, length-flat_map_same f size xs (All-tail P x xs all))

-- a list of n items that may be left out
length-unless : {X : Type 0} (left_out : Bool) (xs : List X) (n : ℕ) → length xs ≡ n → length (if left_out then [] else xs) ≡ (if left_out then 0 else n)
length-unless true xs n count = refl
length-unless false xs n count = count

length-seed_packets : (words : SeedWords) (file : List ℕ) (g : ℕ) → length (seed_packets_of words file g) ≡ seed_count_of words
length-seed_packets words file g =
    let d = shape_of_seed words file in
    let own = generation_packets_of d file g in
    let blocks = length-unless words.bare own words.k (length-generation_packets d file g) in
    let draws = length-map-range_with_len (seed_draw words file g) (g * words.coded) words.coded in
    length-append (if words.bare then [] else own) (seed_draws_of words file g) ∙ ap₂ (λ m n. m + n) blocks draws

length-packets : (words : SeedWords) (file : List ℕ) → length (packets_of_seed words file) ≡ generations_of (shape_of_seed words file) * seed_count_of words
length-packets words file =
    let count = generations_of (shape_of_seed words file) in
    length-flat_map_same (seed_packets_of words file) (seed_count_of words) (range_with_len 0 count) (λ i e within. length-seed_packets words file _)
    ∙ ap (λ (n : ℕ). n * seed_count_of words) (length-range_with_len 0 count)

-- the generations of a file have less than one generation more than its bytes
few_bytes : (d : Dimensions) → IsShape d → generations_of d * d.k * d.block < d.len + d.k * d.block
unfolding generations_of
few_bytes d shape =
    let some : 0 < d.k * d.block = grind arith in
    let times = div_ceil_times d.len (d.k * d.block) some in
    rw (mul_assoc (generations_of d) d.k d.block) times.1

-- and the stream of their blocks is within the limit of a fetch
few_frames : (d : Dimensions) (checks : ℕ) → IsShape d → checks ≤ 8 → stream_room_of d checks (generations_of d * d.k) ≤ 67108864
few_frames d checks shape few =
    let g = generations_of d in
    let bytes = few_bytes d shape in
    let one : d.k * d.block ≤ d.k * 4096 = mul-le-mul_left d.k shape.block.2 in
    let blocks : d.k * g ≤ d.k * 256 = mul-le-mul_left d.k shape.generations in
    let own : 12 + 2 * d.k ≤ 140 = omega arith in
    let heads : g * d.k * (12 + 2 * d.k) ≤ g * d.k * 140 = mul-le-mul_left (g * d.k) own in
    let sums : g * d.k * checks ≤ g * d.k * 8 = mul-le-mul_left (g * d.k) few in
    omega arith

-- so is one with no draws
pub few_without_draws : (words : SeedWords) (d : Dimensions) → IsShape d → words.checks ≤ 8 → d.k ≡ words.k → words.coded ≡ 0 → stream_room_of d words.checks (generations_of d * seed_count_of words) ≤ 67108864
few_without_draws words d shape few same none =
    let size : ℕ = 12 + 2 * d.k + d.block in
    let left = at_most words.bare words.k in
    let count : seed_count_of words ≤ d.k = omega arith in
    let packets : generations_of d * seed_count_of words ≤ generations_of d * d.k = mul-le-mul_left (generations_of d) count in
    let frames : size * (generations_of d * seed_count_of words) ≤ size * (generations_of d * d.k) = mul-le-mul_left size packets in
    let all = few_frames d words.checks shape few in
    omega arith
  where
    at_most : (left_out : Bool) (n : ℕ) → (if left_out then 0 else n) ≤ n
    at_most true n = omega arith
    at_most false n = omega arith

module _ (twice : (symbols : List ℕ) → length (be_bytes_of symbols) ≡ 2 * length symbols) where
  length-packet_frame : (d : Dimensions) (packet : Packet) → IsShape d → Fits d.k (symbols_per_block d) packet → length (packet_frame packet) ≡ 12 + 2 * d.k + d.block
  unfolding packet_body
  length-packet_frame d packet shape fits =
      omega (arith, length-frame 3 (packet_body packet), length-append (be_bytes_of packet.coeffs) (be_bytes_of packet.payload), twice packet.coeffs, twice packet.payload, fits.coeffs.count, fits.payload.count, shape.block.0)

  length-manifest_frame : (manifest : Manifest) → length manifest.digest ≡ 32 → length (manifest_frame manifest) ≡ 54
  unfolding manifest_body
  length-manifest_frame manifest long = omega (arith, length-frame 1 (manifest_body manifest))

  length-ticket_frame : (ticket : Ticket) → length ticket.key ≡ 32 → length (ticket_frame ticket) ≡ 43 + 2 * length ticket.sums
  unfolding ticket_body
  length-ticket_frame ticket long =
      omega (arith, length-frame 2 (ticket_body ticket), length-append ticket.key (ticket.checks ∷ be_bytes_of ticket.sums), twice ticket.sums)

  length-end_frame : length end_frame ≡ 10
  length-end_frame = length-frame 4 []

  pub length-stream : (words : SeedWords) (file : List ℕ) → IsSeedable words file → length (ticket_of_seed words file).sums ≡ generations_of (shape_of_seed words file) * words.checks * words.k → All (Fits words.k (symbols_per_block (shape_of_seed words file))) (packets_of_seed words file) → length (stream_of_seed words file) ≡ stream_room_of (shape_of_seed words file) words.checks (generations_of (shape_of_seed words file) * seed_count_of words)
  unfolding spelling_of
  length-stream words file is sums fit =
      let d = shape_of_seed words file in
      let shape = is_shape words file is.in_range is.within in
      let packets = packets_of_seed words file in
      let size : ℕ = 12 + 2 * words.k + words.block in
      let manifest = length-manifest_frame (manifest_of_seed words file) (length-sha256 file) in
      let ticket = length-ticket_frame (ticket_of_seed words file) (length-key words.key words.peer) in
      let all : length (flat_map packet_frame packets) ≡ generations_of d * seed_count_of words * size =
      length-flat_map_same packet_frame size packets (λ i e within. length-packet_frame d _ shape (fit i e within))
      ∙ ap (λ (n : ℕ). n * size) (length-packets words file) in
      let back = length-append (flat_map packet_frame packets) end_frame in
      let middle = length-append (ticket_frame (ticket_of_seed words file)) (flat_map packet_frame packets ++ end_frame) in
      let front = length-append (manifest_frame (manifest_of_seed words file)) (ticket_frame (ticket_of_seed words file) ++ (flat_map packet_frame packets ++ end_frame)) in
      omega (arith, length-end_frame)
