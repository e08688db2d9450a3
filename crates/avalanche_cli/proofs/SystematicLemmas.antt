-- The packets of a generation's blocks, and the draws over them.
use Rattle.std.proofs.Common.{◌≡◌, ℕ, ◌<◌, Bool, true, false, List, [], ◌∷◌, length, map, get_or, if◌then◌else◌, refl, sym, ap, subst, ◌∙◌, arith}
use Rattle.std.specs.List.{All, range_with_len}
use Rattle.std.proofs.lemmas.List.Elements.{All-append, All-get_or, All-map, All-nil, All-same, All-weaker}
use Rattle.std.proofs.lemmas.List.FromFn.{get_or-map-range_with_len, get_or-range_with_len, length-map-range_with_len, length-range_with_len}
use Rattle.linear_spec.specs.declared.packet.Packet.{Packet}
use Rattle.linear_spec.specs.Combination.{combination_of}
use Rattle.linear_spec.specs.Packet.{Fits, coefficients_of}
use Rattle.linear_spec.specs.Symbols.{IsVector}
use Rattle.linear_spec.specs.UnitVector.{unit_of}
use Rattle.generation.specs.Shape.{Dimensions, IsShape, generations_of, symbols_per_block}
use Rattle.generation.specs.Blocks.{block_of}
use Rattle.src_check.specs.Keys.{key_of_number}
use Rattle.src_check.specs.Tickets.{IsTrueToFile, generation_blocks_of}
use Rattle.recode.specs.Draws.{drawn_packet, numbers_of}
use Rattle.recode.specs.Systematic.{systematic_packet}
use Rattle.avalanche_args.specs.declared.command.SeedWords.{SeedWords}
use Rattle.avalanche_cli.specs.SendSteps.{FitsFrame}
use Rattle.avalanche_cli.specs.Seed.{generation_packets_of, packets_of_seed, seed_draw, seed_packets_of, shape_of_seed}
use Rattle.avalanche_cli.proofs.PieceLemmas.{all_of_lists}
use Rattle.avalanche_cli.proofs.UnitLemmas.{IsVector-unit}

-- ---- all packets of the blocks

-- a fact of every packet of a generation
pub all_of_generation : (P : Packet → Type 0) (d : Dimensions) (file : List ℕ) (g : ℕ) → ((i : ℕ) → i < d.k → P (systematic_packet d file g i)) → All P (generation_packets_of d file g)
unfolding generation_packets_of
all_of_generation P d file g each =
    All-map P (systematic_packet d file g) (range_with_len 0 d.k)
    (λ i e within.
    let short = length-range_with_len 0 d.k in
    let place = get_or-range_with_len 0 d.k i e (omega arith) in
    each (get_or (range_with_len 0 d.k) i e) (omega arith))

pub length-generation_packets : (d : Dimensions) (file : List ℕ) (g : ℕ) → length (generation_packets_of d file g) ≡ d.k
unfolding generation_packets_of
length-generation_packets d file g = length-map-range_with_len (systematic_packet d file g) 0 d.k

-- they are of one generation
pub of_generation : (d : Dimensions) (file : List ℕ) (g number : ℕ) (blocks : List Packet) → blocks ≡ generation_packets_of d file g → number ≡ g → All (λ packet. packet.generation ≡ number) blocks
of_generation d file g number blocks are same =
    let P : Packet → Type 0 = λ packet. packet.generation ≡ number in
    All-same P blocks (generation_packets_of d file g) are (all_of_generation P d file g (λ i within. sym same))

-- their coefficients are the unit vectors
pub coefficients_of_generation : (d : Dimensions) (file : List ℕ) (g : ℕ) → coefficients_of (generation_packets_of d file g) ≡ map (unit_of d.k) (range_with_len 0 d.k)
unfolding generation_packets_of
coefficients_of_generation d file g = units (range_with_len 0 d.k)
  where
    units : (places : List ℕ) → map (λ (packet : Packet). packet.coeffs) (map (systematic_packet d file g) places) ≡ map (unit_of d.k) places
    units [] = refl
    units (place ∷ places) = ap (λ rest. unit_of d.k place ∷ rest) (units places)

-- frames have room for packets that fit
pub fit_frames : (d : Dimensions) (packets : List Packet) → IsShape d → All (Fits d.k (symbols_per_block d)) packets → All FitsFrame packets
fit_frames d packets shape fit =
    All-weaker (Fits d.k (symbols_per_block d)) FitsFrame (λ packet fits. record {
      coeffs = omega (arith, fits.coeffs.count, shape.k.1);
      payload = omega (arith, fits.payload.count, shape.block.2);
    }) packets fit

-- ---- a draw

pub draw_is : (words : SeedWords) (file : List ℕ) (d : Dimensions) (g n q : ℕ) (key : List ℕ) (blocks : List Packet) (before after : Packet) → d ≡ shape_of_seed words file → blocks ≡ generation_packets_of d file g → key ≡ key_of_number words.key → n ≡ q → before.generation ≡ g → length before.coeffs ≡ d.k → length before.payload ≡ symbols_per_block d → after ≡ drawn_packet (length before.coeffs) (length before.payload) before.generation key 0 n blocks → after ≡ seed_draw words file g q
draw_is words file d g n q key blocks before after same are own number generation coeffs payload is =
    let s : ℕ = symbols_per_block d in
    is
    ∙ ap (λ (k : ℕ). drawn_packet k (length before.payload) before.generation key 0 n blocks) coeffs
    ∙ ap (λ (r : ℕ). drawn_packet d.k r before.generation key 0 n blocks) payload
    ∙ ap (λ (h : ℕ). drawn_packet d.k s h key 0 n blocks) generation
    ∙ ap (λ (w : List ℕ). drawn_packet d.k s g w 0 n blocks) own
    ∙ ap (λ (m : ℕ). drawn_packet d.k s g (key_of_number words.key) 0 m blocks) number
    ∙ ap (λ (front : List Packet). drawn_packet d.k s g (key_of_number words.key) 0 q front) are
    ∙ ap (λ (e : Dimensions). drawn_packet e.k (symbols_per_block e) g (key_of_number words.key) 0 q (generation_packets_of e file g)) same

-- it has the lengths and the generation of the packet that it is drawn into
pub drawn_lengths : (before after : Packet) (key : List ℕ) (q : ℕ) (blocks : List Packet) → after ≡ drawn_packet (length before.coeffs) (length before.payload) before.generation key 0 q blocks → (after.generation ≡ before.generation) × (length after.coeffs ≡ length before.coeffs) × (length after.payload ≡ length before.payload)
unfolding combination_of
drawn_lengths before after key q blocks is = (
  ap (λ (p : Packet). p.generation) is,
  ap (λ (p : Packet). length p.coeffs) is ∙ length-map-range_with_len _ 0 (length before.coeffs),
  ap (λ (p : Packet). length p.payload) is ∙ length-map-range_with_len _ 0 (length before.payload),
)

-- packets that fit have the lengths of a packet of the shape
pub fit_lengths : (d : Dimensions) (before : Packet) (packets : List Packet) → length before.coeffs ≡ d.k → length before.payload ≡ symbols_per_block d → All (Fits d.k (symbols_per_block d)) packets → All (Fits (length before.coeffs) (length before.payload)) packets
fit_lengths d before packets coeffs payload fit =
    subst (λ (k : ℕ). All (Fits k (length before.payload)) packets) (sym coeffs)
    (subst (λ (s : ℕ). All (Fits d.k s) packets) (sym payload) fit)

-- ---- all packets of a stream

-- a list that may be left out
all_unless : {X : Type 0} (P : X → Type 0) (left_out : Bool) (xs : List X) → All P xs → All P (if left_out then [] else xs)
all_unless P true xs all = All-nil P
all_unless P false xs all = all

-- a fact of every packet of a generation that the words ask for
pub all_of_seed : (P : Packet → Type 0) (words : SeedWords) (file : List ℕ) (g : ℕ) → All P (generation_packets_of (shape_of_seed words file) file g) → ((q : ℕ) → P (seed_draw words file g q)) → All P (seed_packets_of words file g)
all_of_seed P words file g blocks draws =
    let own = generation_packets_of (shape_of_seed words file) file g in
    let numbers = numbers_of words.coded g in
    All-append P (if words.bare then [] else own) (map (seed_draw words file g) numbers)
    (all_unless P words.bare own blocks)
    (All-map P (seed_draw words file g) numbers (λ i e within. draws (get_or numbers i e)))

-- a fact of every packet of a stream
pub all_seeded : (P : Packet → Type 0) (words : SeedWords) (file : List ℕ) → ((g : ℕ) → g < generations_of (shape_of_seed words file) → All P (seed_packets_of words file g)) → All P (packets_of_seed words file)
all_seeded P words file each =
    let count = generations_of (shape_of_seed words file) in
    all_of_lists P (seed_packets_of words file) (range_with_len 0 count) (λ i e within.
    let low : i < count = subst (λ (n : ℕ). i < n) (length-range_with_len 0 count) within in
    let place = get_or-range_with_len 0 count i e low in
    let here : get_or (range_with_len 0 count) i e ≡ i = omega arith in
    subst (λ (g : ℕ). All P (seed_packets_of words file g)) (sym here) (each i low))

-- ---- one packet of the blocks

block_at_column : (d : Dimensions) (file : List ℕ) (g i : ℕ) → i < d.k → get_or (generation_blocks_of d file g) i [] ≡ block_of d file g i
unfolding generation_blocks_of
block_at_column d file g i below = get_or-map-range_with_len (block_of d file g) 0 d.k i i [] below (omega arith)

module _ (d : Dimensions) (file : List ℕ) (count : (g : ℕ) → length (generation_blocks_of d file g) ≡ d.k) (vectors : (g : ℕ) → g < generations_of d → All (IsVector (symbols_per_block d)) (generation_blocks_of d file g)) where
  block_is_vector : (g i : ℕ) → g < generations_of d → i < d.k → IsVector (symbols_per_block d) (block_of d file g i)
  block_is_vector g i below within =
      let long = count g in
      subst (IsVector (symbols_per_block d)) (block_at_column d file g i within)
      (All-get_or (IsVector (symbols_per_block d)) (generation_blocks_of d file g) i [] (omega arith) (vectors g below))

  pub systematic_fits : (g i : ℕ) → g < generations_of d → i < d.k → Fits d.k (symbols_per_block d) (systematic_packet d file g i)
  systematic_fits g i below within = record { coeffs = IsVector-unit d.k i; payload = block_is_vector g i below within }

  module _ (picks : (n k column : ℕ) (blocks : List (List ℕ)) → length blocks ≡ k → All (IsVector n) blocks → column < k → combination_of n (unit_of k column) blocks ≡ get_or blocks column []) where
    pub systematic_is_true : (g i : ℕ) → g < generations_of d → i < d.k → IsTrueToFile d file (systematic_packet d file g i)
    systematic_is_true g i below within =
        picks (symbols_per_block d) d.k i (generation_blocks_of d file g) (count g) (vectors g below) within ∙ block_at_column d file g i within
