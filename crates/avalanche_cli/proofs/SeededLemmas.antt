-- A seeded stream: all its packets pass and are true to the file, and each generation with its blocks has full rank.
use Rattle.std.proofs.Common.{◌≡◌, ℕ, ◌+◌, ◌*◌, ◌<◌, ◌≤◌, Bool, true, false, ◌==◌, ◌&&◌, List, [], ◌++◌, length, map, get_or, if◌then◌else◌, refl, ap, ap₂, sym, subst, ◌∙◌, eq-eqb, ne_eqb}
use Rattle.std.specs.List.{All, range_with_len}
use Rattle.std.proofs.lemmas.List.{map-append}
use Rattle.std.proofs.lemmas.List.Elements.{All-map, All-same}
use Rattle.linear_spec.specs.declared.equations.Equations.{Equations}
use Rattle.linear_spec.specs.declared.packet.Packet.{Packet}
use Rattle.linear_spec.specs.Combination.{combination_of}
use Rattle.linear_spec.specs.Packet.{Fits, IsTrueTo, coefficients_of, vector_of, vectors_of}
use Rattle.linear_spec.specs.Passing.{AreEquations, Passes}
use Rattle.linear_spec.specs.Solving.{Solves}
use Rattle.linear_spec.specs.Span.{HasRank, InSpan}
use Rattle.linear_spec.specs.SpanLaws.{RankLaws}
use Rattle.linear_spec.specs.Symbols.{IsVector}
use Rattle.linear_spec.specs.UnitVector.{unit_of}
use Rattle.generation.specs.declared.ticket.Ticket.{Ticket}
use Rattle.generation.specs.Shape.{Dimensions, IsShape, generations_of, symbols_per_block}
use Rattle.generation.specs.Blocks.{IsFile}
use Rattle.src_check.specs.Tickets.{AreEquationsOf, IsTicketOf, IsTrueToFile, file_sums_of, generation_blocks_of}
use Rattle.src_check.specs.Weights.{weights_of_checks}
use Rattle.recode.specs.Draws.{drawn_packet, numbers_of}
use Rattle.packet_wire.specs.Stream.{IsPacket}
use Rattle.avalanche_args.specs.declared.command.SeedWords.{SeedWords}
use Rattle.avalanche_cli.specs.Headline.{DrawsLie}
use Rattle.avalanche_cli.specs.Packets.{equations_of, passes, passing_of}
use Rattle.avalanche_cli.specs.Relay.{ArePacketsTrueTo}
use Rattle.avalanche_cli.specs.Seed.{IsSeedable, contents_of_seed, generation_packets_of, packets_of_seed, seed_draw, seed_draws_of, seed_packets_of, shape_of_seed, ticket_of_seed}
use Rattle.avalanche_cli.proofs.FilterLemmas.{all_kept, none_kept, one_kept}
use Rattle.avalanche_cli.proofs.PassingLemmas.{passes_of}
use Rattle.avalanche_cli.proofs.SeedLemmas.{is_shape}
use Rattle.avalanche_cli.proofs.SystematicLemmas.{all_of_generation, all_of_seed, all_seeded, coefficients_of_generation, systematic_fits, systematic_is_true}
use Rattle.avalanche_cli.proofs.UnitLemmas.{rank_of_more}

-- ---- the laws that are taken

abbrev pub UnitsPick : Type 0
UnitsPick = (n k column : ℕ) (blocks : List (List ℕ)) → length blocks ≡ k → All (IsVector n) blocks → column < k → combination_of n (unit_of k column) blocks ≡ get_or blocks column []

abbrev pub HaveKBlocks : Type 0
HaveKBlocks = (d : Dimensions) (file : List ℕ) (g : ℕ) → length (generation_blocks_of d file g) ≡ d.k

abbrev pub BlocksAreVectors : Type 0
BlocksAreVectors = (d : Dimensions) (file : List ℕ) (g : ℕ) → IsShape d → IsFile d file → g < generations_of d → All (IsVector (symbols_per_block d)) (generation_blocks_of d file g)

abbrev pub WeightsAreVectors : Type 0
WeightsAreVectors = (key : List ℕ) (s checks : ℕ) → IsVector (checks * s) (weights_of_checks key s checks)

abbrev pub SumsAreVectors : Type 0
SumsAreVectors = (d : Dimensions) (file key : List ℕ) (checks : ℕ) → IsVector (generations_of d * checks * d.k) (file_sums_of d file key checks)

abbrev pub TruePacketsPass : Type 0
TruePacketsPass = (d : Dimensions) (file : List ℕ) (ticket : Ticket) (equations : Equations) (packet : Packet) → IsShape d → IsFile d file → IsTicketOf d file ticket → AreEquationsOf d ticket equations → AreEquations equations → Fits d.k (symbols_per_block d) packet → packet.generation < generations_of d → IsTrueToFile d file packet → Passes equations packet

abbrev pub DrawsFit : Type 0
DrawsFit = (k s generation link q : ℕ) (key : List ℕ) (front : List Packet) → All (Fits k s) front → Fits k s (drawn_packet k s generation key link q front)

abbrev pub DrawsSpan : Type 0
DrawsSpan = (k s generation link q : ℕ) (key : List ℕ) (front : List Packet) → All (Fits k s) front → InSpan (k + s) (vectors_of front) (vector_of (drawn_packet k s generation key link q front))

abbrev pub DrawsAreTrue : Type 0
DrawsAreTrue = (k s generation link q : ℕ) (key : List ℕ) (front : List Packet) (blocks : List (List ℕ)) → All (Fits k s) front → All (IsTrueTo s blocks) front → length blocks ≡ k → All (IsVector s) blocks → IsTrueTo s blocks (drawn_packet k s generation key link q front)

pub is_file : (words : SeedWords) (file : List ℕ) → IsSeedable words file → IsFile (shape_of_seed words file) file
is_file words file is = record { len = refl; bytes = is.are_bytes }

module _ (count : HaveKBlocks) (vectors : BlocksAreVectors) (words : SeedWords) (file : List ℕ) (is : IsSeedable words file) where
  blocks_are_vectors : (g : ℕ) → g < generations_of (shape_of_seed words file) → All (IsVector (symbols_per_block (shape_of_seed words file))) (generation_blocks_of (shape_of_seed words file) file g)
  blocks_are_vectors g below = vectors (shape_of_seed words file) file g (is_shape words file is.in_range is.within) (is_file words file is) below

  blocks_fit : (g : ℕ) → g < generations_of (shape_of_seed words file) → All (Fits words.k (symbols_per_block (shape_of_seed words file))) (generation_packets_of (shape_of_seed words file) file g)
  blocks_fit g below =
      let d = shape_of_seed words file in
      all_of_generation (Fits words.k (symbols_per_block d)) d file g (λ i within. systematic_fits d file (count d file) blocks_are_vectors g i below within)

  -- the draws lie in the span of the packets of their generation's blocks
  pub seeded_lie : DrawsSpan → DrawsLie words file
  seeded_lie spans g below =
      let d = shape_of_seed words file in
      let own = generation_packets_of d file g in
      All-map (λ (packet : Packet). InSpan (d.k + symbols_per_block d) (vectors_of own) (vector_of packet)) (seed_draw words file g) (numbers_of words.coded g)
      (λ i e within. spans d.k (symbols_per_block d) g 0 _ _ own (blocks_fit g below))

  module _ (fits : DrawsFit) where
    packets_fit : (g : ℕ) → g < generations_of (shape_of_seed words file) → All (Fits words.k (symbols_per_block (shape_of_seed words file))) (seed_packets_of words file g)
    packets_fit g below =
        let s : ℕ = symbols_per_block (shape_of_seed words file) in
        let own = blocks_fit g below in
        all_of_seed (Fits words.k s) words file g own (λ q. fits words.k s g 0 q _ _ own)

    of_one_generation : (g : ℕ) → All (λ packet. packet.generation ≡ g) (seed_packets_of words file g)
    of_one_generation g =
        let P : Packet → Type 0 = λ packet. packet.generation ≡ g in
        all_of_seed P words file g (all_of_generation P (shape_of_seed words file) file g (λ i within. refl)) (λ q. refl)

    packets_of_shape : (g : ℕ) → g < generations_of (shape_of_seed words file) → All (IsPacket (shape_of_seed words file)) (seed_packets_of words file g)
    packets_of_shape g below = λ i e within. record {
      generation = subst (λ (h : ℕ). h < generations_of (shape_of_seed words file)) (sym (of_one_generation g i e within)) below;
      fits = packets_fit g below i e within;
    }

    pub seeded_packets : All (IsPacket (shape_of_seed words file)) (packets_of_seed words file)
    seeded_packets = all_seeded (IsPacket (shape_of_seed words file)) words file packets_of_shape

    pub seeded_packets_fit : All (Fits words.k (symbols_per_block (shape_of_seed words file))) (packets_of_seed words file)
    seeded_packets_fit = all_seeded (Fits words.k (symbols_per_block (shape_of_seed words file))) words file packets_fit

    module _ (picks : UnitsPick) (truth : DrawsAreTrue) where
      packets_are_true : (g : ℕ) → g < generations_of (shape_of_seed words file) → All (IsTrueTo (symbols_per_block (shape_of_seed words file)) (generation_blocks_of (shape_of_seed words file) file g)) (seed_packets_of words file g)
      packets_are_true g below =
          let d = shape_of_seed words file in
          let s : ℕ = symbols_per_block d in
          let blocks = generation_blocks_of d file g in
          let own : All (IsTrueTo s blocks) (generation_packets_of d file g) =
          all_of_generation (IsTrueTo s blocks) d file g (λ i within. systematic_is_true d file (count d file) blocks_are_vectors picks g i below within) in
          all_of_seed (IsTrueTo s blocks) words file g own
          (λ q. truth words.k s g 0 q _ _ blocks (blocks_fit g below) own (count d file g) (blocks_are_vectors g below))

      pub seeded_true : ArePacketsTrueTo (shape_of_seed words file) (packets_of_seed words file) (generation_blocks_of (shape_of_seed words file) file)
      seeded_true =
          let d = shape_of_seed words file in
          let s : ℕ = symbols_per_block d in
          all_seeded (λ packet. IsTrueTo s (generation_blocks_of d file packet.generation) packet) words file
          (λ g below i e within. subst (λ (h : ℕ). IsTrueTo s (generation_blocks_of d file h) (get_or (seed_packets_of words file g) i e)) (sym (of_one_generation g i e within)) (packets_are_true g below i e within))

      module _ (weights : WeightsAreVectors) (sums : SumsAreVectors) (true_pass : TruePacketsPass) where
        packet_passes : (g : ℕ) (packet : Packet) → g < generations_of (shape_of_seed words file) → packet.generation ≡ g → Fits words.k (symbols_per_block (shape_of_seed words file)) packet → IsTrueTo (symbols_per_block (shape_of_seed words file)) (generation_blocks_of (shape_of_seed words file) file g) packet → Passes (equations_of (contents_of_seed words file)) packet
        packet_passes g packet below of_generation fit true_to =
            let d = shape_of_seed words file in
            let ticket = ticket_of_seed words file in
            true_pass d file ticket (equations_of (contents_of_seed words file)) packet
            (is_shape words file is.in_range is.within) (is_file words file is) refl
            (record { checks = refl; k = refl; s = refl; generations = refl; weights = refl; sums = refl })
            (record { weights = weights ticket.key (symbols_per_block d) words.checks; sums = sums d file ticket.key words.checks })
            fit (subst (λ (h : ℕ). h < generations_of d) (sym of_generation) below)
            (subst (λ (h : ℕ). IsTrueTo (symbols_per_block d) (generation_blocks_of d file h) packet) (sym of_generation) true_to)

        pub seeded_pass : All (Passes (equations_of (contents_of_seed words file))) (packets_of_seed words file)
        seeded_pass =
            all_seeded (Passes (equations_of (contents_of_seed words file))) words file
            (λ g below i e within. packet_passes g (get_or (seed_packets_of words file g) i e) below (of_one_generation g i e within) (packets_fit g below i e within) (packets_are_true g below i e within))

        -- those that pass are all packets of the generation
        pub seeded_passing : (g : ℕ) → g < generations_of (shape_of_seed words file) → passing_of (contents_of_seed words file) g ≡ seed_packets_of words file g
        seeded_passing g below =
            let equations = equations_of (contents_of_seed words file) in
            let pieces : ℕ → List Packet = seed_packets_of words file in
            let test : Packet → Bool = λ packet. (packet.generation == g) && passes equations packet in
            let passing : (i : ℕ) (e : Packet) → i < length (pieces g) → passes equations (get_or (pieces g) i e) ≡ true =
            λ i e within.
            passes_of equations (get_or (pieces g) i e)
            (packet_passes g (get_or (pieces g) i e) below (of_one_generation g i e within) (packets_fit g below i e within) (packets_are_true g below i e within)) in
            one_kept test pieces g (generations_of (shape_of_seed words file)) below
            (all_kept test (pieces g) (λ i e within. ap₂ (λ a b. a && b) (eq-eqb (get_or (pieces g) i e).generation g (of_one_generation g i e within)) (passing i e within)))
            (λ h under other.
            none_kept test (pieces h)
            (λ i e within.
            ap (λ a. a && passes equations (get_or (pieces h) i e))
            (ne_eqb (get_or (pieces h) i e).generation g (λ same. other (sym (of_one_generation h i e within) ∙ same)))))

        pub seeded_truth : (g : ℕ) → g < generations_of (shape_of_seed words file) → Solves words.k (symbols_per_block (shape_of_seed words file)) (passing_of (contents_of_seed words file) g) (generation_blocks_of (shape_of_seed words file) file g)
        seeded_truth g below =
            let d = shape_of_seed words file in
            let s : ℕ = symbols_per_block d in
            let blocks = generation_blocks_of d file g in
            record {
              count = count d file g;
              vectors = blocks_are_vectors g below;
              true_to = subst (λ (packets : List Packet). All (IsTrueTo s blocks) packets) (sym (seeded_passing g below)) (packets_are_true g below);
            }

        pub seeded_rank : RankLaws → ((k : ℕ) → HasRank k (map (unit_of k) (range_with_len 0 k)) k) → (g : ℕ) → words.bare ≡ false → g < generations_of (shape_of_seed words file) → HasRank words.k (coefficients_of (passing_of (contents_of_seed words file) g)) words.k
        seeded_rank ranks units g whole below =
            let d = shape_of_seed words file in
            let own = generation_packets_of d file g in
            let draws = seed_draws_of words file g in
            let P : Packet → Type 0 = Fits words.k (symbols_per_block d) in
            let Full : List (List ℕ) → Type 0 = λ vectors. HasRank words.k vectors words.k in
            let parts : seed_packets_of words file g ≡ own ++ draws = ap (λ (b : Bool). (if b then [] else own) ++ draws) whole in
            let split : coefficients_of (own ++ draws) ≡ coefficients_of own ++ coefficients_of draws = map-append (λ (packet : Packet). packet.coeffs) own draws in
            let fit : All P (own ++ draws) = All-same P (own ++ draws) (seed_packets_of words file g) (sym parts) (packets_fit g below) in
            let vectors_all : All (IsVector words.k) (coefficients_of own ++ coefficients_of draws) =
            All-same (IsVector words.k) (coefficients_of own ++ coefficients_of draws) (coefficients_of (own ++ draws)) (sym split)
            (All-map (IsVector words.k) (λ (packet : Packet). packet.coeffs) (own ++ draws) (λ i e within. (fit i e within).coeffs)) in
            let same : coefficients_of (passing_of (contents_of_seed words file) g) ≡ coefficients_of own ++ coefficients_of draws =
            ap coefficients_of (seeded_passing g below ∙ parts) ∙ split in
            subst Full (sym same)
            (rank_of_more ranks words.k (coefficients_of own) (coefficients_of draws) vectors_all (subst Full (sym (coefficients_of_generation d file g)) (units words.k)))
