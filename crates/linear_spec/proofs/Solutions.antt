-- Blocks that solve packets solve all that the packets span, and at full rank there is one list of them. One block more
-- solves one row more.
use Rattle.std.proofs.Common.{◌≡◌, ℕ, zero, suc, ◌+◌, ◌<◌, List, [], ◌∷◌, ◌++◌, length, take, drop, get_or, set, replicate, sym, ap, ◌∙◌, arith}
use Rattle.std.specs.List.{All}
use Rattle.std.proofs.lemmas.List.{length-map, length_push, take_at, drop_at, ext_get_or}
use Rattle.gf16.specs.Field.{IsField}
use Rattle.gf16.specs.Sums.{plus_scaled}
use Rattle.linear_spec.specs.declared.packet.Packet.{Packet}
use Rattle.linear_spec.specs.Symbols.{AreSymbols, IsVector}
use Rattle.linear_spec.specs.Combination.{combination_of}
use Rattle.linear_spec.specs.Span.{InSpan}
use Rattle.linear_spec.specs.Packet.{Fits, IsTrueTo, vector_of, vectors_of, coefficients_of, payloads_of}
use Rattle.linear_spec.specs.Cases.{IsWithin}
use Rattle.linear_spec.specs.Rows.{StandForAll}
use Rattle.linear_spec.specs.Solving.{Solves}
use Rattle.linear_spec.specs.UnitVector.{unit_of}
use Rattle.linear_spec.proofs.SpanLaws.{length-combination, combination-none, combination-zeros, combination-cons_any, IsVector-combination, IsVector-replicate, plus_scaled-zero, plus_scaled-zeros, zeros-plus_scaled, plus_scaled-commutes, scaled-one}
use Rattle.linear_spec.proofs.VectorSums.{plus_twice}
use Rattle.linear_spec.proofs.PacketLaws.{combination-packets, combination-true}
use Rattle.linear_spec.proofs.SpanChanges.{span-members}
use Rattle.linear_spec.proofs.RowSpans.{All-from_map, IsVector-vectors, IsVector-coefficients, rows_fit, rows_same_span}
use Rattle.linear_spec.proofs.SpanDecides.{span_decides}
use Rattle.linear_spec.proofs.Decision.{row_joins}
use Rattle.linear_spec.proofs.RankBounds.{fresh_gives_row, rows_at_most}
use Rattle.linear_spec.proofs.RowsFill.{IsVector-unit}

-- ---- what solves packets solves what they span

module _ (field : IsField) (k s : ℕ) (packets : List Packet) (blocks : List (List ℕ)) (fit : All (Fits k s) packets) (solve : Solves k s packets blocks) where
  true_within : (packet : Packet) → Fits k s packet → IsWithin k s packets packet → IsTrueTo s blocks packet
  true_within packet fits inside =
      let cs = inside.coefficients in
      let front = combination_of k cs (coefficients_of packets) in
      let back = combination_of s cs (payloads_of packets) in
      let both : front ++ back ≡ packet.coeffs ++ packet.payload = sym (combination-packets field k s cs packets fit) ∙ inside.combine in
      let coeffs : front ≡ packet.coeffs =
      sym (take_at front back k (length-combination k cs (coefficients_of packets)))
      ∙ ap (take k) both ∙ take_at packet.coeffs packet.payload k fits.coeffs.count in
      let payload : back ≡ packet.payload =
      sym (drop_at front back k (length-combination k cs (coefficients_of packets)))
      ∙ ap (drop k) both ∙ drop_at packet.coeffs packet.payload k fits.coeffs.count in
      ap (λ u. combination_of s u blocks) (sym coeffs)
      ∙ combination-true field k s cs packets blocks inside.are_symbols.symbols
      (inside.are_symbols.count ∙ length-map packets vector_of) fit solve.true_to solve.count solve.vectors
      ∙ payload

  pub solve_spanned : (others : List Packet) → All (Fits k s) others
      → ((v : List ℕ) → InSpan (k + s) (vectors_of others) v → InSpan (k + s) (vectors_of packets) v) → Solves k s others blocks
  solve_spanned others others_fit within =
      let members = All-from_map (InSpan (k + s) (vectors_of others)) vector_of others
      (span-members field (k + s) (vectors_of others) (IsVector-vectors k s others others_fit)) in
      record {
        count = solve.count;
        vectors = solve.vectors;
        true_to = λ i d h.
            let packet = get_or others i d in
            true_within packet (others_fit i d h) (within (vector_of packet) (members i d h));
      }

-- ---- at full rank

module _ (field : IsField) (k s : ℕ) (packets rows : List Packet) (fit : All (Fits k s) packets) (stand : StandForAll k s packets rows) where
  pub solve_from_rows : (blocks : List (List ℕ)) → Solves k s rows blocks → Solves k s packets blocks
  solve_from_rows blocks solve =
      solve_spanned field k s rows blocks (rows_fit k s packets rows stand) solve packets fit
      (λ v. (rows_same_span k s field packets rows fit stand v).0)

  pub span_full : (v : List ℕ) → length packets ≡ k → IsVector k v → InSpan k (coefficients_of packets) v
  span_full v full by_v = pick (span_decides field k (coefficients_of packets) v (IsVector-coefficients k s packets fit) by_v)
    where
      pick : Dec (InSpan k (coefficients_of packets) v) → InSpan k (coefficients_of packets) v
      pick (yes inside) = inside
      pick (no fresh) =
          let packet : Packet = record { generation = 0; coeffs = v; payload = replicate s 0 } in
          let fits : Fits k s packet = record { coeffs = by_v; payload = IsVector-replicate s } in
          let row = fresh_gives_row field k s packets rows packet fit fits stand fresh in
          let most = rows_at_most k s (packets ++ packet ∷ []) (rows ++ row.0 ∷ []) (row_joins field k s packets rows packet row.0 fit fits stand row.1) in
          let count = stand.count in
          absurd (omega (arith, length_push rows row.0))

-- ---- unit vectors pick

pub combination-unit : (field : IsField) (s k column : ℕ) (blocks : List (List ℕ)) → length blocks ≡ k → All (IsVector s) blocks → column < k
    → combination_of s (unit_of k column) blocks ≡ get_or blocks column []
combination-unit field s zero column blocks count vectors below = absurd (omega arith)
combination-unit field s (suc k) column [] count vectors below = absurd (omega arith)
combination-unit field s (suc k) zero (block ∷ blocks) count vectors below =
    let by_block = vectors 0 [] (omega arith) in
    combination-cons_any field s 1 (replicate k 0) block blocks
    ∙ ap (λ u. plus_scaled u 1 block) (combination-zeros field s k blocks)
    ∙ zeros-plus_scaled field s 1 block by_block.count ∙ scaled-one field block by_block.symbols
combination-unit field s (suc k) (suc column) (block ∷ blocks) count vectors below =
    combination-cons_any field s 0 (unit_of k column) block blocks
    ∙ plus_scaled-zero field (combination_of s (unit_of k column) blocks) block
    ∙ combination-unit field s k column blocks (omega arith) (λ i d h. vectors (suc i) d (omega arith)) (omega arith)

-- ---- one solution

module _ (field : IsField) (k s : ℕ) (packets : List Packet) (fit : All (Fits k s) packets) where
  at_block : (column : ℕ) (blocks : List (List ℕ)) → Solves k s packets blocks → column < k → (inside : InSpan k (coefficients_of packets) (unit_of k column))
      → get_or blocks column [] ≡ combination_of s inside.coefficients (payloads_of packets)
  at_block column blocks solve below inside =
      sym (combination-unit field s k column blocks solve.count solve.vectors below)
      ∙ ap (λ u. combination_of s u blocks) (sym inside.combine)
      ∙ combination-true field k s inside.coefficients packets blocks inside.are_symbols.symbols
      (inside.are_symbols.count ∙ length-map packets (λ packet. packet.coeffs)) fit solve.true_to solve.count solve.vectors

  pub one_solution : (rows : List Packet) (blocks others : List (List ℕ)) → StandForAll k s packets rows → length packets ≡ k
      → Solves k s packets blocks → Solves k s packets others → others ≡ blocks
  one_solution rows blocks others stand full solve too =
      ext_get_or [] others blocks (too.count ∙ sym solve.count)
      (λ column h.
      let count = too.count in
      let below : column < k = omega arith in
      let inside = span_full field k s packets rows fit stand (unit_of k column) full (IsVector-unit k column) in
      at_block column others too below inside ∙ sym (at_block column blocks solve below inside))

-- ---- one block more

pub combination-set : (field : IsField) (n place : ℕ) (cs v : List ℕ) (vs : List (List ℕ)) → place < length vs → get_or vs place [] ≡ replicate n 0
    → combination_of n cs (set vs place v) ≡ plus_scaled (combination_of n cs vs) (get_or cs place 0) v
combination-set field n place cs v [] below none = absurd (omega arith)
combination-set field n place [] v (w ∷ vs) below none =
    combination-none n (set (w ∷ vs) place v) ∙ sym (combination-none n (w ∷ vs))
    ∙ sym (plus_scaled-zero field (combination_of n [] (w ∷ vs)) v)
combination-set field n zero (c ∷ cs) v (w ∷ vs) below none =
    combination-cons_any field n c cs v vs
    ∙ ap (λ u. plus_scaled u c v)
    (sym (combination-cons_any field n c cs w vs ∙ ap (plus_scaled (combination_of n cs vs) c) none ∙ plus_scaled-zeros field c n (combination_of n cs vs)))
combination-set field n (suc place) (c ∷ cs) v (w ∷ vs) below none =
    let d = get_or cs place 0 in
    combination-cons_any field n c cs w (set vs place v)
    ∙ ap (λ u. plus_scaled u c w) (combination-set field n place cs v vs (omega arith) none)
    ∙ plus_scaled-commutes field d c (combination_of n cs vs) v w
    ∙ ap (λ u. plus_scaled u d v) (sym (combination-cons_any field n c cs w vs))

-- a row that is 1 at a place whose block is not known yet tells that block
pub block_known : (field : IsField) (s place : ℕ) (coeffs payload : List ℕ) (blocks : List (List ℕ)) → AreSymbols coeffs → IsVector s payload → All (IsVector s) blocks
    → place < length blocks → get_or blocks place [] ≡ replicate s 0 → get_or coeffs place 0 ≡ 1
    → combination_of s coeffs (set blocks place (plus_scaled (combination_of s coeffs blocks) 1 payload)) ≡ payload
block_known field s place coeffs payload blocks symbols by_payload vectors below none one =
    let known = combination_of s coeffs blocks in
    combination-set field s place coeffs (plus_scaled known 1 payload) blocks below none
    ∙ ap (λ c. plus_scaled known c (plus_scaled known 1 payload)) one
    ∙ plus_twice field s known payload (IsVector-combination field s coeffs blocks symbols vectors) by_payload

-- a row that is 0 there stays as it is
pub block_kept : (field : IsField) (s place : ℕ) (coeffs block : List ℕ) (blocks : List (List ℕ))
    → place < length blocks → get_or blocks place [] ≡ replicate s 0 → get_or coeffs place 0 ≡ 0
    → combination_of s coeffs (set blocks place block) ≡ combination_of s coeffs blocks
block_kept field s place coeffs block blocks below none clear =
    combination-set field s place coeffs block blocks below none
    ∙ ap (λ c. plus_scaled (combination_of s coeffs blocks) c block) clear
    ∙ plus_scaled-zero field (combination_of s coeffs blocks) block
