-- The laws of rows in the forms that the law functions state.
use Rattle.std.proofs.Common.{◌≡◌, ◌≢◌, ◌↔◌, ℕ, zero, suc, ◌+◌, ◌<◌, ◌≤◌, List, [], ◌∷◌, ◌++◌, length, take, drop, get_or, replicate, refl, sym, ap, ◌∙◌, subst, arith}
use Rattle.std.specs.List.{All}
use Rattle.std.proofs.lemmas.List.{take_all, get_or-take, get_or-map, take-take, take-map, length-map, length-take, length_push}
use Rattle.std.proofs.Math.Seq.{take-suc}
use Rattle.std.proofs.lemmas.List.Elements.{All-nil, All-take}
use Rattle.gf16.specs.Field.{IsField}
use Rattle.gf16.specs.Sums.{plus_scaled}
use Rattle.linear_spec.specs.declared.packet.Packet.{Packet}
use Rattle.linear_spec.specs.Symbols.{IsVector}
use Rattle.linear_spec.specs.Span.{InSpan, HasRank}
use Rattle.linear_spec.specs.Packet.{Fits, vector_of, vectors_of, coefficients_of}
use Rattle.linear_spec.specs.Cases.{IsFresh, IsWithin, IsConflicting}
use Rattle.linear_spec.specs.Rows.{StandForAll, pivot_of, remainder_of}
use Rattle.linear_spec.proofs.SpanLaws.{take-plus_scaled, plus_scaled-twice, span-empty, span-zero, span-plus_scaled}
use Rattle.linear_spec.proofs.Echelon.{remainder-clear, remainder-in_span}
use Rattle.linear_spec.proofs.RowSpans.{rows_same_coefficients, take-vector, span-coefficients, IsVector-coefficients}
use Rattle.linear_spec.proofs.RowPlaces.{stand_none, echelon_vectors}
use Rattle.linear_spec.proofs.SpanDecides.{span_decides}
use Rattle.linear_spec.proofs.Ranks.{rank_of_fresh, row_fresh}
use Rattle.linear_spec.proofs.RankBounds.{rows_at_most, fresh_gives_row}
use Rattle.linear_spec.proofs.Decision.{within_exactly, row_joins, in_span_from_remainder, remainder_from_in_span}

pub remainder-push : (rows : List Packet) (row : Packet) (v : List ℕ)
    → remainder_of (rows ++ row ∷ []) v ≡ plus_scaled (remainder_of rows v) (get_or (remainder_of rows v) (pivot_of row) 0) (vector_of row)
remainder-push [] row v = refl
remainder-push (first ∷ rows) row v = remainder-push rows row (plus_scaled v (get_or v (pivot_of first) 0) (vector_of first))

pub stand_front : (k s n : ℕ) (packets rows : List Packet) → StandForAll k s packets rows → StandForAll k s (take n packets) (take n rows)
stand_front k s n packets rows stand = record {
  count = (let count = stand.count in omega (arith, length-take n packets, length-take n rows));
  each = λ i p r below.
      let within : i < length packets = omega (arith, length-take n packets) in
      let short : i < n = omega (arith, length-take n packets) in
      rw (take-take i n packets (omega arith), take-take i n rows (omega arith), get_or-take n packets i p short, get_or-take n rows i r short)
      (stand.each i p r within);
}

pub remainder_is_clear : (field : IsField) (k s : ℕ) (packets rows : List Packet) (v : List ℕ) → StandForAll k s packets rows → IsVector (k + s) v
    → All (λ row. get_or (remainder_of rows v) (pivot_of row) 0 ≡ 0) rows
remainder_is_clear field k s packets rows v stand by_v = remainder-clear field (k + s) rows v (echelon_vectors k s packets rows stand) by_v

pub remainder_in_span : (field : IsField) (k s : ℕ) (packets rows : List Packet) (v : List ℕ) → StandForAll k s packets rows → IsVector (k + s) v
    → InSpan (k + s) (vectors_of rows) (plus_scaled v 1 (remainder_of rows v))
remainder_in_span field k s packets rows v stand by_v = remainder-in_span field (k + s) rows v (echelon_vectors k s packets rows stand) by_v

-- with as many packets as coefficients no packet is fresh
pub none_fresh : (field : IsField) (k s : ℕ) (packets rows : List Packet) (packet : Packet) → All (Fits k s) packets → Fits k s packet → StandForAll k s packets rows
    → length packets ≡ k → ¬ IsFresh k packets packet
none_fresh field k s packets rows packet fit fits stand count fresh =
    let row = fresh_gives_row field k s packets rows packet fit fits stand fresh in
    let joined = row_joins field k s packets rows packet row.0 fit fits stand row.1 in
    let most = rows_at_most k s (packets ++ packet ∷ []) (rows ++ row.0 ∷ []) joined in
    let same = stand.count in
    absurd (omega (arith, length_push rows row.0))

pub follows_exactly : (field : IsField) (k s : ℕ) (packets rows : List Packet) (packet : Packet) → All (Fits k s) packets → Fits k s packet → StandForAll k s packets rows
    → InSpan k (coefficients_of packets) packet.coeffs ↔ (take k (remainder_of rows (vector_of packet)) ≡ replicate k 0)
follows_exactly field k s packets rows packet fit fits stand =
    (remainder_from_in_span field k s packets rows packet fit fits stand, in_span_from_remainder field k s packets rows packet fit fits stand)

-- each packet that a row stands for is fresh after those before it
pub packet_fresh : (field : IsField) (k s at : ℕ) (packets rows : List Packet) (packet : Packet) → All (Fits k s) packets → StandForAll k s packets rows
    → at < length packets → IsFresh k (take at packets) (get_or packets at packet)
packet_fresh field k s at packets rows packet fit stand below span =
    let own = get_or packets at packet in
    let row = get_or rows at packet in
    let stands = stand.each at packet packet below in
    let m = stands.multiple in
    let earlier = take at packets in
    let earlier_fit = All-take (Fits k s) at packets fit in
    let count = stand.count in
    let within : at < length rows = omega arith in
    let sum : InSpan k (coefficients_of earlier) (plus_scaled row.coeffs m own.coeffs) =
    subst (InSpan k (coefficients_of earlier))
    (take-plus_scaled k m (vector_of row) (vector_of own)
    ∙ ap (λ v. plus_scaled v m (take k (vector_of own))) (take-vector k s row stands.fits)
    ∙ ap (plus_scaled row.coeffs m) (take-vector k s own (fit at packet below)))
    (span-coefficients k s field earlier (plus_scaled (vector_of row) m (vector_of own)) earlier_fit stands.in_span) in
    let row_follows : InSpan k (coefficients_of earlier) row.coeffs =
    subst (InSpan k (coefficients_of earlier)) (plus_scaled-twice field m row.coeffs own.coeffs)
    (span-plus_scaled field k m (coefficients_of earlier) (plus_scaled row.coeffs m own.coeffs) own.coeffs
    (IsVector-coefficients k s earlier earlier_fit) stands.multiple_is_symbol sum span) in
    row_fresh field k s packets rows stand at packet within
    ((rows_same_coefficients k s field earlier (take at rows) earlier_fit (stand_front k s at packets rows stand) row.coeffs).0 row_follows)

-- the packets that rows stand for have as large a rank as can be
pub packets_rank : (field : IsField) (k s : ℕ) (packets rows : List Packet) → All (Fits k s) packets → StandForAll k s packets rows
    → HasRank k (coefficients_of packets) (length packets)
packets_rank field k s packets rows fit stand =
    subst (HasRank k (coefficients_of packets)) (length-map packets (λ packet. packet.coeffs))
    (rank_of_fresh k [] (coefficients_of packets) (λ i d h span.
    let blank : Packet = record { generation = 0; coeffs = d; payload = [] } in
    let below : i < length packets = omega (arith, length-map packets (λ packet. packet.coeffs)) in
    packet_fresh field k s i packets rows blank fit stand below
    (subst (InSpan k (coefficients_of (take i packets))) (get_or-map (λ packet. packet.coeffs) packets i blank d below)
    (subst (λ us. InSpan k us (get_or (coefficients_of packets) i d)) (take-map (λ packet. packet.coeffs) i packets) span))))

-- a packet conflicts where its remainder has no coefficient but some payload
pub conflicting_exactly : (field : IsField) (k s : ℕ) (packets rows : List Packet) (packet : Packet) → All (Fits k s) packets → Fits k s packet
    → StandForAll k s packets rows
    → IsConflicting k s packets packet ↔ ((take k (remainder_of rows (vector_of packet)) ≡ replicate k 0) × (drop k (remainder_of rows (vector_of packet)) ≢ replicate s 0))
conflicting_exactly field k s packets rows packet fit fits stand = (
  λ conflict.
      let none = forced conflict.0 (span_decides field k (coefficients_of packets) packet.coeffs (IsVector-coefficients k s packets fit) fits.coeffs) in
      (none, λ rest. conflict.1 ((within_exactly field k s packets rows packet fit fits stand none).1 rest)),
  λ facts. (
    λ fresh. fresh (in_span_from_remainder field k s packets rows packet fit fits stand facts.0),
    λ within. facts.1 ((within_exactly field k s packets rows packet fit fits stand facts.0).0 within),
  ),
)
  where
    forced : (¬ IsFresh k packets packet) → Dec (InSpan k (coefficients_of packets) packet.coeffs) → take k (remainder_of rows (vector_of packet)) ≡ replicate k 0
    forced stale (yes span) = remainder_from_in_span field k s packets rows packet fit fits stand span
    forced stale (no fresh) = absurd (stale fresh)

pub fresh_at_none : (field : IsField) (k : ℕ) (packet : Packet) → IsFresh k [] packet ↔ (packet.coeffs ≢ replicate k 0)
fresh_at_none field k packet = (
  λ fresh zero. fresh (subst (InSpan k []) (sym zero) (span-zero field k [] (All-nil (IsVector k)))),
  λ some span. some (span-empty k packet.coeffs span),
)

pub within_at_none : (field : IsField) (k s : ℕ) (packet : Packet) → IsWithin k s [] packet ↔ (vector_of packet ≡ replicate (k + s) 0)
within_at_none field k s packet = (
  span-empty (k + s) (vector_of packet),
  λ zero. subst (InSpan (k + s) []) (sym zero) (span-zero field (k + s) [] (All-nil (IsVector (k + s)))),
)

-- packets each of which is fresh after those before it have rows
rows_exist_upto : (field : IsField) (k s : ℕ) (packets : List Packet) → All (Fits k s) packets
    → ((at : ℕ) (packet : Packet) → at < length packets → IsFresh k (take at packets) (get_or packets at packet))
    → (n : ℕ) → n ≤ length packets → (rows : List Packet) × StandForAll k s (take n packets) rows
rows_exist_upto field k s packets fit fresh zero within = ([], stand_none k s)
rows_exist_upto field k s packets fit fresh (suc n) within =
    let blank : Packet = record { generation = 0; coeffs = []; payload = [] } in
    let inside : n < length packets = omega arith in
    let packet = get_or packets n blank in
    let fits = fit n blank inside in
    let earlier_fit = All-take (Fits k s) n packets fit in
    let earlier = rows_exist_upto field k s packets fit fresh n (omega arith) in
    let row = fresh_gives_row field k s (take n packets) earlier.0 packet earlier_fit fits earlier.1 (fresh n blank inside) in (
      earlier.0 ++ row.0 ∷ [],
      subst (λ front. StandForAll k s front (earlier.0 ++ row.0 ∷ [])) (sym (take-suc packets n blank inside))
          (row_joins field k s (take n packets) earlier.0 packet row.0 earlier_fit fits earlier.1 row.1),
    )

pub rows_exist : (field : IsField) (k s : ℕ) (packets : List Packet) → All (Fits k s) packets
    → ((at : ℕ) (packet : Packet) → at < length packets → IsFresh k (take at packets) (get_or packets at packet))
    → (rows : List Packet) × StandForAll k s packets rows
rows_exist field k s packets fit fresh =
    let all = rows_exist_upto field k s packets fit fresh (length packets) (omega arith) in
    (all.0, subst (λ front. StandForAll k s front all.0) (take_all (length packets) packets (omega arith)) all.1)
