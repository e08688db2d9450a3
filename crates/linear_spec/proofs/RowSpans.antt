-- Rows that stand for packets span what the packets span, as whole vectors and as lists of coefficients.
use Rattle.std.proofs.Common.{◌≡◌, ◌≢◌, ℕ, zero, suc, ◌+◌, ◌<◌, ◌≤◌, List, [], ◌∷◌, ◌++◌, map, length, take, get_or, refl, sym, ap, ◌∙◌, subst, arith}
use Rattle.std.specs.List.{All}
use Rattle.std.proofs.Math.Seq.{take-suc}
use Rattle.std.proofs.lemmas.List.{take_at, take_all, length-append, map_push}
use Rattle.std.proofs.lemmas.List.Elements.{All-nil, All-cons, All-head, All-tail, All-map, All-append, All-push, All-take, All-weaker}
use Rattle.gf16.specs.Field.{IsSymbol, IsField}
use Rattle.gf16.specs.Sums.{plus_scaled}
use Rattle.linear_spec.specs.declared.packet.Packet.{Packet}
use Rattle.linear_spec.specs.Symbols.{IsVector}
use Rattle.linear_spec.specs.Span.{InSpan, HaveOneSpan}
use Rattle.linear_spec.specs.Packet.{Fits, vector_of, vectors_of, coefficients_of}
use Rattle.linear_spec.specs.Rows.{StandForAll}
use Rattle.linear_spec.proofs.SpanLaws.{span-scaled, span-grows, span-closed, span-last_from, span-take}
use Rattle.linear_spec.proofs.SpanChanges.{span-members}
use Rattle.linear_spec.proofs.VectorSums.{scaled-plus_inverse}

pub All-from_map : {X Y : Type 0} (P : Y → Type 0) (f : X → Y) (xs : List X) → All P (map f xs) → All (λ x. P (f x)) xs
All-from_map P f [] all = All-nil (λ x. P (f x))
All-from_map P f (x ∷ xs) all =
    All-cons (λ x. P (f x)) x xs (All-head P (f x) (map f xs) all) (All-from_map P f xs (All-tail P (f x) (map f xs) all))

module _ (field : IsField) (n : ℕ) where
  pub same_span_push : (vs ws : List (List ℕ)) (v w : List ℕ) (m : ℕ) → All (IsVector n) vs → All (IsVector n) ws → IsVector n v → IsVector n w
      → IsSymbol m → m ≢ 0 → InSpan n vs (plus_scaled w m v) → HaveOneSpan n vs ws → HaveOneSpan n (vs ++ v ∷ []) (ws ++ w ∷ [])
  same_span_push vs ws v w m by_vs by_ws by_v by_w by_m some sum same =
      let by_more = All-push (IsVector n) vs v by_vs by_v in
      let by_others = All-push (IsVector n) ws w by_ws by_w in
      let inverse = field.inverse m by_m some in
      let v_too : InSpan n (ws ++ w ∷ []) v =
      span-last_from field n inverse.0 ws w v by_ws by_w by_v inverse.1
      (subst (InSpan n ws) (scaled-plus_inverse field n inverse.0 m w v inverse.1 by_m inverse.2 by_w by_v)
      (span-scaled field n inverse.0 ws (plus_scaled w m v) by_ws inverse.1 ((same (plus_scaled w m v)).0 sum))) in
      let w_too : InSpan n (vs ++ v ∷ []) w = span-last_from field n m vs v w by_vs by_v by_w by_m sum in
      λ u. (
        span-closed field n (vs ++ v ∷ []) (ws ++ w ∷ []) u by_more by_others
            (All-push (InSpan n (ws ++ w ∷ [])) vs v
            (All-weaker (InSpan n vs) (InSpan n (ws ++ w ∷ [])) (λ x h. span-grows field n ws (w ∷ []) x by_others ((same x).0 h)) vs (span-members field n vs by_vs))
            v_too),
        span-closed field n (ws ++ w ∷ []) (vs ++ v ∷ []) u by_others by_more
            (All-push (InSpan n (vs ++ v ∷ [])) ws w
            (All-weaker (InSpan n ws) (InSpan n (vs ++ v ∷ [])) (λ x h. span-grows field n vs (v ∷ []) x by_more ((same x).1 h)) ws (span-members field n ws by_ws))
            w_too),
      )

module _ (k s : ℕ) where
  pub IsVector-vector : (packet : Packet) → Fits k s packet → IsVector (k + s) (vector_of packet)
  IsVector-vector packet fits =
      let coeffs = fits.coeffs.count in
      let payload = fits.payload.count in
      record {
        count = omega (arith, length-append packet.coeffs packet.payload);
        symbols = All-append IsSymbol packet.coeffs packet.payload fits.coeffs.symbols fits.payload.symbols;
      }

  pub IsVector-vectors : (packets : List Packet) → All (Fits k s) packets → All (IsVector (k + s)) (vectors_of packets)
  IsVector-vectors packets fit =
      All-map (IsVector (k + s)) vector_of packets (All-weaker (Fits k s) (λ p. IsVector (k + s) (vector_of p)) IsVector-vector packets fit)

  pub IsVector-coefficients : (packets : List Packet) → All (Fits k s) packets → All (IsVector k) (coefficients_of packets)
  IsVector-coefficients packets fit =
      All-map (IsVector k) (λ packet. packet.coeffs) packets (All-weaker (Fits k s) (λ p. IsVector k p.coeffs) (λ p h. h.coeffs) packets fit)

  pub take-vector : (packet : Packet) → Fits k s packet → take k (vector_of packet) ≡ packet.coeffs
  take-vector packet fits = take_at packet.coeffs packet.payload k fits.coeffs.count

  pub take-vectors : (packets : List Packet) → All (Fits k s) packets → map (take k) (vectors_of packets) ≡ coefficients_of packets
  take-vectors [] fit = refl
  take-vectors (packet ∷ packets) fit =
      let first = take-vector packet (All-head (Fits k s) packet packets fit) in
      let rest = take-vectors packets (All-tail (Fits k s) packet packets fit) in
      cc

  pub span-coefficients : (field : IsField) (packets : List Packet) (v : List ℕ) → All (Fits k s) packets → InSpan (k + s) (vectors_of packets) v → InSpan k (coefficients_of packets) (take k v)
  span-coefficients field packets v fit span =
      subst (λ vs. InSpan k vs (take k v)) (take-vectors packets fit) (span-take field k s (vectors_of packets) v (IsVector-vectors packets fit) span)

  coefficients_too : (field : IsField) (packets rows : List Packet) → All (Fits k s) packets → All (Fits k s) rows
      → ((v : List ℕ) → InSpan (k + s) (vectors_of packets) v → InSpan (k + s) (vectors_of rows) v)
      → (c : List ℕ) → InSpan k (coefficients_of packets) c → InSpan k (coefficients_of rows) c
  coefficients_too field packets rows fit rows_fit within c span =
      let members = All-from_map (InSpan (k + s) (vectors_of packets)) vector_of packets (span-members field (k + s) (vectors_of packets) (IsVector-vectors packets fit)) in
      span-closed field k (coefficients_of packets) (coefficients_of rows) c (IsVector-coefficients packets fit) (IsVector-coefficients rows rows_fit)
      (All-map (InSpan k (coefficients_of rows)) (λ packet. packet.coeffs) packets
      (λ i d below.
      let packet = get_or packets i d in
      subst (InSpan k (coefficients_of rows)) (take-vector packet (fit i d below))
      (span-coefficients field rows (vector_of packet) rows_fit (within (vector_of packet) (members i d below)))))
      span

  pub coefficients_same : (field : IsField) (packets rows : List Packet) → All (Fits k s) packets → All (Fits k s) rows
      → HaveOneSpan (k + s) (vectors_of packets) (vectors_of rows) → HaveOneSpan k (coefficients_of packets) (coefficients_of rows)
  coefficients_same field packets rows fit rows_fit same = λ c. (
    coefficients_too field packets rows fit rows_fit (λ v. (same v).0) c,
    coefficients_too field rows packets rows_fit fit (λ v. (same v).1) c,
  )

  pub rows_fit : (packets rows : List Packet) → StandForAll k s packets rows → All (Fits k s) rows
  rows_fit packets rows stand i d below =
      let count = stand.count in
      (stand.each i d d (omega arith)).fits

  rows_span_upto : (field : IsField) (packets rows : List Packet) → All (Fits k s) packets → StandForAll k s packets rows
      → (i : ℕ) → i ≤ length packets → HaveOneSpan (k + s) (vectors_of (take i packets)) (vectors_of (take i rows))
  rows_span_upto field packets rows fit stand zero below = λ v. (λ h. h, λ h. h)
  rows_span_upto field packets rows fit stand (suc i) below =
      let blank : Packet = record { generation = 0; coeffs = []; payload = [] } in
      let count = stand.count in
      let here : i < length packets = omega arith in
      let there : i < length rows = omega arith in
      let packet = get_or packets i blank in
      let row = get_or rows i blank in
      let stands = stand.each i blank blank here in
      let by_rows = rows_fit packets rows stand in
      let earlier = rows_span_upto field packets rows fit stand i (omega arith) in
      let pushed = same_span_push field (k + s) (vectors_of (take i packets)) (vectors_of (take i rows)) (vector_of packet) (vector_of row) stands.multiple
      (IsVector-vectors (take i packets) (All-take (Fits k s) i packets fit)) (IsVector-vectors (take i rows) (All-take (Fits k s) i rows by_rows))
      (IsVector-vector packet (fit i blank here)) (IsVector-vector row stands.fits)
      stands.multiple_is_symbol stands.multiple_is_not_zero stands.in_span earlier in
      let packets_too : vectors_of (take i packets) ++ (vector_of packet ∷ []) ≡ vectors_of (take (suc i) packets) =
      sym (ap vectors_of (take-suc packets i blank here) ∙ map_push vector_of (take i packets) packet) in
      let rows_too : vectors_of (take i rows) ++ (vector_of row ∷ []) ≡ vectors_of (take (suc i) rows) =
      sym (ap vectors_of (take-suc rows i blank there) ∙ map_push vector_of (take i rows) row) in
      subst (λ vs. HaveOneSpan (k + s) vs (vectors_of (take (suc i) rows))) packets_too
      (subst (HaveOneSpan (k + s) (vectors_of (take i packets) ++ (vector_of packet ∷ []))) rows_too pushed)

  pub rows_same_span : (field : IsField) (packets rows : List Packet) → All (Fits k s) packets → StandForAll k s packets rows → HaveOneSpan (k + s) (vectors_of packets) (vectors_of rows)
  rows_same_span field packets rows fit stand =
      let count = stand.count in
      let all = rows_span_upto field packets rows fit stand (length packets) (omega arith) in
      subst (λ ps. HaveOneSpan (k + s) (vectors_of ps) (vectors_of rows)) (take_all (length packets) packets (omega arith))
      (subst (λ rs. HaveOneSpan (k + s) (vectors_of (take (length packets) packets)) (vectors_of rs)) (take_all (length packets) rows (omega arith)) all)

  pub rows_same_coefficients : (field : IsField) (packets rows : List Packet) → All (Fits k s) packets → StandForAll k s packets rows → HaveOneSpan k (coefficients_of packets) (coefficients_of rows)
  rows_same_coefficients field packets rows fit stand =
      coefficients_same field packets rows fit (rows_fit packets rows stand) (rows_same_span field packets rows fit stand)
