-- Rows and missing columns are k together, and packets with the unit vectors of the missing columns fill what is lacking.
use Rattle.std.proofs.Common.{◌≡◌, ◌≢◌, eqb, ℕ, Bool, true, false, not, zero, suc, ◌+◌, ◌<◌, ◌≤◌, List, [], ◌∷◌, ◌++◌, length, map, take, get_or, refl, sym, ap, ap₂, ◌∙◌, subst, arith}
use Rattle.std.specs.List.{All, AllPairs, filter, list_any, range_with_len}
use Rattle.std.proofs.lemmas.Bool.{eq-eqb, eqb-true, true≢false}
use Rattle.std.proofs.lemmas.Bool.Decides.{Decides-eqb}
use Rattle.std.proofs.Math.Seq.{take-append-add}
use Rattle.std.proofs.lemmas.List.{get_or-append-add, get_or-map, get_or_default, length-append, length-map, map-append, take-map}
use Rattle.std.proofs.lemmas.List.Elements.{All-append, All-filter, All-head, All-map, All-tail, filter_passes}
use Rattle.std.proofs.lemmas.List.Folds.{Any-from_list_any, list_any-from_Any}
use Rattle.std.proofs.lemmas.List.FromFn.{get_or-range_with_len, length-range_with_len}
use Rattle.std.proofs.lemmas.List.Kept.{AllPairs-cons, AllPairs-filter}
use Rattle.std.proofs.lemmas.Map.Made.{IsDistinct-from_AllPairs}
use Rattle.std.proofs.lemmas.Map.Steps.{length-le_from_distinct_below}
use Rattle.gf16.specs.Field.{IsField}
use Rattle.linear_spec.specs.declared.packet.Packet.{Packet}
use Rattle.linear_spec.specs.Symbols.{IsVector}
use Rattle.linear_spec.specs.Span.{InSpan, HasRank}
use Rattle.linear_spec.specs.UnitVector.{unit_of}
use Rattle.linear_spec.specs.Packet.{Fits, coefficients_of}
use Rattle.linear_spec.specs.Cases.{IsFresh}
use Rattle.linear_spec.specs.Rows.{StandForAll, missing_columns_of, pivot_of}
use Rattle.linear_spec.proofs.SpanLaws.{span-closed, span-grows}
use Rattle.linear_spec.proofs.SpanChanges.{All-left, All-right, span-members}
use Rattle.linear_spec.proofs.RowSpans.{IsVector-coefficients, rows_fit, rows_same_coefficients}
use Rattle.linear_spec.proofs.RowPlaces.{pivots_below}
use Rattle.linear_spec.proofs.Ranks.{rank_at_most_length}
use Rattle.linear_spec.proofs.RankBounds.{pivots_differ}
use Rattle.linear_spec.proofs.RowsFill.{rows_fill}
use Rattle.linear_spec.proofs.UnitVectors.{IsVector-units}
use Rattle.linear_spec.proofs.FullRank.{fresh_of_rank, spans_full}

-- ---- pivots and missing columns are different numbers below k

abbrev Differ : ℕ → ℕ → Type 0
Differ x y = x ≢ y

pairs_append : (xs ys : List ℕ) → AllPairs Differ xs → AllPairs Differ ys → All (λ x. All (Differ x) ys) xs → AllPairs Differ (xs ++ ys)
pairs_append [] ys first second across = second
pairs_append (x ∷ xs) ys first second across =
    AllPairs-cons Differ x (xs ++ ys)
    (All-append (Differ x) xs ys (λ j d h. first 0 (suc j) d (omega arith) (omega arith)) (All-head (λ x. All (Differ x) ys) x xs across))
    (pairs_append xs ys (λ i j d h l. first (suc i) (suc j) d (omega arith) (omega arith)) second (All-tail (λ x. All (Differ x) ys) x xs across))

pairs_range : (k : ℕ) → AllPairs Differ (range_with_len 0 k)
pairs_range k i j d h l same =
    let long = length-range_with_len 0 k in
    let first = get_or-range_with_len 0 k i d (omega arith) in
    let second = get_or-range_with_len 0 k j d (omega arith) in
    absurd (omega arith)

not_both : (b : Bool) → not b ≡ true → b ≡ true → ⊥
not_both b one other = true≢false (sym one ∙ ap not other)

module _ (k s : ℕ) (packets rows : List Packet) (stand : StandForAll k s packets rows) where
  abbrev columns : List ℕ
  columns = missing_columns_of k rows

  abbrev pivots : List ℕ
  pivots = map pivot_of rows

  abbrev is_missing : ℕ → Bool
  is_missing column = not (list_any (λ row. eqb (pivot_of row) column) rows)

  pairs_pivots : AllPairs Differ pivots
  pairs_pivots i j d h l same =
      let blank : Packet = record { generation = 0; coeffs = []; payload = [] } in
      let long = length-map rows pivot_of in
      pivots_differ k s packets rows stand i j blank h (omega arith)
      (sym (get_or-map pivot_of rows i blank d (omega arith)) ∙ same ∙ get_or-map pivot_of rows j blank d (omega arith))

  pairs_columns : AllPairs Differ columns
  pairs_columns = AllPairs-filter Differ is_missing (range_with_len 0 k) (pairs_range k)

  apart : All (λ x. All (Differ x) columns) pivots
  apart =
      All-map (λ x. All (Differ x) columns) pivot_of rows (λ i d h j e l same.
      let row = get_or rows i d in
      not_both (list_any (λ row. eqb (pivot_of row) (get_or columns j e)) rows)
      (filter_passes is_missing (range_with_len 0 k) j e l)
      (list_any-from_Any (λ row. eqb (pivot_of row) (get_or columns j e)) rows
      (i, row, h, get_or_default rows i row d h, eq-eqb (pivot_of row) (get_or columns j e) same)))

  all_below : All (λ x. x < k) (pivots ++ columns)
  all_below =
      let P : ℕ → Type 0 = λ x. x < k in
      All-append P pivots columns
      (All-map P pivot_of rows (pivots_below k s packets rows stand))
      (All-filter is_missing P (range_with_len 0 k) (λ i d h.
      let long = length-range_with_len 0 k in
      let at = get_or-range_with_len 0 k i d (omega arith) in
      omega arith))

  at_most : length (pivots ++ columns) ≤ k
  at_most =
      let xs = pivots ++ columns in
      length-le_from_distinct_below xs k
      (IsDistinct-from_AllPairs Decides-eqb xs (pairs_append pivots columns pairs_pivots pairs_columns apart))
      (λ q found.
      let any = Any-from_list_any (eqb q) xs found in
      let same = eqb-true q any.1 any.4 in
      let is = any.3 in
      subst (λ p. p < k) (sym (same ∙ sym is)) (all_below any.0 any.1 any.2))

  pub rows_and_columns : (field : IsField) → length rows + length columns ≡ k
  rows_and_columns field =
      let units = map (unit_of k) columns in
      let vectors = coefficients_of rows ++ units in
      let are = All-append (IsVector k) (coefficients_of rows) units (IsVector-coefficients k s rows (rows_fit k s packets rows stand)) (IsVector-units k columns) in
      let rank = spans_full field k vectors are (rows_fill field k s packets rows stand) in
      let least : k ≤ length vectors = rank_at_most_length k vectors k rank in
      let most = at_most in
      omega (
        arith,
        length-append pivots columns,
        length-map rows pivot_of,
        length-append (coefficients_of rows) units,
        length-map rows (λ row. row.coeffs),
        length-map columns (unit_of k),
      )

-- ---- packets and the units that they lack

module _ (field : IsField) (k s : ℕ) (packets rows units : List Packet) (fit : All (Fits k s) packets) (stand : StandForAll k s packets rows)
    (are_units : coefficients_of units ≡ map (unit_of k) (missing_columns_of k rows)) where
  abbrev front : List (List ℕ)
  front = coefficients_of packets

  abbrev back : List (List ℕ)
  back = map (unit_of k) (missing_columns_of k rows)

  abbrev own : List (List ℕ)
  own = coefficients_of rows

  by_front : All (IsVector k) front
  by_front = IsVector-coefficients k s packets fit

  by_back : All (IsVector k) back
  by_back = IsVector-units k (missing_columns_of k rows)

  by_all : All (IsVector k) (front ++ back)
  by_all = All-append (IsVector k) front back by_front by_back

  all_span : (v : List ℕ) → IsVector k v → InSpan k (front ++ back) v
  all_span v by_v =
      let by_own = IsVector-coefficients k s rows (rows_fit k s packets rows stand) in
      let members = span-members field k (front ++ back) by_all in
      span-closed field k (own ++ back) (front ++ back) v (All-append (IsVector k) own back by_own by_back) by_all
      (All-append (InSpan k (front ++ back)) own back
      (λ i d h. span-grows field k front back (get_or own i d) by_all
      ((rows_same_coefficients k s field packets rows fit stand (get_or own i d)).1 (span-members field k own by_own i d h)))
      (All-right (InSpan k (front ++ back)) front back members))
      (rows_fill field k s packets rows stand v by_v)

  joined : coefficients_of (packets ++ units) ≡ front ++ back
  joined = map-append (λ packet. packet.coeffs) packets units ∙ ap (λ vs. front ++ vs) are_units

  full : HasRank k (front ++ back) k
  full = spans_full field k (front ++ back) by_all all_span

  pub filled_span : (v : List ℕ) → IsVector k v → InSpan k (coefficients_of (packets ++ units)) v
  filled_span v by_v = subst (λ vs. InSpan k vs v) (sym joined) (all_span v by_v)

  pub filled_rank : HasRank k (coefficients_of (packets ++ units)) k
  filled_rank = subst (λ vs. HasRank k vs k) (sym joined) full

  as_many : length (front ++ back) ≡ k
  as_many =
      let both = rows_and_columns k s packets rows stand field in
      let count = stand.count in
      omega (arith, length-append front back, length-map packets (λ packet. packet.coeffs), length-map (missing_columns_of k rows) (unit_of k))

  pub unit_fresh : (at : ℕ) (packet : Packet) → at < length units → IsFresh k (packets ++ take at units) (get_or units at packet)
  unit_fresh at packet below span =
      let coeffs : Packet → List ℕ = λ packet. packet.coeffs in
      let place = length front + at in
      let many = as_many in
      let within : place < length (front ++ back) =
      omega (arith, length-append front back, length-map units (λ packet. packet.coeffs), ap length are_units) in
      let rank = subst (HasRank k (front ++ back)) (sym as_many) full in
      let earlier : coefficients_of (packets ++ take at units) ≡ take place (front ++ back) =
      map-append coeffs packets (take at units) ∙ ap (λ vs. front ++ vs) (sym (take-map coeffs at units) ∙ ap (take at) are_units)
      ∙ sym (take-append-add front back at) in
      let here : (get_or units at packet).coeffs ≡ get_or (front ++ back) place [] =
      sym (get_or-map coeffs units at packet [] below) ∙ ap (λ vs. get_or vs at []) are_units ∙ sym (get_or-append-add front back at []) in
      fresh_of_rank k place (front ++ back) rank within
      (subst (InSpan k (take place (front ++ back))) here (subst (λ vs. InSpan k vs (get_or units at packet).coeffs) earlier span))
