-- The unit vectors of all columns span every vector of k symbols, and none is a combination of those before it.
use Rattle.std.proofs.Common.{◌≡◌, ◌≢◌, ℕ, zero, suc, ◌+◌, ◌<◌, ◌≤◌, List, [], ◌∷◌, ◌++◌, length, map, get_or, replicate, refl, sym, ap, subst, ◌∙◌, add-one, arith}
use Rattle.std.specs.List.{All, range_with_len}
use Rattle.std.proofs.lemmas.List.{get_or-set_other, get_or-set_same, length-replicate}
use Rattle.std.proofs.lemmas.List.Elements.{All-map}
use Rattle.std.proofs.lemmas.List.FromFn.{get_or-range_with_len, length-range_with_len, map-range_with_len_more}
use Rattle.gf16.specs.Field.{IsField}
use Rattle.linear_spec.specs.Symbols.{IsVector}
use Rattle.linear_spec.specs.Span.{InSpan, HasRank}
use Rattle.linear_spec.specs.UnitVector.{unit_of}
use Rattle.linear_spec.proofs.VectorSums.{get_or-zero}
use Rattle.linear_spec.proofs.Echelon.{span-clear}
use Rattle.linear_spec.proofs.Ranks.{rank_more}
use Rattle.linear_spec.proofs.RowsFill.{IsVector-unit, place_below, span-units}

one_at_column : (k column : ℕ) → column < k → get_or (unit_of k column) column 0 ≡ 1
one_at_column k column below = get_or-set_same (replicate k 0) column 1 0 (omega (arith, length-replicate {A = ℕ} k 0))

zero_elsewhere : (k column place : ℕ) → place ≢ column → get_or (unit_of k column) place 0 ≡ 0
zero_elsewhere k column place other = get_or-set_other (replicate k 0) column place 1 0 other ∙ get_or-zero k place

pub IsVector-units : (k : ℕ) (columns : List ℕ) → All (IsVector k) (map (unit_of k) columns)
IsVector-units k columns = All-map (IsVector k) (unit_of k) columns (λ i d h. IsVector-unit k (get_or columns i d))

module _ (field : IsField) (k : ℕ) where
  pub units_span : (v : List ℕ) → IsVector k v → InSpan k (map (unit_of k) (range_with_len 0 k)) v
  units_span v by_v = span-units field k (range_with_len 0 k) v by_v (λ place some.
      let below = place_below k v place by_v some in
      let same : 0 + place ≡ place = omega arith in
      (place, subst (λ n. place < n) (sym (length-range_with_len 0 k)) below, get_or-range_with_len 0 k place place below ∙ same))

  not_spanned : (column : ℕ) → column < k → ¬ InSpan k (map (unit_of k) (range_with_len 0 column)) (unit_of k column)
  not_spanned column below span =
      let columns = range_with_len 0 column in
      let Q : List ℕ → Type 0 = λ vector. get_or vector column 0 ≡ 0 in
      let clear : All Q (map (unit_of k) columns) = All-map Q (unit_of k) columns (λ i d h.
      let long = length-range_with_len 0 column in
      let place = get_or-range_with_len 0 column i d (omega arith) in
      zero_elsewhere k (get_or columns i d) column (λ same. omega arith)) in
      let apart : ◌≡◌ {A = ℕ} 0 1 =
      sym (span-clear field k column (map (unit_of k) columns) (unit_of k column) (IsVector-units k columns) clear span)
      ∙ one_at_column k column below in
      absurd (omega arith)

  rank_of_units : (i : ℕ) → i ≤ k → HasRank k (map (unit_of k) (range_with_len 0 i)) i
  rank_of_units zero within = refl
  rank_of_units (suc i) within =
      let units = map (unit_of k) (range_with_len 0 i) in
      let next = (rank_more k i units (unit_of k i) (rank_of_units i (omega arith))).1 (not_spanned i (omega arith)) in
      let same : units ++ unit_of k i ∷ [] ≡ map (unit_of k) (range_with_len 0 (suc i)) =
      sym (map-range_with_len_more (unit_of k) 0 i i (omega arith)) ∙ ap (λ n. map (unit_of k) (range_with_len 0 n)) (add-one i) in
      subst (λ (vectors : List (List ℕ)). HasRank k vectors (suc i)) same next

  pub units_rank : HasRank k (map (unit_of k) (range_with_len 0 k)) k
  units_rank = rank_of_units k (omega arith)
