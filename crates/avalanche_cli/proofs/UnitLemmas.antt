-- Unit vectors: the block that one picks out, and the rank of those of all columns and of lists that begin with them.
use Rattle.std.proofs.Common.{◌≡◌, ◌≢◌, ℕ, zero, suc, ◌<◌, ◌≤◌, List, [], ◌∷◌, ◌++◌, length, map, replicate, get_or, refl, ap, ap₂, sym, subst, ◌∙◌, inl, inr, add-one, lit<, arith}
use Rattle.std.specs.List.{All, range_with_len}
use Rattle.std.proofs.lemmas.List.{get_or-replicate, get_or-set_other, get_or-set_same, length-replicate, length-set}
use Rattle.std.proofs.lemmas.List.Elements.{All-head, All-map, All-replicate, All-set, All-tail}
use Rattle.std.proofs.lemmas.List.FromFn.{get_or-map-range_with_len, get_or-range_with_len, length-range_with_len, map-range_with_len_more}
use Rattle.gf16.specs.Field.{IsField, IsSymbol, product_of, sum_of}
use Rattle.gf16.specs.Sums.{dot_of, plus_scaled}
use Rattle.linear_spec.specs.Combination.{column_of, combination_of}
use Rattle.linear_spec.specs.Span.{HasRank, HasRankAfter, InSpan}
use Rattle.linear_spec.specs.SpanLaws.{CombinationLaws, RankLaws}
use Rattle.linear_spec.specs.Symbols.{AreSymbols, IsVector}
use Rattle.linear_spec.specs.UnitVector.{unit_of}

pub IsVector-unit : (k column : ℕ) → IsVector k (unit_of k column)
IsVector-unit k column = record {
  count = length-set (replicate k 0) column 1 ∙ length-replicate k 0;
  symbols = All-set IsSymbol (replicate k 0) column 1 (lit< tt) (All-replicate IsSymbol k 0 (lit< tt));
}

one_at_column : (k column : ℕ) → column < k → get_or (unit_of k column) column 0 ≡ 1
one_at_column k column below = get_or-set_same (replicate k 0) column 1 0 (omega (arith, length-replicate {A = ℕ} k 0))

zero_elsewhere : (k column place : ℕ) → place < k → place ≢ column → get_or (unit_of k column) place 0 ≡ 0
zero_elsewhere k column place below other = get_or-set_other (replicate k 0) column place 1 0 other ∙ get_or-replicate k place 0 0 below

module _ (field : IsField) where
  -- ---- the block that a unit vector picks out

  nothing_added : (u v : List ℕ) → plus_scaled u 0 v ≡ u
  nothing_added [] v = refl
  nothing_added (x ∷ u) [] = refl
  nothing_added (x ∷ u) (y ∷ v) = ap₂ (λ a w. a ∷ w) (ap (sum_of x) (field.zero_product y) ∙ field.sum_zero x) (nothing_added u v)

  added_to_zeros : (n : ℕ) (v : List ℕ) → length v ≡ n → AreSymbols v → plus_scaled (replicate n 0) 1 v ≡ v
  added_to_zeros zero [] long symbols = refl
  added_to_zeros zero (y ∷ v) long symbols = absurd (omega arith)
  added_to_zeros (suc n) [] long symbols = absurd (omega arith)
  added_to_zeros (suc n) (y ∷ v) long symbols =
      ap₂ (λ a w. a ∷ w) (field.zero_sum (product_of 1 y) ∙ field.one_product y (All-head IsSymbol y v symbols))
      (added_to_zeros n v (omega arith) (All-tail IsSymbol y v symbols))

  module _ (laws : CombinationLaws) where
    zeros_combine : (n k : ℕ) (vectors : List (List ℕ)) → length vectors ≡ k → combination_of n (replicate k 0) vectors ≡ replicate n 0
    zeros_combine n k [] long = laws.none n (replicate k 0)
    zeros_combine n zero (v ∷ vs) long = absurd (omega arith)
    zeros_combine n (suc k) (v ∷ vs) long =
        laws.first n 0 (replicate k 0) v vs ∙ nothing_added (combination_of n (replicate k 0) vs) v ∙ zeros_combine n k vs (omega arith)

    pub unit_combines : (n k column : ℕ) (vectors : List (List ℕ)) → length vectors ≡ k → All (IsVector n) vectors → column < k → combination_of n (unit_of k column) vectors ≡ get_or vectors column []
    unit_combines n zero column vectors long all below = absurd (omega arith)
    unit_combines n (suc k) column [] long all below = absurd (omega arith)
    unit_combines n (suc k) zero (v ∷ vs) long all below =
        let vector = All-head (IsVector n) v vs all in
        laws.first n 1 (replicate k 0) v vs
        ∙ ap (λ zeros. plus_scaled zeros 1 v) (zeros_combine n k vs (omega arith))
        ∙ added_to_zeros n v vector.count vector.symbols
    unit_combines n (suc k) (suc column) (v ∷ vs) long all below =
        laws.first n 0 (unit_of k column) v vs ∙ nothing_added (combination_of n (unit_of k column) vs) v
        ∙ unit_combines n k column vs (omega arith) (All-tail (IsVector n) v vs all) (omega arith)

  -- ---- the rank

  dot_of_zeros : (coefficients column : List ℕ) → All (λ symbol. symbol ≡ 0) column → dot_of coefficients column ≡ 0
  dot_of_zeros [] column zeros = refl
  dot_of_zeros (c ∷ coefficients) [] zeros = refl
  dot_of_zeros (c ∷ coefficients) (x ∷ column) zeros =
      let P : ℕ → Type 0 = λ symbol. symbol ≡ 0 in
      ap₂ sum_of (ap (product_of c) (All-head P x column zeros) ∙ field.product_zero c) (dot_of_zeros coefficients column (All-tail P x column zeros))
      ∙ field.sum_zero 0

  -- no unit vector is a combination of those before it
  not_spanned : (k column : ℕ) → column < k → ¬ InSpan k (map (unit_of k) (range_with_len 0 column)) (unit_of k column)
  unfolding combination_of
  not_spanned k column below = λ spanned.
      let units = map (unit_of k) (range_with_len 0 column) in
      let P : ℕ → Type 0 = λ symbol. symbol ≡ 0 in
      let Q : List ℕ → Type 0 = λ vector. get_or vector column 0 ≡ 0 in
      let earlier : (i e : ℕ) → i < length (range_with_len 0 column) → get_or (unit_of k (get_or (range_with_len 0 column) i e)) column 0 ≡ 0 =
      λ i e within.
      let short = length-range_with_len 0 column in
      let place = get_or-range_with_len 0 column i e (omega arith) in
      zero_elsewhere k (get_or (range_with_len 0 column) i e) column below (λ same. omega arith) in
      let zeros : All P (column_of column units) = All-map P (λ vector. get_or vector column 0) units (All-map Q (unit_of k) (range_with_len 0 column) earlier) in
      let read = get_or-map-range_with_len (λ place. dot_of spanned.coefficients (column_of place units)) 0 k column column 0 below (omega arith) in
      let is_zero = dot_of_zeros spanned.coefficients (column_of column units) zeros in
      let same = ap (λ vector. get_or vector column 0) spanned.combine in
      let is_one = one_at_column k column below in
      let apart : zero ≡ 1 = sym is_zero ∙ sym read ∙ same ∙ is_one in
      absurd (omega arith)

  module _ (ranks : RankLaws) where
    rank_of_units : (k i : ℕ) → i ≤ k → HasRank k (map (unit_of k) (range_with_len 0 i)) i
    rank_of_units k zero within = refl
    rank_of_units k (suc i) within =
        let units = map (unit_of k) (range_with_len 0 i) in
        let next = (ranks.more k i units (unit_of k i) (rank_of_units k i (omega arith))).1 (not_spanned k i (omega arith)) in
        let same : units ++ unit_of k i ∷ [] ≡ map (unit_of k) (range_with_len 0 (suc i)) =
        sym (map-range_with_len_more (unit_of k) 0 i i (omega arith)) ∙ ap (λ n. map (unit_of k) (range_with_len 0 n)) (add-one i) in
        subst (λ (vectors : List (List ℕ)). HasRank k vectors (suc i)) same next

    -- the unit vectors of all columns have full rank
    pub full_rank_of_units : (k : ℕ) → HasRank k (map (unit_of k) (range_with_len 0 k)) k
    full_rank_of_units k = rank_of_units k k (omega arith)

-- ---- a list that begins with vectors of full rank

-- a list has no smaller rank than its front
rank_of_front : (n : ℕ) (before front back : List (List ℕ)) (r q : ℕ) → HasRankAfter n before (front ++ back) r → HasRankAfter n before front q → q ≤ r
rank_of_front n before [] back r q whole none = let no_rank : q ≡ 0 = none in omega arith
rank_of_front n before (v ∷ front) back r q (inl within) (inl also) = rank_of_front n (before ++ v ∷ []) front back r q within.1 also.1
rank_of_front n before (v ∷ front) back r q (inl within) (inr new) = absurd (new.0 within.0)
rank_of_front n before (v ∷ front) back r q (inr new) (inl within) = absurd (new.0 within.0)
rank_of_front n before (v ∷ front) back r q (inr new) (inr also) =
    let fewer : also.1 ≤ new.1 = rank_of_front n (before ++ v ∷ []) front back new.1 also.1 new.3 also.3 in
    omega (arith, new.2, also.2)

-- vectors of n symbols behind some of rank n leave the rank as it is
pub rank_of_more : RankLaws → (n : ℕ) (front back : List (List ℕ)) → All (IsVector n) (front ++ back) → HasRank n front n → HasRank n (front ++ back) n
rank_of_more ranks n front back vectors full =
    let whole = ranks.some n (front ++ back) vectors in
    let few : whole.0 ≤ n = ranks.at_most_symbols n (front ++ back) whole.0 vectors whole.1 in
    let many : n ≤ whole.0 = rank_of_front n [] front back whole.0 n whole.1 full in
    let same : whole.0 ≡ n = omega arith in
    subst (λ (r : ℕ). HasRank n (front ++ back) r) same whole.1
