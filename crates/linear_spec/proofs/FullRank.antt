-- Vectors of n symbols have rank n exactly where they span all of these.
use Rattle.std.proofs.Common.{◌≡◌, ℕ, zero, suc, ◌<◌, ◌≤◌, List, [], ◌∷◌, ◌++◌, length, map, take, get_or, sym, subst, inl, inr, arith}
use Rattle.std.specs.List.{All, range_with_len}
use Rattle.std.proofs.lemmas.List.{append-nil, append_assoc}
use Rattle.std.proofs.lemmas.List.Elements.{All-push}
use Rattle.gf16.specs.Field.{IsField}
use Rattle.linear_spec.specs.Symbols.{IsVector}
use Rattle.linear_spec.specs.Span.{InSpan, HasRankAfter, HasRank}
use Rattle.linear_spec.specs.UnitVector.{unit_of}
use Rattle.linear_spec.proofs.SpanLaws.{IsVector-span, span-grows}
use Rattle.linear_spec.proofs.SpanChanges.{All-left}
use Rattle.linear_spec.proofs.SpanDecides.{span_decides}
use Rattle.linear_spec.proofs.Ranks.{rank_more, rank_at_most_length_after}
use Rattle.linear_spec.proofs.RankBounds.{rank_at_most}
use Rattle.linear_spec.proofs.RankSpans.{rank_one_span}
use Rattle.linear_spec.proofs.UnitVectors.{IsVector-units, units_rank, units_span}

pub full_spans : (field : IsField) (n : ℕ) (vs : List (List ℕ)) (v : List ℕ) → All (IsVector n) vs → HasRank n vs n → IsVector n v → InSpan n vs v
full_spans field n vs v by_vs rank by_v = pick (span_decides field n vs v by_vs by_v)
  where
    pick : Dec (InSpan n vs v) → InSpan n vs v
    pick (yes inside) = inside
    pick (no fresh) =
        let more = (rank_more n n vs v rank).1 fresh in
        let most = rank_at_most field n (vs ++ v ∷ []) (suc n) (All-push (IsVector n) vs v by_vs by_v) more in
        absurd (omega arith)

pub spans_full : (field : IsField) (n : ℕ) (vs : List (List ℕ)) → All (IsVector n) vs → ((v : List ℕ) → IsVector n v → InSpan n vs v) → HasRank n vs n
spans_full field n vs by_vs spans =
    let columns = range_with_len 0 n in
    let units = map (unit_of n) columns in
    rank_one_span field n n units vs (IsVector-units n columns) by_vs (λ v. (
      λ span. spans v (IsVector-span field n units v (IsVector-units n columns) span),
      λ span. units_span field n v (IsVector-span field n vs v by_vs span),
    )) (units_rank field n)

pub full_more : (field : IsField) (n : ℕ) (front back : List (List ℕ)) → All (IsVector n) (front ++ back) → HasRank n front n → HasRank n (front ++ back) n
full_more field n front back all rank =
    let by_front = All-left (IsVector n) front back all in
    spans_full field n (front ++ back) all (λ v by_v. span-grows field n front back v all (full_spans field n front v by_front rank by_v))

-- where the rank is the number of the vectors, each is fresh after those before it
fresh_after : (n : ℕ) (before vs : List (List ℕ)) → HasRankAfter n before vs (length vs) → (i : ℕ) → i < length vs
    → ¬ InSpan n (before ++ take i vs) (get_or vs i [])
fresh_after n before [] rank i below span = absurd (omega arith)
fresh_after n before (v ∷ vs) (inl within) i below span =
    let most = rank_at_most_length_after n (before ++ v ∷ []) vs (suc (length vs)) within.1 in
    absurd (omega arith)
fresh_after n before (v ∷ vs) (inr fresh) zero below span = fresh.0 (subst (λ us. InSpan n us v) (append-nil before) span)
fresh_after n before (v ∷ vs) (inr fresh) (suc i) below span =
    let q = fresh.1 in
    let same : suc (length vs) ≡ suc q = fresh.2 in
    let count : q ≡ length vs = omega arith in
    fresh_after n (before ++ v ∷ []) vs (subst (HasRankAfter n (before ++ v ∷ []) vs) count fresh.3) i (omega arith)
    (subst (λ us. InSpan n us (get_or vs i [])) (sym (append_assoc before (v ∷ []) (take i vs))) span)

pub fresh_of_rank : (n at : ℕ) (vs : List (List ℕ)) → HasRank n vs (length vs) → at < length vs → ¬ InSpan n (take at vs) (get_or vs at [])
fresh_of_rank n at vs rank below = fresh_after n [] vs rank at below
