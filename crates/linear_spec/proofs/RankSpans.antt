-- Lists of vectors that span the same have the same rank, since the rank of a span is at most the number of vectors that
-- span it, and some as many as the rank do.
use Rattle.std.proofs.Common.{◌≡◌, ℕ, suc, ◌≤◌, List, [], ◌∷◌, ◌++◌, length, map, refl, sym, ap, ap₂, ◌∙◌, subst, inl, inr, arith}
use Rattle.std.specs.List.{All}
use Rattle.std.proofs.lemmas.List.{append_assoc, length-map, map_push}
use Rattle.std.proofs.lemmas.List.Elements.{All-nil, All-cons, All-head, All-tail, All-append, All-push, All-weaker}
use Rattle.gf16.specs.Field.{IsField}
use Rattle.linear_spec.specs.Symbols.{IsVector}
use Rattle.linear_spec.specs.Combination.{combination_of}
use Rattle.linear_spec.specs.Span.{InSpan, HaveOneSpan, HasRankAfter, HasRank}
use Rattle.linear_spec.proofs.SpanLaws.{span-grows, span-closed}
use Rattle.linear_spec.proofs.SpanChanges.{All-left, All-right, span-members}
use Rattle.linear_spec.proofs.PacketLaws.{combination-nested}
use Rattle.linear_spec.proofs.Ranks.{rank_some}
use Rattle.linear_spec.proofs.RankBounds.{rank_at_most}

-- vectors of a span are the combinations of some lists of coefficients
coordinates : (n : ℕ) (vs us : List (List ℕ)) → All (InSpan n vs) us
    → (cs : List (List ℕ)) × All (IsVector (length vs)) cs × (map (λ c. combination_of n c vs) cs ≡ us)
coordinates n vs [] inside = ([], All-nil (IsVector (length vs)), refl)
coordinates n vs (u ∷ us) inside =
    let first = All-head (InSpan n vs) u us inside in
    let rest = coordinates n vs us (All-tail (InSpan n vs) u us inside) in (
      first.coefficients ∷ rest.0,
      All-cons (IsVector (length vs)) first.coefficients rest.0 first.are_symbols rest.1,
      ap₂ (λ x xs. x ∷ xs) first.combine rest.2,
    )

module _ (field : IsField) (n : ℕ) (vs : List (List ℕ)) (by_vs : All (IsVector n) vs) where
  abbrev image : List ℕ → List ℕ
  image c = combination_of n c vs

  image-span : (cs : List (List ℕ)) (c : List ℕ) → All (IsVector (length vs)) cs → InSpan (length vs) cs c → InSpan n (map image cs) (image c)
  image-span cs c by_cs inside = record {
    coefficients = inside.coefficients;
    are_symbols = record { count = inside.are_symbols.count ∙ sym (length-map cs image); symbols = inside.are_symbols.symbols };
    combine =
        sym (combination-nested field (length vs) n inside.coefficients cs vs inside.are_symbols.symbols inside.are_symbols.count by_cs refl by_vs)
        ∙ ap image inside.combine;
  }

  -- combinations have at most the rank of the lists of their coefficients
  image-rank : (before cs : List (List ℕ)) (r q : ℕ) → All (IsVector (length vs)) before → All (IsVector (length vs)) cs
      → HasRankAfter n (map image before) (map image cs) r → HasRankAfter (length vs) before cs q → r ≤ q
  image-rank before [] r q by_before by_cs one other = omega arith
  image-rank before (c ∷ cs) r q by_before by_cs (inr fresh) (inl too) = absurd (fresh.0 (image-span before c by_before too.0))
  image-rank before (c ∷ cs) r q by_before by_cs (inl within) (inl too) =
      image-rank (before ++ c ∷ []) cs r q
      (All-push (IsVector (length vs)) before c by_before (All-head (IsVector (length vs)) c cs by_cs)) (All-tail (IsVector (length vs)) c cs by_cs)
      (subst (λ us. HasRankAfter n us (map image cs) r) (sym (map_push image before c)) within.1) too.1
  image-rank before (c ∷ cs) r q by_before by_cs (inl within) (inr new) =
      let p = new.1 in
      let e = new.2 in
      let rest : r ≤ p =
      image-rank (before ++ c ∷ []) cs r p
      (All-push (IsVector (length vs)) before c by_before (All-head (IsVector (length vs)) c cs by_cs)) (All-tail (IsVector (length vs)) c cs by_cs)
      (subst (λ us. HasRankAfter n us (map image cs) r) (sym (map_push image before c)) within.1) new.3 in
      omega arith
  image-rank before (c ∷ cs) r q by_before by_cs (inr fresh) (inr new) =
      let p = new.1 in
      let e = new.2 in
      let t = fresh.1 in
      let f = fresh.2 in
      let rest : t ≤ p =
      image-rank (before ++ c ∷ []) cs t p
      (All-push (IsVector (length vs)) before c by_before (All-head (IsVector (length vs)) c cs by_cs)) (All-tail (IsVector (length vs)) c cs by_cs)
      (subst (λ us. HasRankAfter n us (map image cs) t) (sym (map_push image before c)) fresh.3) new.3 in
      omega arith

  -- the rank of vectors of a span is at most the number of those that span it
  rank_in_span : (us : List (List ℕ)) (r : ℕ) → All (InSpan n vs) us → HasRank n us r → r ≤ length vs
  rank_in_span us r inside rank =
      let found = coordinates n vs us inside in
      let other = rank_some field (length vs) found.0 found.1 in
      let q = other.0 in
      let less : r ≤ q =
      image-rank [] found.0 r q (All-nil (IsVector (length vs))) found.1 (subst (λ ws. HasRank n ws r) (sym found.2) rank) other.1 in
      let most : q ≤ length vs = rank_at_most field (length vs) found.0 q found.1 other.1 in
      omega arith

-- as many vectors as the rank span all, after those before
rank_spans : (field : IsField) (n : ℕ) (before vs : List (List ℕ)) (r : ℕ) → All (IsVector n) before → All (IsVector n) vs → HasRankAfter n before vs r
    → (bs : List (List ℕ)) × (length bs ≡ r) × All (IsVector n) bs × ((x : List ℕ) → InSpan n (before ++ vs) x → InSpan n (before ++ bs) x)
rank_spans field n before [] r by_before by_vs rank = ([], sym rank, All-nil (IsVector n), λ x h. h)
rank_spans field n before (v ∷ vs) r by_before by_vs (inl within) =
    let longer = All-push (IsVector n) before v by_before (All-head (IsVector n) v vs by_vs) in
    let rest = rank_spans field n (before ++ v ∷ []) vs r longer (All-tail (IsVector n) v vs by_vs) within.1 in
    let bs = rest.0 in
    let all = All-append (IsVector n) before bs by_before rest.2 in
    let members = span-members field n (before ++ bs) all in
    let P = InSpan n (before ++ bs) in (
      bs,
      rest.1,
      rest.2,
      λ x h.
          span-closed field n ((before ++ v ∷ []) ++ bs) (before ++ bs) x (All-append (IsVector n) (before ++ v ∷ []) bs longer rest.2) all
          (All-append P (before ++ v ∷ []) bs
          (All-push P before v (All-left P before bs members) (span-grows field n before bs v all within.0))
          (All-right P before bs members))
          (rest.3 x (subst (λ us. InSpan n us x) (sym (append_assoc before (v ∷ []) vs)) h)),
    )
rank_spans field n before (v ∷ vs) r by_before by_vs (inr fresh) =
    let by_v = All-head (IsVector n) v vs by_vs in
    let rest = rank_spans field n (before ++ v ∷ []) vs fresh.1 (All-push (IsVector n) before v by_before by_v) (All-tail (IsVector n) v vs by_vs) fresh.3 in (
      v ∷ rest.0,
      ap suc rest.1 ∙ sym fresh.2,
      All-cons (IsVector n) v rest.0 by_v rest.2,
      λ x h.
          subst (λ us. InSpan n us x) (append_assoc before (v ∷ []) rest.0)
          (rest.3 x (subst (λ us. InSpan n us x) (sym (append_assoc before (v ∷ []) vs)) h)),
    )

-- vectors that lie in the span of others have at most their rank
rank_within : (field : IsField) (n : ℕ) (vs ws : List (List ℕ)) (r q : ℕ) → All (IsVector n) vs → All (IsVector n) ws
    → ((x : List ℕ) → InSpan n ws x → InSpan n vs x) → HasRank n vs r → HasRank n ws q → q ≤ r
rank_within field n vs ws r q by_vs by_ws within rank other =
    let basis = rank_spans field n [] vs r (All-nil (IsVector n)) by_vs rank in
    let bs = basis.0 in
    let count : length bs ≡ r = basis.1 in
    let inside = All-weaker (InSpan n ws) (InSpan n bs) (λ x h. basis.3 x (within x h)) ws (span-members field n ws by_ws) in
    let most : q ≤ length bs = rank_in_span field n bs basis.2 ws q inside other in
    omega arith

pub rank_one_span : (field : IsField) (n r : ℕ) (vs ws : List (List ℕ)) → All (IsVector n) vs → All (IsVector n) ws
    → HaveOneSpan n vs ws → HasRank n vs r → HasRank n ws r
rank_one_span field n r vs ws by_vs by_ws same rank =
    let other = rank_some field n ws by_ws in
    let q = other.0 in
    let less : q ≤ r = rank_within field n vs ws r q by_vs by_ws (λ x. (same x).1) rank other.1 in
    let more : r ≤ q = rank_within field n ws vs q r by_ws by_vs (λ x. (same x).0) other.1 rank in
    let e : q ≡ r = omega arith in
    subst (HasRank n ws) e other.1
