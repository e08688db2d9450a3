-- Spans of lists of vectors that share members, and the replacement of one vector by another.
use Rattle.std.proofs.Common.{◌≡◌, ◌≢◌, ◌↔◌, ℕ, suc, ◌+◌, ◌<◌, List, [], ◌∷◌, ◌++◌, length, get_or, set, take, drop, ap, sym, subst, ◌∙◌, arith, lit<}
use Rattle.std.specs.List.{All}
use Rattle.std.proofs.lemmas.List.{length-append, get_or_append_left, get_or-append-add, set_split, set-get_or}
use Rattle.std.proofs.lemmas.List.Elements.{All-nil, All-cons, All-head, All-tail, All-append, All-weaker}
use Rattle.gf16.specs.Field.{IsSymbol, IsField, product_of}
use Rattle.gf16.specs.Sums.{scaled, plus_scaled}
use Rattle.linear_spec.specs.Symbols.{IsVector}
use Rattle.linear_spec.specs.Span.{InSpan}
use Rattle.linear_spec.proofs.SpanLaws.{span-same, span-skip, span-member, span-grows, span-closed, span-plus_scaled, span-scaled, plus_scaled-twice, plus_scaled-cancels, scaled-scaled, scaled-one}

pub All-left : {X : Type 0} (P : X → Type 0) (xs ys : List X) → All P (xs ++ ys) → All P xs
All-left P xs ys all = λ k d below.
    let within : k < length (xs ++ ys) = omega (arith, length-append xs ys) in
    subst P (get_or_append_left xs ys d k below) (all k d within)

pub All-right : {X : Type 0} (P : X → Type 0) (xs ys : List X) → All P (xs ++ ys) → All P ys
All-right P xs ys all = λ k d below.
    let within : length xs + k < length (xs ++ ys) = omega (arith, length-append xs ys) in
    subst P (get_or-append-add xs ys k d) (all (length xs + k) d within)

-- each of the vectors lies in their span
pub span-members : (field : IsField) (n : ℕ) (vs : List (List ℕ)) → All (IsVector n) vs → All (InSpan n vs) vs
span-members field n [] vectors = All-nil (InSpan n [])
span-members field n (v ∷ vs) vectors =
    let vector = All-head (IsVector n) v vs vectors in
    let rest = All-tail (IsVector n) v vs vectors in
    All-cons (InSpan n (v ∷ vs)) v vs (span-member field n [] vs v vectors)
    (All-weaker (InSpan n vs) (InSpan n (v ∷ vs)) (λ u inside. span-skip field n v vs u vector inside) vs (span-members field n vs rest))

-- where v lies in the span of a list with w in its place, so does all that the list with v spans
pub span-exchange : (field : IsField) (n : ℕ) (front back : List (List ℕ)) (v w x : List ℕ)
    → All (IsVector n) (front ++ v ∷ back) → All (IsVector n) (front ++ w ∷ back)
    → InSpan n (front ++ w ∷ back) v → InSpan n (front ++ v ∷ back) x → InSpan n (front ++ w ∷ back) x
span-exchange field n front back v w x vectors others inside span =
    let members = span-members field n (front ++ w ∷ back) others in
    let P = InSpan n (front ++ w ∷ back) in
    span-closed field n (front ++ v ∷ back) (front ++ w ∷ back) x vectors others
    (All-append P front (v ∷ back) (All-left P front (w ∷ back) members)
    (All-cons P v back inside (All-tail P w back (All-right P front (w ∷ back) members)))) span

-- a vector whose nonzero multiple lies in a span does so too
pub span-unscaled : (field : IsField) (n c : ℕ) (vs : List (List ℕ)) (v : List ℕ) → All (IsVector n) vs → IsVector n v
    → IsSymbol c → c ≢ 0 → InSpan n vs (scaled c v) → InSpan n vs v
span-unscaled field n c vs v vectors vector symbol some inside =
    let inverse = field.inverse c symbol some in
    let one : product_of inverse.0 c ≡ 1 = field.product_commutes inverse.0 c inverse.1 symbol ∙ inverse.2 in
    span-same n vs (scaled inverse.0 (scaled c v)) v
    (scaled-scaled field inverse.0 c v inverse.1 ∙ ap (λ d. scaled d v) one ∙ scaled-one field v vector.symbols)
    (span-scaled field n inverse.0 vs (scaled c v) vectors inverse.1 inside)

module _ (field : IsField) (n c : ℕ) (front back : List (List ℕ)) (v row : List ℕ)
    (vectors : All (IsVector n) (front ++ v ∷ back)) (vector : IsVector n row)
    (symbol : IsSymbol c) (some : c ≢ 0) (stands : InSpan n front (plus_scaled row c v)) where
  v_vector : IsVector n v
  v_vector = All-head (IsVector n) v back (All-right (IsVector n) front (v ∷ back) vectors)

  pub replaced_vectors : All (IsVector n) (front ++ row ∷ back)
  replaced_vectors =
      All-append (IsVector n) front (row ∷ back) (All-left (IsVector n) front (v ∷ back) vectors)
      (All-cons (IsVector n) row back vector (All-tail (IsVector n) v back (All-right (IsVector n) front (v ∷ back) vectors)))

  row_in : InSpan n (front ++ v ∷ back) row
  row_in =
      span-same n (front ++ v ∷ back) (plus_scaled (plus_scaled row c v) c v) row (plus_scaled-twice field c row v)
      (span-plus_scaled field n c (front ++ v ∷ back) (plus_scaled row c v) v vectors symbol
      (span-grows field n front (v ∷ back) (plus_scaled row c v) vectors stands)
      (span-member field n front back v vectors))

  v_in : InSpan n (front ++ row ∷ back) v
  v_in =
      span-unscaled field n c (front ++ row ∷ back) v replaced_vectors v_vector symbol some
      (span-same n (front ++ row ∷ back) (plus_scaled (plus_scaled row c v) 1 row) (scaled c v)
      (plus_scaled-cancels field c row v vector.symbols (vector.count ∙ sym v_vector.count))
      (span-plus_scaled field n 1 (front ++ row ∷ back) (plus_scaled row c v) row replaced_vectors (lit< tt)
      (span-grows field n front (row ∷ back) (plus_scaled row c v) replaced_vectors stands)
      (span-member field n front back row replaced_vectors)))

  -- a row that some nonzero multiple of v brings into the span of those before v spans as much in its place
  pub span-replace : (x : List ℕ) → InSpan n (front ++ v ∷ back) x ↔ InSpan n (front ++ row ∷ back) x
  span-replace x = (
    span-exchange field n front back v row x vectors replaced_vectors v_in,
    span-exchange field n front back row v x replaced_vectors vectors row_in,
  )

-- the same, of the vector at a place
pub span-replace_at : (field : IsField) (n c at : ℕ) (vs : List (List ℕ)) (row x : List ℕ) → All (IsVector n) vs → IsVector n row → at < length vs
    → IsSymbol c → c ≢ 0 → InSpan n (take at vs) (plus_scaled row c (get_or vs at []))
    → InSpan n vs x ↔ InSpan n (set vs at row) x
span-replace_at field n c at vs row x vectors vector below symbol some stands =
    let front = take at vs in
    let back = drop (suc at) vs in
    let v = get_or vs at [] in
    let parts : vs ≡ front ++ v ∷ back = sym (set-get_or vs at []) ∙ set_split vs at v below in
    let both = span-replace field n c front back v row (subst (All (IsVector n)) parts vectors) vector symbol some stands x in (
      λ inside. subst (λ ws. InSpan n ws x) (sym (set_split vs at row below)) (both.0 (subst (λ ws. InSpan n ws x) parts inside)),
      λ inside. subst (λ ws. InSpan n ws x) (sym parts) (both.1 (subst (λ ws. InSpan n ws x) (set_split vs at row below) inside)),
    )
