-- Combinations, vector by vector, and the laws of the span of vectors of n symbols.
use Rattle.std.proofs.Common.{◌≡◌, ℕ, zero, suc, ◌+◌, ◌<◌, List, [], ◌∷◌, ◌++◌, length, get_or, take, replicate, map, refl, ap, ap₂, sym, subst, ◌∙◌, arith, lit<}
use Rattle.std.specs.List.{All}
use Rattle.std.proofs.lemmas.List.{length-replicate, length-map, length-take, length-take-le, take_more, take-replicate, ext_get_or, get_or-replicate}
use Rattle.std.proofs.lemmas.List.FromFn.{length-map-range_with_len, get_or-map-range_with_len}
use Rattle.std.proofs.lemmas.List.Elements.{All-nil, All-cons, All-head, All-tail, All-append, All-take}
use Rattle.gf16.specs.Field.{IsSymbol, IsField, sum_of, product_of}
use Rattle.gf16.specs.Sums.{scaled, plus_scaled, dot_of}
use Rattle.linear_spec.specs.Symbols.{AreSymbols, IsVector}
use Rattle.linear_spec.specs.Combination.{column_of, combination_of}
use Rattle.linear_spec.specs.Span.{InSpan}
pub use Rattle.linear_spec.proofs.VectorLaws.{length-plus_scaled, take-plus_scaled, drop-plus_scaled, append-plus_scaled, plus_scaled-zero, plus_scaled-zeros, zeros-plus_scaled, plus_scaled-twice, plus_scaled-cancels, plus_scaled-commutes, plus_scaled-plus_scaled, plus_scaled-sum, plus_scaled-scaled, scaled-scaled, scaled-zeros, scaled-plus_scaled, scaled-one, IsVector-plus_scaled, IsVector-scaled, IsVector-replicate, IsVector-nil, IsVector-cons, get_or-plus_scaled, get_or-scaled}

-- ---- combinations

pub dot-nil : (cs : List ℕ) → dot_of cs [] ≡ 0
dot-nil [] = refl
dot-nil (c ∷ cs) = refl

pub length-combination : (n : ℕ) (cs : List ℕ) (vs : List (List ℕ)) → length (combination_of n cs vs) ≡ n
unfolding combination_of
length-combination n cs vs = length-map-range_with_len (λ place. dot_of cs (column_of place vs)) 0 n

-- the symbol of a combination at a place
pub get_or-combination : (n i : ℕ) (cs : List ℕ) (vs : List (List ℕ)) → i < n
    → get_or (combination_of n cs vs) i 0 ≡ dot_of cs (column_of i vs)
unfolding combination_of
get_or-combination n i cs vs within = get_or-map-range_with_len (λ place. dot_of cs (column_of place vs)) 0 n i i 0 within (omega arith)

pub combination-nil : (n : ℕ) (cs : List ℕ) → combination_of n cs [] ≡ replicate n 0
combination-nil n cs =
    ext_get_or 0 (combination_of n cs []) (replicate n 0)
    (length-combination n cs [] ∙ sym (length-replicate n 0))
    (λ i within.
    let below : i < n = omega (arith, length-combination n cs []) in
    get_or-combination n i cs [] below ∙ dot-nil cs ∙ sym (get_or-replicate n i 0 0 below))

pub combination-none : (n : ℕ) (vs : List (List ℕ)) → combination_of n [] vs ≡ replicate n 0
combination-none n vs =
    ext_get_or 0 (combination_of n [] vs) (replicate n 0)
    (length-combination n [] vs ∙ sym (length-replicate n 0))
    (λ i within.
    let below : i < n = omega (arith, length-combination n [] vs) in
    get_or-combination n i [] vs below ∙ sym (get_or-replicate n i 0 0 below))

-- vectors of any lengths: a place that one lacks counts as 0 there
pub combination-cons_any : (field : IsField) (n c : ℕ) (cs v : List ℕ) (vs : List (List ℕ))
    → combination_of n (c ∷ cs) (v ∷ vs) ≡ plus_scaled (combination_of n cs vs) c v
combination-cons_any field n c cs v vs =
    ext_get_or 0 (combination_of n (c ∷ cs) (v ∷ vs)) (plus_scaled (combination_of n cs vs) c v)
    (length-combination n (c ∷ cs) (v ∷ vs) ∙ sym (length-plus_scaled c (combination_of n cs vs) v ∙ length-combination n cs vs))
    (λ i within.
    let below : i < n = omega (arith, length-combination n (c ∷ cs) (v ∷ vs)) in
    let inside : i < length (combination_of n cs vs) = omega (arith, length-combination n cs vs) in
    get_or-combination n i (c ∷ cs) (v ∷ vs) below
    ∙ field.sum_commutes (product_of c (get_or v i 0)) (dot_of cs (column_of i vs))
    ∙ ap (λ x. sum_of x (product_of c (get_or v i 0))) (sym (get_or-combination n i cs vs below))
    ∙ sym (get_or-plus_scaled field c i (combination_of n cs vs) v inside))

pub combination-cons : (field : IsField) (n c : ℕ) (cs v : List ℕ) (vs : List (List ℕ)) → IsVector n v
    → combination_of n (c ∷ cs) (v ∷ vs) ≡ plus_scaled (combination_of n cs vs) c v
combination-cons field n c cs v vs vector = combination-cons_any field n c cs v vs

-- one vector more, at the end
pub combination-push : (field : IsField) (n c : ℕ) (cs v : List ℕ) (vs : List (List ℕ)) → length cs ≡ length vs
    → combination_of n (cs ++ c ∷ []) (vs ++ v ∷ []) ≡ plus_scaled (combination_of n cs vs) c v
combination-push field n c [] v [] same =
    combination-cons_any field n c [] v []
combination-push field n c [] v (w ∷ vs) same = absurd (omega arith)
combination-push field n c (d ∷ cs) v [] same = absurd (omega arith)
combination-push field n c (d ∷ cs) v (w ∷ vs) same =
    combination-cons_any field n d (cs ++ c ∷ []) w (vs ++ v ∷ [])
    ∙ ap (λ x. plus_scaled x d w) (combination-push field n c cs v vs (omega arith))
    ∙ plus_scaled-commutes field c d (combination_of n cs vs) v w
    ∙ ap (λ x. plus_scaled x c v) (sym (combination-cons_any field n d cs w vs))

pub combination_more : (field : IsField) (n i c : ℕ) (cs v : List ℕ) (vs : List (List ℕ)) → i < length cs → length cs ≡ length vs
    → c ≡ get_or cs i 0 → v ≡ get_or vs i []
    → plus_scaled (combination_of n (take i cs) (take i vs)) c v ≡ combination_of n (take (i + 1) cs) (take (i + 1) vs)
combination_more field n i c cs v vs within same c_is v_is =
    let there : i < length vs = omega arith in
    let lengths : length (take i cs) ≡ length (take i vs) = simp length-take (omega arith) in
    ap₂ (λ x y. plus_scaled (combination_of n (take i cs) (take i vs)) x y) c_is v_is
    ∙ sym (combination-push field n (get_or cs i 0) (take i cs) (get_or vs i []) (take i vs) lengths)
    ∙ ap₂ (combination_of n) (sym (take_more cs i 0 within)) (sym (take_more vs i [] there))

pub IsVector-combination : (field : IsField) (n : ℕ) (cs : List ℕ) (vs : List (List ℕ)) → AreSymbols cs → All (IsVector n) vs
    → IsVector n (combination_of n cs vs)
IsVector-combination field n cs [] symbols vectors = subst (IsVector n) (sym (combination-nil n cs)) (IsVector-replicate n)
IsVector-combination field n [] (v ∷ vs) symbols vectors = subst (IsVector n) (sym (combination-none n (v ∷ vs))) (IsVector-replicate n)
IsVector-combination field n (c ∷ cs) (v ∷ vs) symbols vectors =
    subst (IsVector n) (sym (combination-cons field n c cs v vs (All-head (IsVector n) v vs vectors)))
    (IsVector-plus_scaled field n c (combination_of n cs vs) v
    (IsVector-combination field n cs vs (All-tail IsSymbol c cs symbols) (All-tail (IsVector n) v vs vectors))
    (All-head IsSymbol c cs symbols))

-- coefficients of 0 combine to the zero vector
pub combination-zeros : (field : IsField) (n k : ℕ) (vs : List (List ℕ)) → combination_of n (replicate k 0) vs ≡ replicate n 0
combination-zeros field n zero vs = combination-none n vs
combination-zeros field n (suc k) [] = combination-nil n (replicate (suc k) 0)
combination-zeros field n (suc k) (v ∷ vs) =
    combination-cons_any field n 0 (replicate k 0) v vs ∙ plus_scaled-zero field (combination_of n (replicate k 0) vs) v
    ∙ combination-zeros field n k vs

-- a combination is linear in its coefficients
pub combination-plus_scaled : (field : IsField) (n c : ℕ) (cs ds : List ℕ) (vs : List (List ℕ)) → All (IsVector n) vs → IsSymbol c
    → length cs ≡ length vs → length ds ≡ length vs
    → combination_of n (plus_scaled cs c ds) vs ≡ plus_scaled (combination_of n cs vs) c (combination_of n ds vs)
combination-plus_scaled field n c cs ds [] vectors symbol first second =
    combination-nil n (plus_scaled cs c ds)
    ∙ sym (ap₂ (λ x y. plus_scaled x c y) (combination-nil n cs) (combination-nil n ds) ∙ plus_scaled-zeros field c n (replicate n 0))
combination-plus_scaled field n c [] ds (v ∷ vs) vectors symbol first second = absurd (omega arith)
combination-plus_scaled field n c (x ∷ cs) [] (v ∷ vs) vectors symbol first second = absurd (omega arith)
combination-plus_scaled field n c (x ∷ cs) (y ∷ ds) (v ∷ vs) vectors symbol first second =
    let vector = All-head (IsVector n) v vs vectors in
    let left = combination_of n cs vs in
    let right = combination_of n ds vs in
    combination-cons_any field n (sum_of x (product_of c y)) (plus_scaled cs c ds) v vs
    ∙ ap (λ u. plus_scaled u (sum_of x (product_of c y)) v)
    (combination-plus_scaled field n c cs ds vs (All-tail (IsVector n) v vs vectors) symbol (omega arith) (omega arith))
    ∙ sym
    (ap₂ (λ p q. plus_scaled p c q) (combination-cons_any field n x cs v vs) (combination-cons_any field n y ds v vs)
    ∙ plus_scaled-plus_scaled field c y (plus_scaled left x v) right v symbol (length-combination n ds vs ∙ sym vector.count)
    ∙ ap (λ p. plus_scaled p (product_of c y) v) (plus_scaled-commutes field x c left v right)
    ∙ plus_scaled-sum field x (product_of c y) (plus_scaled left c right) v)

-- ---- spans, head by head

pub span-empty : (n : ℕ) (v : List ℕ) → InSpan n [] v → v ≡ replicate n 0
span-empty n v inside = sym inside.combine ∙ combination-nil n inside.coefficients

-- a vector of the span of the later ones, and a multiple of the first
pub span-head : (field : IsField) (n : ℕ) (w : List ℕ) (vs : List (List ℕ)) (v : List ℕ) → IsVector n w → InSpan n (w ∷ vs) v
    → (c : ℕ) × (u : List ℕ) × IsSymbol c × InSpan n vs u × (v ≡ plus_scaled u c w)
span-head field n w vs v vector inside = split inside.coefficients inside.are_symbols inside.combine
  where
    split : (cs : List ℕ) → IsVector (suc (length vs)) cs → combination_of n cs (w ∷ vs) ≡ v
        → (c : ℕ) × (u : List ℕ) × IsSymbol c × InSpan n vs u × (v ≡ plus_scaled u c w)
    split [] are combine = absurd (omega (arith, are.count))
    split (c ∷ cs) are combine = (
      c,
      combination_of n cs vs,
      All-head IsSymbol c cs are.symbols,
      record { coefficients = cs; are_symbols = record { count = omega (arith, are.count); symbols = All-tail IsSymbol c cs are.symbols }; combine = refl },
      sym combine ∙ combination-cons field n c cs w vs vector,
    )

pub span-head_from : (field : IsField) (n c : ℕ) (w : List ℕ) (vs : List (List ℕ)) (u : List ℕ) → IsVector n w → IsSymbol c → InSpan n vs u
    → InSpan n (w ∷ vs) (plus_scaled u c w)
span-head_from field n c w vs u vector symbol inside = record {
  coefficients = c ∷ inside.coefficients;
  are_symbols = IsVector-cons (length vs) c inside.coefficients symbol inside.are_symbols;
  combine = combination-cons field n c inside.coefficients w vs vector ∙ ap (λ x. plus_scaled x c w) inside.combine;
}

pub span-same : (n : ℕ) (vs : List (List ℕ)) (u v : List ℕ) → u ≡ v → InSpan n vs u → InSpan n vs v
span-same n vs u v same inside = subst (InSpan n vs) same inside

-- ---- spans, for vectors of n symbols

pub IsVector-span : (field : IsField) (n : ℕ) (vs : List (List ℕ)) (v : List ℕ) → All (IsVector n) vs → InSpan n vs v → IsVector n v
IsVector-span field n vs v vectors inside =
    subst (IsVector n) inside.combine (IsVector-combination field n inside.coefficients vs inside.are_symbols.symbols vectors)

pub span-zero : (field : IsField) (n : ℕ) (vs : List (List ℕ)) → All (IsVector n) vs → InSpan n vs (replicate n 0)
span-zero field n [] vectors = record { coefficients = []; are_symbols = IsVector-nil; combine = combination-nil n [] }
span-zero field n (w ∷ vs) vectors =
    span-same n (w ∷ vs) (plus_scaled (replicate n 0) 0 w) (replicate n 0) (plus_scaled-zero field (replicate n 0) w)
    (span-head_from field n 0 w vs (replicate n 0) (All-head (IsVector n) w vs vectors) (lit< tt)
    (span-zero field n vs (All-tail (IsVector n) w vs vectors)))

-- a span is that of fewer vectors too
pub span-skip : (field : IsField) (n : ℕ) (w : List ℕ) (vs : List (List ℕ)) (v : List ℕ) → IsVector n w → InSpan n vs v → InSpan n (w ∷ vs) v
span-skip field n w vs v vector inside =
    span-same n (w ∷ vs) (plus_scaled v 0 w) v (plus_scaled-zero field v w) (span-head_from field n 0 w vs v vector (lit< tt) inside)

pub span-plus_scaled : (field : IsField) (n c : ℕ) (vs : List (List ℕ)) (u v : List ℕ) → All (IsVector n) vs → IsSymbol c
    → InSpan n vs u → InSpan n vs v → InSpan n vs (plus_scaled u c v)
span-plus_scaled field n c vs u v vectors symbol first second = record {
  coefficients = plus_scaled first.coefficients c second.coefficients;
  are_symbols = IsVector-plus_scaled field (length vs) c first.coefficients second.coefficients first.are_symbols symbol;
  combine =
      combination-plus_scaled field n c first.coefficients second.coefficients vs vectors symbol first.are_symbols.count second.are_symbols.count
      ∙ ap₂ (λ x y. plus_scaled x c y) first.combine second.combine;
}

pub span-scaled : (field : IsField) (n c : ℕ) (vs : List (List ℕ)) (v : List ℕ) → All (IsVector n) vs → IsSymbol c
    → InSpan n vs v → InSpan n vs (scaled c v)
span-scaled field n c vs v vectors symbol inside =
    let vector = IsVector-span field n vs v vectors inside in
    span-same n vs (plus_scaled (replicate n 0) c v) (scaled c v) (zeros-plus_scaled field n c v vector.count)
    (span-plus_scaled field n c vs (replicate n 0) v vectors symbol (span-zero field n vs vectors) inside)

pub span-member : (field : IsField) (n : ℕ) (front back : List (List ℕ)) (v : List ℕ) → All (IsVector n) (front ++ v ∷ back)
    → InSpan n (front ++ v ∷ back) v
span-member field n [] back v vectors =
    let vector = All-head (IsVector n) v back vectors in
    span-same n (v ∷ back) (plus_scaled (replicate n 0) 1 v) v
    (zeros-plus_scaled field n 1 v vector.count ∙ scaled-one field v vector.symbols)
    (span-head_from field n 1 v back (replicate n 0) vector (lit< tt) (span-zero field n back (All-tail (IsVector n) v back vectors)))
span-member field n (w ∷ front) back v vectors =
    span-skip field n w (front ++ v ∷ back) v (All-head (IsVector n) w (front ++ v ∷ back) vectors)
    (span-member field n front back v (All-tail (IsVector n) w (front ++ v ∷ back) vectors))

pub span-closed : (field : IsField) (n : ℕ) (vs ws : List (List ℕ)) (v : List ℕ) → All (IsVector n) vs → All (IsVector n) ws
    → All (InSpan n ws) vs → InSpan n vs v → InSpan n ws v
span-closed field n [] ws v vectors others inner inside =
    span-same n ws (replicate n 0) v (sym (span-empty n v inside)) (span-zero field n ws others)
span-closed field n (w ∷ vs) ws v vectors others inner inside =
    let part = span-head field n w vs v (All-head (IsVector n) w vs vectors) inside in
    span-same n ws (plus_scaled part.1 part.0 w) v (sym part.4)
    (span-plus_scaled field n part.0 ws part.1 w others part.2
    (span-closed field n vs ws part.1 (All-tail (IsVector n) w vs vectors) others (All-tail (InSpan n ws) w vs inner) part.3)
    (All-head (InSpan n ws) w vs inner))

pub span-grows : (field : IsField) (n : ℕ) (vs ws : List (List ℕ)) (v : List ℕ) → All (IsVector n) (vs ++ ws) → InSpan n vs v → InSpan n (vs ++ ws) v
span-grows field n [] ws v vectors inside = span-same n ws (replicate n 0) v (sym (span-empty n v inside)) (span-zero field n ws vectors)
span-grows field n (w ∷ vs) ws v vectors inside =
    let vector = All-head (IsVector n) w (vs ++ ws) vectors in
    let part = span-head field n w vs v vector inside in
    span-same n (w ∷ vs ++ ws) (plus_scaled part.1 part.0 w) v (sym part.4)
    (span-head_from field n part.0 w (vs ++ ws) part.1 vector part.2
    (span-grows field n vs ws part.1 (All-tail (IsVector n) w (vs ++ ws) vectors) part.3))

-- ---- one vector more, at the end

pub span-last : (field : IsField) (n : ℕ) (vs : List (List ℕ)) (w v : List ℕ) → All (IsVector n) vs → IsVector n w
    → InSpan n (vs ++ w ∷ []) v → (c : ℕ) × IsSymbol c × InSpan n vs (plus_scaled v c w)
span-last field n [] w v vectors vector inside =
    let part = span-head field n w [] v vector inside in (
      part.0,
      part.2,
      span-same n [] part.1 (plus_scaled v part.0 w)
          (sym (ap (λ x. plus_scaled x part.0 w) part.4 ∙ plus_scaled-twice field part.0 part.1 w)) part.3,
    )
span-last field n (u ∷ vs) w v vectors vector inside =
    let head = All-head (IsVector n) u vs vectors in
    let part = span-head field n u (vs ++ w ∷ []) v head inside in
    let rest = span-last field n vs w part.1 (All-tail (IsVector n) u vs vectors) vector part.3 in (
      rest.0,
      rest.1,
      span-same n (u ∷ vs) (plus_scaled (plus_scaled part.1 rest.0 w) part.0 u) (plus_scaled v rest.0 w)
          (plus_scaled-commutes field rest.0 part.0 part.1 w u ∙ ap (λ x. plus_scaled x rest.0 w) (sym part.4))
          (span-head_from field n part.0 u vs (plus_scaled part.1 rest.0 w) head part.2 rest.2),
    )

pub span-last_from : (field : IsField) (n c : ℕ) (vs : List (List ℕ)) (w v : List ℕ) → All (IsVector n) vs → IsVector n w → IsVector n v
    → IsSymbol c → InSpan n vs (plus_scaled v c w) → InSpan n (vs ++ w ∷ []) v
span-last_from field n c vs w v vectors vector own symbol inside =
    let all = All-append (IsVector n) vs (w ∷ []) vectors (All-cons (IsVector n) w [] vector (All-nil (IsVector n))) in
    span-same n (vs ++ w ∷ []) (plus_scaled (plus_scaled v c w) c w) v (plus_scaled-twice field c v w)
    (span-plus_scaled field n c (vs ++ w ∷ []) (plus_scaled v c w) w all symbol
    (span-grows field n vs (w ∷ []) (plus_scaled v c w) all inside)
    (span-member field n vs [] w all))

-- ---- the first k symbols

pub IsVector-take : (k s : ℕ) (v : List ℕ) → IsVector (k + s) v → IsVector k (take k v)
IsVector-take k s v vector = record {
  count = length-take-le k v (omega (arith, vector.count));
  symbols = All-take IsSymbol k v vector.symbols;
}

pub take-combination : (field : IsField) (k s : ℕ) (cs : List ℕ) (vs : List (List ℕ)) → All (IsVector (k + s)) vs
    → length cs ≡ length vs → combination_of k cs (map (take k) vs) ≡ take k (combination_of (k + s) cs vs)
take-combination field k s cs [] vectors same =
    combination-nil k cs ∙ sym (take-replicate k (k + s) 0 (omega arith)) ∙ ap (take k) (sym (combination-nil (k + s) cs))
take-combination field k s [] (v ∷ vs) vectors same = absurd (omega arith)
take-combination field k s (c ∷ cs) (v ∷ vs) vectors same =
    let vector = All-head (IsVector (k + s)) v vs vectors in
    combination-cons field k c cs (take k v) (map (take k) vs) (IsVector-take k s v vector)
    ∙ ap (λ x. plus_scaled x c (take k v)) (take-combination field k s cs vs (All-tail (IsVector (k + s)) v vs vectors) (omega arith))
    ∙ sym (take-plus_scaled k c (combination_of (k + s) cs vs) v)
    ∙ ap (take k) (sym (combination-cons field (k + s) c cs v vs vector))

pub span-take : (field : IsField) (k s : ℕ) (vs : List (List ℕ)) (v : List ℕ) → All (IsVector (k + s)) vs → InSpan (k + s) vs v
    → InSpan k (map (take k) vs) (take k v)
span-take field k s vs v vectors inside = record {
  coefficients = inside.coefficients;
  are_symbols = record { count = inside.are_symbols.count ∙ sym (length-map vs (take k)); symbols = inside.are_symbols.symbols };
  combine = take-combination field k s inside.coefficients vs vectors inside.are_symbols.count ∙ ap (take k) inside.combine;
}
