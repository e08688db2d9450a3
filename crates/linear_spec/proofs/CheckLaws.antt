-- Weighted sums of vectors are linear, so the checks are.
use Rattle.std.proofs.Common.{◌≡◌, ℕ, zero, suc, ◌*◌, ◌<◌, List, [], ◌∷◌, length, drop, replicate, map, refl, ap, ap₂, sym, ◌∙◌, arith}
use Rattle.std.specs.List.{All}
use Rattle.std.proofs.lemmas.List.Elements.{All-nil, All-cons, All-head, All-tail, All-take, All-drop}
use Rattle.gf16.specs.Field.{IsSymbol, IsField, sum_of, product_of}
use Rattle.gf16.specs.Sums.{plus_scaled, dot_of}
use Rattle.linear_spec.specs.declared.packet.Packet.{Packet}
use Rattle.linear_spec.specs.declared.equations.Equations.{Equations}
use Rattle.linear_spec.specs.Symbols.{AreSymbols, IsVector}
use Rattle.linear_spec.specs.Combination.{combination_of}
use Rattle.linear_spec.specs.Packet.{Fits, IsTrueTo, coefficients_of, payloads_of}
use Rattle.linear_spec.specs.Passing.{AreEquations, IsTestable, Passes, HaveSumsOf, weights_of, sums_of}
use Rattle.linear_spec.proofs.SpanLaws.{combination-nil, combination-none, combination-cons_any, length-combination}

module _ (field : IsField) where
  -- sums of sums, regrouped
  sum-regroups : (a b d e : ℕ) → sum_of (sum_of a b) (sum_of d e) ≡ sum_of (sum_of a d) (sum_of b e)
  sum-regroups a b d e =
      field.sum_associates a b (sum_of d e)
      ∙ ap (sum_of a)
      (sym (field.sum_associates b d e) ∙ ap (λ x. sum_of x e) (field.sum_commutes b d) ∙ field.sum_associates d b e)
      ∙ sym (field.sum_associates a d (sum_of b e))

  -- a factor comes out of a product
  product-comes_out : (w c y : ℕ) → IsSymbol w → IsSymbol c → product_of w (product_of c y) ≡ product_of c (product_of w y)
  product-comes_out w c y by_w by_c =
      sym (field.product_associates w c y by_w) ∙ ap (λ x. product_of x y) (field.product_commutes w c by_w by_c)
      ∙ field.product_associates c w y by_c

  -- nothing is added by a multiple of nothing
  none-added : (c : ℕ) → 0 ≡ sum_of 0 (product_of c 0)
  none-added c = sym (ap (sum_of 0) (field.product_zero c) ∙ field.sum_zero 0)

  -- ---- a weighted sum is linear in the vector, and in the weights

  dot-zeros : (n : ℕ) (w : List ℕ) → dot_of w (replicate n 0) ≡ 0
  dot-zeros n [] = refl
  dot-zeros zero (x ∷ w) = refl
  dot-zeros (suc n) (x ∷ w) = ap₂ sum_of (field.product_zero x) (dot-zeros n w) ∙ field.sum_zero 0

  zeros-dot : (n : ℕ) (v : List ℕ) → dot_of (replicate n 0) v ≡ 0
  zeros-dot zero v = refl
  zeros-dot (suc n) [] = refl
  zeros-dot (suc n) (x ∷ v) = ap₂ sum_of (field.zero_product x) (zeros-dot n v) ∙ field.sum_zero 0

  dot-plus_scaled : (c : ℕ) (w u v : List ℕ) → IsSymbol c → AreSymbols w → length u ≡ length v
      → dot_of w (plus_scaled u c v) ≡ sum_of (dot_of w u) (product_of c (dot_of w v))
  dot-plus_scaled c [] u v symbol symbols same = none-added c
  dot-plus_scaled c (x ∷ w) [] [] symbol symbols same = none-added c
  dot-plus_scaled c (x ∷ w) [] (z ∷ v) symbol symbols same = absurd (omega arith)
  dot-plus_scaled c (x ∷ w) (y ∷ u) [] symbol symbols same = absurd (omega arith)
  dot-plus_scaled c (x ∷ w) (y ∷ u) (z ∷ v) symbol symbols same =
      ap₂ sum_of
      (field.product_distributes x y (product_of c z)
      ∙ ap (sum_of (product_of x y)) (product-comes_out x c z (All-head IsSymbol x w symbols) symbol))
      (dot-plus_scaled c w u v symbol (All-tail IsSymbol x w symbols) (omega arith))
      ∙ sum-regroups (product_of x y) (product_of c (product_of x z)) (dot_of w u) (product_of c (dot_of w v))
      ∙ ap (sum_of (sum_of (product_of x y) (dot_of w u))) (sym (field.product_distributes c (product_of x z) (dot_of w v)))

  plus_scaled-dot : (c : ℕ) (u v z : List ℕ) → IsSymbol c → length u ≡ length v
      → dot_of (plus_scaled u c v) z ≡ sum_of (dot_of u z) (product_of c (dot_of v z))
  plus_scaled-dot c [] [] z symbol same = none-added c
  plus_scaled-dot c [] (y ∷ v) z symbol same = absurd (omega arith)
  plus_scaled-dot c (x ∷ u) [] z symbol same = absurd (omega arith)
  plus_scaled-dot c (x ∷ u) (y ∷ v) [] symbol same = none-added c
  plus_scaled-dot c (x ∷ u) (y ∷ v) (a ∷ z) symbol same =
      ap₂ sum_of
      (field.product_distributes_left x (product_of c y) a
      ∙ ap (sum_of (product_of x a)) (field.product_associates c y a symbol))
      (plus_scaled-dot c u v z symbol (omega arith))
      ∙ sum-regroups (product_of x a) (product_of c (product_of y a)) (dot_of u z) (product_of c (dot_of v z))
      ∙ ap (sum_of (sum_of (product_of x a) (dot_of u z))) (sym (field.product_distributes c (product_of y a) (dot_of v z)))

  -- the weighted sum of a combination is that of the weighted sums
  pub dot-combination : (n : ℕ) (w cs : List ℕ) (vs : List (List ℕ)) → AreSymbols w → AreSymbols cs → All (IsVector n) vs
      → dot_of w (combination_of n cs vs) ≡ dot_of cs (map (dot_of w) vs)
  dot-combination n w [] vs weights symbols vectors = ap (dot_of w) (combination-none n vs) ∙ dot-zeros n w
  dot-combination n w (c ∷ cs) [] weights symbols vectors = ap (dot_of w) (combination-nil n (c ∷ cs)) ∙ dot-zeros n w
  dot-combination n w (c ∷ cs) (v ∷ vs) weights symbols vectors =
      ap (dot_of w) (combination-cons_any field n c cs v vs)
      ∙ dot-plus_scaled c w (combination_of n cs vs) v (All-head IsSymbol c cs symbols) weights
      (length-combination n cs vs ∙ sym (All-head (IsVector n) v vs vectors).count)
      ∙ ap (λ x. sum_of x (product_of c (dot_of w v)))
      (dot-combination n w cs vs weights (All-tail IsSymbol c cs symbols) (All-tail (IsVector n) v vs vectors))
      ∙ field.sum_commutes (dot_of cs (map (dot_of w) vs)) (product_of c (dot_of w v))

  pub combination-dot : (n : ℕ) (z cs : List ℕ) (vs : List (List ℕ)) → AreSymbols cs → All (IsVector n) vs
      → dot_of (combination_of n cs vs) z ≡ dot_of cs (map (λ v. dot_of v z) vs)
  combination-dot n z [] vs symbols vectors = ap (λ u. dot_of u z) (combination-none n vs) ∙ zeros-dot n z
  combination-dot n z (c ∷ cs) [] symbols vectors = ap (λ u. dot_of u z) (combination-nil n (c ∷ cs)) ∙ zeros-dot n z
  combination-dot n z (c ∷ cs) (v ∷ vs) symbols vectors =
      ap (λ u. dot_of u z) (combination-cons_any field n c cs v vs)
      ∙ plus_scaled-dot c (combination_of n cs vs) v z (All-head IsSymbol c cs symbols)
      (length-combination n cs vs ∙ sym (All-head (IsVector n) v vs vectors).count)
      ∙ ap (λ x. sum_of x (product_of c (dot_of v z)))
      (combination-dot n z cs vs (All-tail IsSymbol c cs symbols) (All-tail (IsVector n) v vs vectors))
      ∙ field.sum_commutes (dot_of cs (map (λ v. dot_of v z) vs)) (product_of c (dot_of v z))

-- ---- packets and equations

AreSymbols-weights : (equations : Equations) (check : ℕ) → AreEquations equations → AreSymbols (weights_of equations check)
AreSymbols-weights equations check are =
    All-take IsSymbol equations.s (drop (check * equations.s) equations.weights)
    (All-drop IsSymbol (check * equations.s) equations.weights are.weights.symbols)

-- the coefficients and the payloads of packets that fit
AreVectors-coefficients : (k s : ℕ) (packets : List Packet) → All (Fits k s) packets
    → All (IsVector k) (coefficients_of packets)
AreVectors-coefficients k s [] fit = All-nil (IsVector k)
AreVectors-coefficients k s (p ∷ ps) fit =
    All-cons (IsVector k) p.coeffs (coefficients_of ps) (All-head (Fits k s) p ps fit).coeffs
    (AreVectors-coefficients k s ps (All-tail (Fits k s) p ps fit))

AreVectors-payloads : (k s : ℕ) (packets : List Packet) → All (Fits k s) packets → All (IsVector s) (payloads_of packets)
AreVectors-payloads k s [] fit = All-nil (IsVector s)
AreVectors-payloads k s (p ∷ ps) fit =
    All-cons (IsVector s) p.payload (payloads_of ps) (All-head (Fits k s) p ps fit).payload
    (AreVectors-payloads k s ps (All-tail (Fits k s) p ps fit))

-- the two sides of a check, packet by packet
sides_agree : (equations : Equations) (generation check : ℕ) (packets : List Packet) → check < equations.checks
    → All (λ packet. packet.generation ≡ generation) packets → All (Passes equations) packets
    → map (dot_of (weights_of equations check)) (payloads_of packets)
    ≡ map (λ coeffs. dot_of coeffs (sums_of equations generation check)) (coefficients_of packets)
sides_agree equations generation check [] below one pass = refl
sides_agree equations generation check (p ∷ ps) below one pass =
    let of_one = All-head (λ (packet : Packet). packet.generation ≡ generation) p ps one in
    ap₂ (λ x xs. x ∷ xs)
    (All-head (Passes equations) p ps pass check below ∙ ap (λ g. dot_of p.coeffs (sums_of equations g check)) of_one)
    (sides_agree equations generation check ps below
    (All-tail (λ (packet : Packet). packet.generation ≡ generation) p ps one) (All-tail (Passes equations) p ps pass))

-- a combination of passing packets passes
pub combination-passes : IsField → (equations : Equations) (packets : List Packet) (cs : List ℕ) (combined : Packet)
    → AreEquations equations → AreSymbols cs → All (Fits equations.k equations.s) packets
    → All (λ packet. packet.generation ≡ combined.generation) packets → All (Passes equations) packets
    → combined.coeffs ≡ combination_of equations.k cs (coefficients_of packets)
    → combined.payload ≡ combination_of equations.s cs (payloads_of packets)
    → Passes equations combined
combination-passes field equations packets cs combined are symbols fit one pass coeffs payload = λ check below.
    let weights = weights_of equations check in
    let sums = sums_of equations combined.generation check in
    ap (dot_of weights) payload
    ∙ dot-combination field equations.s weights cs (payloads_of packets) (AreSymbols-weights equations check are) symbols
    (AreVectors-payloads equations.k equations.s packets fit)
    ∙ ap (dot_of cs) (sides_agree equations combined.generation check packets below one pass)
    ∙ sym (combination-dot field equations.k sums cs (coefficients_of packets) symbols
    (AreVectors-coefficients equations.k equations.s packets fit))
    ∙ ap (λ u. dot_of u sums) (sym coeffs)

-- a packet that is true to blocks passes equations that have their sums
pub true-passes : IsField → (equations : Equations) (blocks : List (List ℕ)) (packet : Packet) → IsTestable equations packet
    → All (IsVector equations.s) blocks → HaveSumsOf equations packet.generation blocks → IsTrueTo equations.s blocks packet
    → Passes equations packet
true-passes field equations blocks packet testable vectors sums true = λ check below.
    let weights = weights_of equations check in
    ap (dot_of weights) (sym true)
    ∙ dot-combination field equations.s weights packet.coeffs blocks
    (AreSymbols-weights equations check testable.are_equations)
    testable.fits.coeffs.symbols vectors
    ∙ ap (dot_of packet.coeffs) (sym (sums check below))
