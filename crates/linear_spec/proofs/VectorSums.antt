-- Equations of sums and multiples of vectors that the reduction by rows needs.
use Rattle.std.proofs.Common.{◌≡◌, ◌⊎◌, ℕ, zero, suc, ◌<◌, ◌≤◌, List, [], ◌∷◌, length, get_or, replicate, refl, sym, ap, ◌∙◌, ⊎_elim, lit<, arith}
use Rattle.std.proofs.lemmas.List.{get_or_past}
use Rattle.std.proofs.lemmas.List.Elements.{All-head, All-tail}
use Rattle.gf16.specs.Field.{IsSymbol, IsField, sum_of, product_of}
use Rattle.gf16.specs.Sums.{plus_scaled, scaled}
use Rattle.linear_spec.specs.Symbols.{AreSymbols, IsVector}
use Rattle.linear_spec.proofs.VectorLaws.{length-plus_scaled, get_or-plus_scaled, zeros-plus_scaled, plus_scaled-twice, plus_scaled-commutes, plus_scaled-plus_scaled, scaled-plus_scaled, scaled-one}

pub get_or-zero : (n i : ℕ) → get_or {A = ℕ} (replicate n 0) i 0 ≡ 0
get_or-zero zero i = refl
get_or-zero (suc n) zero = refl
get_or-zero (suc n) (suc i) = get_or-zero n i

-- a symbol of a vector, or 0 past its end
pub symbol_at : (n : ℕ) (v : List ℕ) (i : ℕ) → IsVector n v → IsSymbol (get_or v i 0)
symbol_at n v i by_v = at v i by_v.symbols
  where
    at : (v : List ℕ) (i : ℕ) → AreSymbols v → IsSymbol (get_or v i 0)
    at [] i fit = lit< tt
    at (x ∷ v) zero fit = All-head IsSymbol x v fit
    at (x ∷ v) (suc i) fit = at v i (All-tail IsSymbol x v fit)

module _ (field : IsField) where
  -- a vector's symbol at a place, after a multiple of another is added
  pub at_plus_scaled : (n c : ℕ) (u v : List ℕ) (i : ℕ) → IsVector n u → IsVector n v
      → get_or (plus_scaled u c v) i 0 ≡ sum_of (get_or u i 0) (product_of c (get_or v i 0))
  at_plus_scaled n c u v i by_u by_v =
      let count = by_u.count in
      let other = by_v.count in
      let cases : (i < length u) ⊎ (length u ≤ i) = grind arith in
      ⊎_elim
      (λ below. get_or-plus_scaled field c i u v below)
      (λ past.
      get_or_past (plus_scaled u c v) i 0 (omega (arith, length-plus_scaled c u v))
      ∙ sym (ap (λ x. sum_of x (product_of c (get_or v i 0))) (get_or_past u i 0 past)
      ∙ ap (λ y. sum_of 0 (product_of c y)) (get_or_past v i 0 (omega arith)) ∙ ap (sum_of 0) (field.product_zero c)))
      cases

  -- 0 + v = v
  zeros_plus : (n : ℕ) (v : List ℕ) → IsVector n v → plus_scaled (replicate n 0) 1 v ≡ v
  zeros_plus n v by_v = zeros-plus_scaled field n 1 v by_v.count ∙ scaled-one field v by_v.symbols

  pub plus_self : (n : ℕ) (v : List ℕ) → IsVector n v → plus_scaled v 1 v ≡ replicate n 0
  plus_self n v by_v =
      ap (λ u. plus_scaled u 1 v) (sym (zeros_plus n v by_v)) ∙ plus_scaled-twice field 1 (replicate n 0) v

  -- u + (u + v) = v
  pub plus_twice : (n : ℕ) (u v : List ℕ) → IsVector n u → IsVector n v → plus_scaled u 1 (plus_scaled u 1 v) ≡ v
  plus_twice n u v by_u by_v =
      plus_scaled-plus_scaled field 1 1 u u v (lit< tt) (by_u.count ∙ sym by_v.count)
      ∙ ap (λ c. plus_scaled (plus_scaled u 1 u) c v) (field.product_one 1)
      ∙ ap (λ w. plus_scaled w 1 v) (plus_self n u by_u) ∙ zeros_plus n v by_v

  -- ((u + c w) + v) + c w = u + v
  pub plus_around : (c : ℕ) (u v w : List ℕ) → plus_scaled (plus_scaled (plus_scaled u c w) 1 v) c w ≡ plus_scaled u 1 v
  plus_around c u v w =
      ap (λ x. plus_scaled x c w) (plus_scaled-commutes field c 1 u w v) ∙ plus_scaled-twice field c (plus_scaled u 1 v) w

  -- c (v + u) = c u + c v
  pub scaled-plus : (n c : ℕ) (u v : List ℕ) → IsSymbol c → IsVector n u → IsVector n v
      → scaled c (plus_scaled v 1 u) ≡ plus_scaled (scaled c u) c v
  scaled-plus n c u v by_c by_u by_v =
      scaled-plus_scaled field c 1 v u by_c
      ∙ ap (λ d. plus_scaled (scaled c v) d u) (field.product_one c)
      ∙ ap (λ w. plus_scaled w c u) (sym (zeros-plus_scaled field n c v by_v.count))
      ∙ plus_scaled-commutes field c c (replicate n 0) v u
      ∙ ap (λ w. plus_scaled w c v) (zeros-plus_scaled field n c u by_u.count)

  -- c (u + d v) = v + c u, where d c = 1
  pub scaled-plus_inverse : (n c d : ℕ) (u v : List ℕ) → IsSymbol c → IsSymbol d → product_of d c ≡ 1 → IsVector n u → IsVector n v
      → scaled c (plus_scaled u d v) ≡ plus_scaled v c u
  scaled-plus_inverse n c d u v by_c by_d inverse by_u by_v =
      scaled-plus_scaled field c d u v by_c
      ∙ ap (λ e. plus_scaled (scaled c u) e v) (field.product_commutes c d by_c by_d ∙ inverse)
      ∙ ap (λ w. plus_scaled w 1 v) (sym (zeros-plus_scaled field n c u by_u.count))
      ∙ plus_scaled-commutes field c 1 (replicate n 0) u v
      ∙ ap (λ w. plus_scaled w c u) (zeros_plus n v by_v)
