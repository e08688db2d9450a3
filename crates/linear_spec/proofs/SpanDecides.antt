-- Whether a vector lies in a span can be decided, and so exactly one case of a packet holds.
use Rattle.std.proofs.Common.{◌≡◌, ◌⊎◌, ℕ, zero, suc, ◌+◌, ◌^◌, ◌<◌, List, [], ◌∷◌, replicate, refl, sym, ap, ◌∙◌, subst, ⊎_elim, inl, inr, arith}
use Rattle.std.specs.List.{All}
use Rattle.std.proofs.lemmas.List.Elements.{All-head, All-tail}
use Rattle.gf16.specs.Field.{IsField}
use Rattle.gf16.specs.Sums.{plus_scaled}
use Rattle.linear_spec.specs.declared.packet.Packet.{Packet}
use Rattle.linear_spec.specs.Symbols.{IsVector}
use Rattle.linear_spec.specs.Span.{InSpan}
use Rattle.linear_spec.specs.Packet.{Fits, vector_of, vectors_of, coefficients_of}
use Rattle.linear_spec.specs.Cases.{IsFresh, IsWithin, IsConflicting, IsOneCase}
use Rattle.linear_spec.proofs.SpanLaws.{IsVector-plus_scaled, plus_scaled-twice, span-head, span-head_from, span-empty, span-zero}
use Rattle.linear_spec.proofs.RowSpans.{IsVector-vector, IsVector-vectors, IsVector-coefficients, span-coefficients, take-vector}

-- whether some number below b has a property that can be decided below b
some_below : (P : ℕ → Type 0) (b : ℕ) → ((c : ℕ) → c < b → Dec (P c)) → Dec ((c : ℕ) × (c < b) × P c)
some_below P zero each = no (λ some. let below = some.1 in absurd (omega arith))
some_below P (suc b) each = join (each b (omega arith)) (some_below P b (λ c h. each c (omega arith)))
  where
    join : Dec (P b) → Dec ((c : ℕ) × (c < b) × P c) → Dec ((c : ℕ) × (c < suc b) × P c)
    join (yes here) rest = yes (b, omega arith, here)
    join (no not_here) (yes some) = let below = some.1 in yes (some.0, omega arith, some.2)
    join (no not_here) (no none) = no (λ some. cases some.0 some.1 some.2)
      where
        cases : (c : ℕ) → c < suc b → P c → ⊥
        cases c below holds =
            let at : (c < b) ⊎ (c ≡ b) = grind arith in
            ⊎_elim (λ l. none (c, l, holds)) (λ e. not_here (subst P e holds)) at

is_zero_vector : (n : ℕ) (v : List ℕ) → Dec (v ≡ replicate n 0)
is_zero_vector zero [] = yes refl
is_zero_vector zero (x ∷ v) = no (λ e. cc)
is_zero_vector (suc n) [] = no (λ e. cc)
is_zero_vector (suc n) (suc x ∷ v) = no (λ e. cc)
is_zero_vector (suc n) (zero ∷ v) = join (is_zero_vector n v)
  where
    join : Dec (v ≡ replicate n 0) → Dec (0 ∷ v ≡ 0 ∷ replicate n 0)
    join (yes e) = yes (ap (λ u. 0 ∷ u) e)
    join (no other) = no (λ e. other cc)

pub span_decides : (field : IsField) (n : ℕ) (vs : List (List ℕ)) (v : List ℕ) → All (IsVector n) vs → IsVector n v → Dec (InSpan n vs v)
span_decides field n [] v are by_v = join (is_zero_vector n v)
  where
    join : Dec (v ≡ replicate n 0) → Dec (InSpan n [] v)
    join (yes e) = yes (subst (InSpan n []) (sym e) (span-zero field n [] are))
    join (no other) = no (λ span. other (span-empty n v span))
span_decides field n (w ∷ vs) v are by_v =
    join (some_below (λ c. InSpan n vs (plus_scaled v c w)) (2 ^ 16)
    (λ c h. span_decides field n vs (plus_scaled v c w) others (IsVector-plus_scaled field n c v w by_v h)))
  where
    by_w : IsVector n w
    by_w = All-head (IsVector n) w vs are

    others : All (IsVector n) vs
    others = All-tail (IsVector n) w vs are

    join : Dec ((c : ℕ) × (c < 2 ^ 16) × InSpan n vs (plus_scaled v c w)) → Dec (InSpan n (w ∷ vs) v)
    join (yes some) =
        yes (subst (InSpan n (w ∷ vs)) (plus_scaled-twice field some.0 v w) (span-head_from field n some.0 w vs (plus_scaled v some.0 w) by_w some.1 some.2))
    join (no none) = no (λ span.
        let split = span-head field n w vs v by_w span in
        none (split.0, split.2, subst (InSpan n vs) (sym (ap (λ u. plus_scaled u split.0 w) split.4 ∙ plus_scaled-twice field split.0 split.1 w)) split.3))

pub within_follows : (field : IsField) (k s : ℕ) (front : List Packet) (packet : Packet) → All (Fits k s) front → Fits k s packet
    → IsWithin k s front packet → InSpan k (coefficients_of front) packet.coeffs
within_follows field k s front packet fit fits within =
    subst (InSpan k (coefficients_of front)) (take-vector k s packet fits) (span-coefficients k s field front (vector_of packet) fit within)

pub one_case : (field : IsField) (k s : ℕ) (front : List Packet) (packet : Packet) → All (Fits k s) front → Fits k s packet → IsOneCase k s front packet
one_case field k s front packet fit fits = record {
  some = cases
      (span_decides field k (coefficients_of front) packet.coeffs (IsVector-coefficients k s front fit) fits.coeffs)
      (span_decides field (k + s) (vectors_of front) (vector_of packet) (IsVector-vectors k s front fit) (IsVector-vector k s packet fits));
  within_is_not_fresh = λ within fresh. fresh (within_follows field k s front packet fit fits within);
}
  where
    cases : Dec (InSpan k (coefficients_of front) packet.coeffs) → Dec (IsWithin k s front packet)
        → IsFresh k front packet ⊎ (IsWithin k s front packet ⊎ IsConflicting k s front packet)
    cases (no fresh) within = inl fresh
    cases (yes follows) (yes within) = inr (inl within)
    cases (yes follows) (no other) = inr (inr (λ fresh. fresh follows, other))
