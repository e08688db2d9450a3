-- One step of a reduction, part by part, and what the first symbol that is not 0 tells.
use Rattle.std.proofs.Common.{◌≡◌, ◌≢◌, ℕ, ◌<◌, List, [], ◌∷◌, ◌++◌, length, get_or, replicate, not, true, eqb, Option, Some, None, IsNone, IfSome, MatchOption, refl, sym, ap, ◌∙◌, subst, arith}
use Rattle.std.proofs.lemmas.List.{get_or_append_left, get_or-replicate}
use Rattle.std.proofs.lemmas.List.Sums.{passes_at_first}
use Rattle.gf16.specs.declared.field.Gf.{Gf}
use Rattle.gf16.specs.Field.{sum_of, product_of}
use Rattle.gf16.specs.Sums.{plus_scaled}
use Rattle.linear_spec.specs.declared.packet.Packet.{Packet}
use Rattle.linear_spec.specs.Packet.{vector_of}
use Rattle.linear_spec.specs.Rows.{first_nonzero, pivot_of}
use Rattle.linear_spec.proofs.VectorLaws.{append-plus_scaled}

first_some : (v : List ℕ) → first_nonzero v < length v → get_or v (first_nonzero v) 0 ≢ 0
first_some v below none =
    let passes : not (eqb (get_or v (first_nonzero v) 0) 0) ≡ true = passes_at_first (λ symbol. not (eqb symbol 0)) v 0 below in
    let fails = ap (λ symbol. not (eqb symbol 0)) none in
    cc

-- where a symbol is not 0, not all are
pub not_all_zero : (v : List ℕ) → first_nonzero v < length v → v ≢ replicate (length v) 0
not_all_zero v below zeros =
    first_some v below (ap (λ u. get_or u (first_nonzero v) 0) zeros ∙ get_or-replicate (length v) (first_nonzero v) 0 0 below)

pub inverse_at : (v : List ℕ) (place : ℕ) (r : Option Gf) → place ≡ first_nonzero v → place < length v → (IsNone r → get_or v place 0 ≡ 0)
    → IfSome r (λ inverse. product_of (get_or v place 0) inverse.0 ≡ 1)
    → MatchOption r (v ≡ replicate (length v) 0) (λ inverse. product_of (get_or v (first_nonzero v) 0) inverse.0 ≡ 1)
inverse_at v place None same below none value =
    absurd (first_some v (subst (λ p. p < length v) same below) (sym (ap (λ p. get_or v p 0) same) ∙ none refl))
inverse_at v place (Some inverse) same below none value = ap (λ p. product_of (get_or v p 0) inverse.0) (sym same) ∙ value

pub reduced_by : (packet row : Packet) (place factor : ℕ) (coeffs payload : List ℕ) → length row.coeffs ≡ length packet.coeffs
    → place ≡ pivot_of row → place < length row.coeffs → factor ≡ get_or packet.coeffs place 0
    → coeffs ≡ plus_scaled packet.coeffs factor row.coeffs → payload ≡ plus_scaled packet.payload factor row.payload
    → coeffs ++ payload ≡ plus_scaled (vector_of packet) (get_or (vector_of packet) (pivot_of row) 0) (vector_of row)
reduced_by packet row place factor coeffs payload same pivot below factor_is coeffs_are payload_is =
    let within : place < length packet.coeffs = omega arith in
    let at : get_or (vector_of packet) (pivot_of row) 0 ≡ factor =
    ap (λ p. get_or (vector_of packet) p 0) (sym pivot) ∙ get_or_append_left packet.coeffs packet.payload 0 place within ∙ sym factor_is in
    ap (λ u. u ++ payload) coeffs_are ∙ ap (λ u. plus_scaled packet.coeffs factor row.coeffs ++ u) payload_is
    ∙ sym (append-plus_scaled factor packet.coeffs row.coeffs packet.payload row.payload (sym same))
    ∙ ap (λ c. plus_scaled (vector_of packet) c (vector_of row)) (sym at)
