use Rattle.std.proofs.Common.{◌≡◌, ℕ, ◌<◌, List, length, get_or, set, ap, sym, ◌∙◌, arith}
use Rattle.std.proofs.lemmas.List.{get_or-set_same}
use Rattle.gf16.specs.Field.{IsField, sum_of}
use Rattle.linear_spec.specs.Combination.{combination_of}
use Rattle.linear_spec.specs.Packet.{payloads_of}
use Rattle.recode.specs.Draws.{draw_coefficients, pollution_of}
use Rattle.recode.proofs.DrawLemmas.{coefficients-vector, length-combination, pollution-not_zero}
use Rattle.recode.proofs.laws.truth.Goals as goal

-- symbols stay the same only where the change of the first is zero
no_change : IsField → (change : ℕ) (symbols : List ℕ) → 0 < length symbols
    → symbols ≡ set symbols 0 (sum_of (get_or symbols 0 0) change) → change ≡ 0
no_change field change symbols some same =
    let first = get_or symbols 0 0 in
    let at_first : first ≡ sum_of first change =
    ap (λ (xs : List ℕ). get_or xs 0 0) same ∙ get_or-set_same symbols 0 (sum_of first change) 0 some in
    sym (field.zero_sum change) ∙ ap (λ a. sum_of a change) (sym (field.sum_self first)) ∙ field.sum_associates first first change
    ∙ ap (sum_of first) (sym at_first) ∙ field.sum_self first

pub returns : goal.returns
returns c = record {
  drawn = λ k s generation link q key front blocks fit true count vectors.
      let vector = coefficients-vector key link q (length front) in
      c.combinations.ensures.truth k s (draw_coefficients key link q (length front)) front blocks vector.symbols vector.count fit true count vectors;
  polluted = λ k s generation link q key front blocks fit true count vectors some is_true.
      let coefficients = draw_coefficients key link q (length front) in
      let vector = coefficients-vector key link q (length front) in
      let payload = combination_of s coefficients (payloads_of front) in
      let drawn = c.combinations.ensures.truth k s coefficients front blocks vector.symbols vector.count fit true count vectors in
      let long : 0 < length payload = omega (arith, length-combination s coefficients (payloads_of front)) in
      pollution-not_zero key link q (no_change c.field.ensures (pollution_of key link q) payload long (sym drawn ∙ is_true));
}
