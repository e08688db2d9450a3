use Rattle.std.proofs.Common.{ℕ, List, [], ◌∷◌, length, get_or, set, sym, subst, ◌∙◌, arith}
use Rattle.std.proofs.lemmas.List.{length-map, length-set}
use Rattle.std.proofs.lemmas.List.Elements.{All-set}
use Rattle.gf16.specs.Field.{IsField, IsSymbol, sum_of}
use Rattle.linear_spec.specs.Symbols.{AreSymbols, IsVector}
use Rattle.linear_spec.specs.Combination.{combination_of}
use Rattle.linear_spec.specs.Packet.{coefficients_of, payloads_of, vector_of}
use Rattle.recode.specs.Draws.{draw_coefficients, pollution_of}
use Rattle.recode.proofs.DrawLemmas.{coefficients-vector, coefficients_fit, payloads_fit, pollution-symbol}
use Rattle.recode.proofs.laws.spans.Goals as goal

-- the first symbol, or 0 where there is none
first-symbol : (symbols : List ℕ) → AreSymbols symbols → IsSymbol (get_or symbols 0 0)
first-symbol [] all = omega arith
first-symbol (first ∷ rest) all = all 0 0 (omega arith)

-- a change of the first symbol leaves symbols
changed-vector : IsField → (n change : ℕ) (symbols : List ℕ) → IsSymbol change → IsVector n symbols
    → IsVector n (set symbols 0 (sum_of (get_or symbols 0 0) change))
changed-vector field n change symbols is vector =
    let changed = sum_of (get_or symbols 0 0) change in
    record {
      count = length-set symbols 0 changed ∙ vector.count;
      symbols = All-set IsSymbol symbols 0 changed (field.sum_closed (get_or symbols 0 0) change (first-symbol symbols vector.symbols) is) vector.symbols;
    }

pub returns : goal.returns
returns c = record {
  fits = λ k s generation link q key front fit.
      let coefficients = draw_coefficients key link q (length front) in
      let vector = coefficients-vector key link q (length front) in
      record {
        coeffs = c.combinations.ensures.is_vector k coefficients (coefficients_of front) vector.symbols (coefficients_fit k s front fit);
        payload = c.combinations.ensures.is_vector s coefficients (payloads_of front) vector.symbols (payloads_fit k s front fit);
      };
  span = λ k s generation link q key front fit.
      let coefficients = draw_coefficients key link q (length front) in
      record {
        coefficients = coefficients;
        are_symbols = subst (λ n. IsVector n coefficients) (sym (length-map front vector_of)) (coefficients-vector key link q (length front));
        combine = c.combinations.ensures.packets k s coefficients front fit;
      };
  polluted = λ k s generation link q key front fit.
      let coefficients = draw_coefficients key link q (length front) in
      let vector = coefficients-vector key link q (length front) in
      record {
        coeffs = c.combinations.ensures.is_vector k coefficients (coefficients_of front) vector.symbols (coefficients_fit k s front fit);
        payload = changed-vector c.field.ensures s (pollution_of key link q) (combination_of s coefficients (payloads_of front)) (pollution-symbol key link q)
            (c.combinations.ensures.is_vector s coefficients (payloads_of front) vector.symbols (payloads_fit k s front fit));
      };
}
