-- The weights of checks and the sums of a file are vectors.
use Rattle.std.proofs.Common.{ℕ, ◌*◌, List, [], ◌∷◌, get_or, lit<, arith}
use Rattle.std.specs.List.{flat_map, range_with_len}
use Rattle.std.proofs.lemmas.List.Elements.{All-append, All-head, All-map, All-nil, All-tail}
use Rattle.gf16.specs.Field.{IsField, IsSymbol, product_of}
use Rattle.gf16.specs.Sums.{dot_of}
use Rattle.linear_spec.specs.Symbols.{AreSymbols, IsVector}
use Rattle.generation.specs.Shape.{Dimensions, generations_of, symbols_per_block}
use Rattle.src_check.specs.Tickets.{check_sums_of, file_sums_of, generation_blocks_of, generation_sums_of}
use Rattle.src_check.specs.Weights.{check_weights_of, weight_of, weighted_sum_of, weights_of_checks}
use Rattle.src_check.proofs.Sums.{length_file_sums}
use Rattle.src_check.proofs.WeightCounts.{length_weights}

-- pieces of symbols, one after another
symbols_of_pieces : (f : ℕ → List ℕ) (places : List ℕ) → ((place : ℕ) → AreSymbols (f place)) → AreSymbols (flat_map f places)
symbols_of_pieces f [] each = All-nil IsSymbol
symbols_of_pieces f (place ∷ places) each =
    All-append IsSymbol (f place) (flat_map f places) (each place) (symbols_of_pieces f places each)

weight_is_symbol : (key : List ℕ) (check place : ℕ) → IsSymbol (weight_of key check place)
unfolding weight_of
weight_is_symbol key check place = omega arith

check_weights_are_symbols : (key : List ℕ) (s check : ℕ) → AreSymbols (check_weights_of key s check)
unfolding check_weights_of
check_weights_are_symbols key s check =
    All-map IsSymbol (weight_of key check) (range_with_len 0 s) (λ k e within. weight_is_symbol key check (get_or (range_with_len 0 s) k e))

pub IsVector-weights : (key : List ℕ) (s checks : ℕ) → IsVector (checks * s) (weights_of_checks key s checks)
unfolding weights_of_checks
IsVector-weights key s checks = record {
  count = length_weights key s checks;
  symbols = symbols_of_pieces (check_weights_of key s) (range_with_len 0 checks) (check_weights_are_symbols key s);
}

module _ (field : IsField) where
  dot_is_symbol : (weights block : List ℕ) → AreSymbols weights → IsSymbol (dot_of weights block)
  dot_is_symbol [] block symbols = lit< tt
  dot_is_symbol (weight ∷ weights) [] symbols = lit< tt
  dot_is_symbol (weight ∷ weights) (symbol ∷ block) symbols =
      field.sum_closed (product_of weight symbol) (dot_of weights block)
      (field.product_closed weight symbol (All-head IsSymbol weight weights symbols))
      (dot_is_symbol weights block (All-tail IsSymbol weight weights symbols))

  check_sums_are_symbols : (d : Dimensions) (file key : List ℕ) (g check : ℕ) → AreSymbols (check_sums_of d file key g check)
  check_sums_are_symbols d file key g check =
      let s = symbols_per_block d in
      All-map IsSymbol (weighted_sum_of key s check) (generation_blocks_of d file g)
      (λ k e within. dot_is_symbol (check_weights_of key s check) (get_or (generation_blocks_of d file g) k e) (check_weights_are_symbols key s check))

  generation_sums_are_symbols : (d : Dimensions) (file key : List ℕ) (checks g : ℕ) → AreSymbols (generation_sums_of d file key checks g)
  unfolding generation_sums_of
  generation_sums_are_symbols d file key checks g =
      symbols_of_pieces (check_sums_of d file key g) (range_with_len 0 checks) (check_sums_are_symbols d file key g)

  pub IsVector-file_sums : (d : Dimensions) (file key : List ℕ) (checks : ℕ) → IsVector (generations_of d * checks * d.k) (file_sums_of d file key checks)
  unfolding file_sums_of
  IsVector-file_sums d file key checks = record {
    count = length_file_sums d file key checks;
    symbols =
        symbols_of_pieces (generation_sums_of d file key checks) (range_with_len 0 (generations_of d))
        (generation_sums_are_symbols d file key checks);
  }
