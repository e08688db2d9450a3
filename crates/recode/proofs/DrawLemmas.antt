-- Coefficients of draws, and combinations that grow by one packet.
use Rattle.std.proofs.Common.{◌≡◌, ◌≢◌, ℕ, zero, suc, ◌+◌, ◌-◌, ◌<◌, ◌==◌, if◌then◌else◌, true, false, List, [], ◌∷◌, ◌++◌, length, map, take, get_or, set, ap, ap₂, sym, refl, subst, ◌∙◌, arith}
use Rattle.std.proofs.Math.Dec.{eqb-suc-zero}
use Rattle.std.specs.List.{All, list_all, range_with_len}
use Rattle.std.proofs.lemmas.List.{length-map, length-set, length-take-le, take_more, get_or-map}
use Rattle.std.proofs.lemmas.List.Elements.{All-map, All-set}
use Rattle.std.proofs.lemmas.List.FromFn.{length-map-range_with_len}
use Rattle.gf16.specs.Field.{IsSymbol}
use Rattle.gf16.specs.Sums.{dot_of, plus_scaled}
use Rattle.linear_spec.specs.declared.packet.Packet.{Packet}
use Rattle.linear_spec.specs.Symbols.{AreSymbols, IsVector}
use Rattle.linear_spec.specs.Combination.{column_of, combination_of}
use Rattle.linear_spec.specs.Packet.{Fits, coefficients_of, payloads_of}
use Rattle.linear_spec.specs.SpanLaws.{CombinationLaws}
use Rattle.recode.specs.Draws.{symbol_of_word, with_last_one, coefficients_of_words, draw_word, draw_coefficients, pollution_of}

pub length-combination : (n : ℕ) (cs : List ℕ) (vs : List (List ℕ)) → length (combination_of n cs vs) ≡ n
unfolding combination_of
length-combination n cs vs = length-map-range_with_len (λ place. dot_of cs (column_of place vs)) 0 n

-- a part of one packet more is combined
pub combined_more : (part : Packet → List ℕ) → CombinationLaws → (n i c : ℕ) (cs : List ℕ) (packets : List Packet) (packet : Packet)
    → i < length cs → length cs ≡ length packets → c ≡ get_or cs i 0 → packet ≡ get_or packets i packet
    → plus_scaled (combination_of n (take i cs) (take i (map part packets))) c (part packet)
    ≡ combination_of n (take (i + 1) cs) (take (i + 1) (map part packets))
combined_more part laws n i c cs packets packet within same c_is is =
    let there : i < length packets = omega arith in
    let mapped : i < length (map part packets) = omega (arith, length-map packets part) in
    let counts : length (take i cs) ≡ length (take i (map part packets)) = length-take-le i cs (omega arith) ∙ sym (length-take-le i (map part packets) (omega arith)) in
    let coefficient = take_more cs i 0 within in
    let vector = take_more (map part packets) i [] mapped in
    let part_is = ap part is ∙ sym (get_or-map part packets i packet [] there) in
    sym (laws.last n c (take i cs) (part packet) (take i (map part packets)) counts)
    ∙ ap₂ (combination_of n)
    (ap (λ a. take i cs ++ a ∷ []) c_is ∙ sym coefficient)
    (ap (λ v. take i (map part packets) ++ v ∷ []) part_is ∙ sym vector)

-- with a 1 as the last or without, symbols are symbols
with_last_one-symbols : (symbols : List ℕ) → AreSymbols symbols → IsVector (length symbols) (with_last_one symbols)
with_last_one-symbols symbols all =
    elim (list_all (λ symbol. symbol == 0) symbols)
    as (λ b. IsVector (length symbols) (if b then set symbols (length symbols - 1) 1 else symbols)) [
      | true ↦ record {
        count = length-set symbols (length symbols - 1) 1;
        symbols = All-set IsSymbol symbols (length symbols - 1) 1 (omega arith) all;
      }
      | false ↦ record { count = refl; symbols = all }
    ]

-- a draw over n packets has n coefficients
pub coefficients-vector : (key : List ℕ) (link q n : ℕ) → IsVector n (draw_coefficients key link q n)
unfolding draw_coefficients coefficients_of_words
coefficients-vector key link q n =
    let words = map (draw_word key link q) (range_with_len 0 n) in
    let count : length (map symbol_of_word words) ≡ n =
    length-map words symbol_of_word ∙ length-map-range_with_len (draw_word key link q) 0 n in
    subst (λ m. IsVector m (with_last_one (map symbol_of_word words))) count
    (with_last_one-symbols (map symbol_of_word words) (All-map IsSymbol symbol_of_word words (λ i d lt. omega arith)))

-- the coefficients and the payloads of packets that fit
pub coefficients_fit : (k s : ℕ) (front : List Packet) → All (Fits k s) front → All (IsVector k) (coefficients_of front)
coefficients_fit k s front fit = All-map (IsVector k) (λ packet. packet.coeffs) front (λ i d lt. (fit i d lt).coeffs)

pub payloads_fit : (k s : ℕ) (front : List Packet) → All (Fits k s) front → All (IsVector s) (payloads_of front)
payloads_fit k s front fit = All-map (IsVector s) (λ packet. packet.payload) front (λ i d lt. (fit i d lt).payload)

or_one-not_zero : (symbol : ℕ) → (if symbol == 0 then 1 else symbol) ≢ 0
or_one-not_zero zero = λ is. absurd (omega (arith, is))
or_one-not_zero (suc n) = λ is.
    let other : (if suc n == 0 then 1 else suc n) ≡ suc n = ap (λ b. if b then 1 else suc n) (eqb-suc-zero n) in
    absurd (omega (arith, is))

-- a polluted draw adds what is not zero
pub pollution-not_zero : (key : List ℕ) (link q : ℕ) → pollution_of key link q ≢ 0
unfolding pollution_of
pollution-not_zero key link q = or_one-not_zero (symbol_of_word (draw_word key link q 255))

or_one-symbol : (symbol : ℕ) → IsSymbol symbol → IsSymbol (if symbol == 0 then 1 else symbol)
or_one-symbol symbol is =
    elim (symbol == 0) as (λ b. IsSymbol (if b then 1 else symbol)) [
      | true ↦ omega arith
      | false ↦ is
    ]

-- and that is a symbol
pub pollution-symbol : (key : List ℕ) (link q : ℕ) → IsSymbol (pollution_of key link q)
unfolding pollution_of
pollution-symbol key link q =
    let word = draw_word key link q 255 in or_one-symbol (symbol_of_word word) (omega arith)
