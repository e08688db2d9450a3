-- What std's `parse` answers, told in the words of the definitions.
use Rattle.std.proofs.Common.{◌≡◌, ◌≢◌, ◌∙◌, ◌&&◌, ◌<◌, ◌≤◌, ◌^◌, ℕ, Bool, true, false, refl, sym, ap, ap₂, le_trans}
use Rattle.std.proofs.Common.{lt_irrefl, lt_of_lt_of_le, leb-true, length, List, [], ◌∷◌, Some, None, Result, Ok, Err, inl}
use Rattle.std.proofs.Common.{inr, lt-ltb, ltb-true}
use Rattle.std.specs.Prelude.{get_or, slice_get}
use Rattle.std.specs.Result.{OkIff, result_ok}
use Rattle.std.specs.Str.{all_ascii_digits}
use Rattle.std.specs.Str.Parse.{ParsesUnsigned, digits_value}
use Rattle.std.proofs.lemmas.Bool.{cases_lt}
use Rattle.std.proofs.lemmas.Str.Parse.{IsNumeralModel, numerals_by_value, parse_plain, tells_all_ascii_digits}
use Rattle.clap.proofs.WalkLemmas.{both}
use Rattle.avalanche_args.specs.Numbers.{is_number, is_right, number_of, value_of}
use Rattle.avalanche_args.specs.Options.{takes}
use Rattle.avalanche_args.specs.Steps.{IsJudged, IsNumberIn}
use Rattle.avalanche_args.specs.declared.option.NumberOption.{NumberOption}
use Rattle.avalanche_args.specs.declared.usage.WordClass.TheVariants.{BadNumber}

own : IsNumeralModel (λ text. all_ascii_digits text ≡ true) (digits_value 10)
own = numerals_by_value _ tells_all_ascii_digits

told : {E : Type 0} (text : List ℕ) (r : Result ℕ E)
    → OkIff r ((all_ascii_digits text ≡ true) × (0 < length text) × (value_of text < 2 ^ 64)) (value_of text)
    → IsNumberIn text (result_ok r)
told text (Ok n) h = (rw (lt-ltb 0 (length text) h.0.1) h.0.0, h.1)
told text (Err e) h = λ number. elim (cases_lt (value_of text) (2 ^ 64)) [
  | inl below ↦
      let parts = both _ _ number in
      absurd (h (parts.1, ltb-true 0 (length text) parts.0, below))
  | inr above ↦ above
]

-- the number of a text that begins with no sign
pub parsed_number : {E : Type 0} (text : List ℕ) (r : Result ℕ E) → get_or text 0 0 ≢ 43 → ParsesUnsigned 64 10 text r
    → IsNumberIn text (result_ok r)
parsed_number text r plain parsed = told text r (parse_plain own 64 text r parsed plain)

first_byte : (text : List ℕ) (first : ℕ) → Some first ≡ slice_get text 0 → first ≢ 43 → get_or text 0 0 ≢ 43
first_byte [] first is other = cc
first_byte (x ∷ xs) first is other =
    let begins : first ≡ x = cc in
    λ plus. other (begins ∙ plus)

-- the same, where the bytes of the text were read first
pub unsigned : (text bytes : List ℕ) (first : ℕ) → bytes ≡ text → Some first ≡ slice_get bytes 0 → first ≢ 43
    → get_or text 0 0 ≢ 43
unsigned text bytes first same is = first_byte text first (is ∙ ap (λ (b : List ℕ). slice_get b 0) same)

module _ (option : NumberOption) (text : List ℕ) where
  at_most : (n : ℕ) → takes option n ≡ true → n ≤ option.most
  unfolding takes
  at_most n taken = leb-true n option.most (both _ _ (both _ _ taken).1).0

  pub right : (n : ℕ) → IsNumberIn text (Some n) → takes option n ≡ true → IsJudged option (Some text) (Ok n)
  unfolding is_right number_of
  right n is taken =
      (ap₂ (λ a b. a && b) is.0 (ap (takes option) (sym is.1) ∙ taken), is.1, at_most n taken)

  pub not_taken : (n : ℕ) → IsNumberIn text (Some n) → takes option n ≡ false
      → IsJudged option (Some text) (Err (BadNumber option.name))
  unfolding is_right
  not_taken n is taken = (ap₂ (λ a b. a && b) is.0 (ap (takes option) (sym is.1) ∙ taken), refl)

  -- a number that no 64 bits hold is past every range, and what is no number is wrong
  pub no_number : option.most < 2 ^ 64 → IsNumberIn text None → IsJudged option (Some text) (Err (BadNumber option.name))
  unfolding is_right
  no_number fits is = (go (is_number text) (takes option (value_of text)) refl refl, refl)
    where
      go : (a b : Bool) → is_number text ≡ a → takes option (value_of text) ≡ b
          → (is_number text && takes option (value_of text)) ≡ false
      go false b number taken = rw number refl
      go true false number taken = rw (number, taken) refl
      go true true number taken =
          let above : 2 ^ 64 ≤ value_of text = is number in
          let below : value_of text ≤ option.most = at_most (value_of text) taken in
          absurd (lt_irrefl _ (lt_of_lt_of_le fits (le_trans above below)))
