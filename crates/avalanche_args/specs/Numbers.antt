-- The number of an option (docs/FORMATS.md). given: the text that the words give for the option, where they give one.
use Rattle.std.specs.Prelude.{ℕ, ◌&&◌, Bool, true, List, Option, Some, None, length, nat_lt}
use Rattle.std.specs.Str.{all_ascii_digits}
use Rattle.std.specs.Str.Parse.{digits_value}
use Rattle.avalanche_args.specs.declared.option.NumberOption.{NumberOption}
use Rattle.avalanche_args.specs.Options.{takes}

-- the text is of ASCII digits, at least one; the first may be zeros
abbrev pub is_number : List ℕ → Bool
is_number text = nat_lt 0 (length text) && all_ascii_digits text

-- the number that digits write
abbrev pub value_of : List ℕ → ℕ
value_of text = digits_value 10 text

-- what is given for the option is right: a number that it takes, or nothing
unfoldable pub is_right : NumberOption → Option (List ℕ) → Bool
is_right option None = true
is_right option (Some text) = is_number text && takes option (value_of text)

-- the option's number: the one that is given, or else the default
unfoldable pub number_of : NumberOption → Option (List ℕ) → ℕ
number_of option None = option.default
number_of option (Some text) = value_of text
