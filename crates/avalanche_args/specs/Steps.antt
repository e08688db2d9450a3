-- What the steps of the reader answer.
use Rattle.std.specs.Prelude.{◌≡◌, ◌≢◌, ◌^◌, ◌≤◌, ℕ, true, false, List, Option, Some, None, Result, Ok, Err, MatchResult}
use Rattle.clap.specs.Walk.{Text, rows_of}
use Rattle.clap.specs.Matches.{found_of}
use Rattle.clap.specs.Values.{kind_of}
use Rattle.clap.specs.declared.error.Error.{Error}
use Rattle.clap.specs.declared.error.kind.ErrorKind.TheVariants.{OutOfMemory}
use Rattle.clap.specs.declared.parser.matches.ArgMatches.{ArgMatches}
use Rattle.avalanche_args.specs.CommandOf.{found_in, is_refused}
use Rattle.avalanche_args.specs.Numbers.{is_number, is_right, number_of, value_of}
use Rattle.avalanche_args.specs.declared.command.CommandName.{CommandName}
use Rattle.avalanche_args.specs.declared.option.NumberOption.{NumberOption}
use Rattle.avalanche_args.specs.declared.usage.ArgsError.{ArgsError}
use Rattle.avalanche_args.specs.declared.usage.ArgsError.TheVariants.{Usage, Memory}
use Rattle.avalanche_args.specs.declared.usage.WordClass.{WordClass}
use Rattle.avalanche_args.specs.declared.usage.WordClass.TheVariants.{BadWords, BadNumber}

-- the error, told as ours: want of memory as such, and any other as bad words
abbrev pub IsCauseOf : Error → ArgsError → Type 0
IsCauseOf error (Usage class) = (class ≡ BadWords) × (kind_of error ≢ OutOfMemory)
IsCauseOf error Memory = kind_of error ≡ OutOfMemory

-- the answer to words whose first is the command's name
abbrev pub Parses : CommandName → List Text → Result ArgMatches ArgsError → Type 0
Parses command words (Ok matches) =
    (is_refused command words ≡ false) × (rows_of (found_of matches) ≡ found_in command words)
Parses command words (Err (Usage class)) = (is_refused command words ≡ true) × (class ≡ BadWords)
Parses command words (Err Memory) = Unit {0}

-- the number of the text, where it is below 2^64
abbrev pub IsNumberIn : Text → Option ℕ → Type 0
IsNumberIn text None = is_number text ≡ true → 2 ^ 64 ≤ value_of text
IsNumberIn text (Some n) = (is_number text ≡ true) × (n ≡ value_of text)

-- the number of the option where what is given is right, or else that it is wrong
abbrev pub IsJudged : NumberOption → Option Text → Result ℕ WordClass → Type 0
IsJudged option given result = MatchResult result
    (λ n. (is_right option given ≡ true) × (n ≡ number_of option given) × (n ≤ option.most))
    (λ class. (is_right option given ≡ false) × (class ≡ BadNumber option.name))
