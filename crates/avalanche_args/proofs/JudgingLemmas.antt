-- The first wrong option of a list, found one option after another.
-- matches: what `clap` found in the words.
use Rattle.std.proofs.Common.{◌≡◌, ◌≤◌, ◌∙◌, ℕ, ap, refl, true, false, List, [], ◌∷◌, Option, Some, None, Result, Ok, Err}
use Rattle.std.proofs.Common.{IsErrAnd}
use Rattle.clap.specs.Walk.{Row, rows_of}
use Rattle.clap.specs.Matches.{first_value, found_of}
use Rattle.clap.specs.declared.parser.matches.ArgMatches.{ArgMatches}
use Rattle.clap.proofs.WalkLemmas.{first_value-rows}
use Rattle.avalanche_args.specs.CommandOf.{command_by, first_wrong, judged_as, text_given}
use Rattle.avalanche_args.specs.Numbers.{is_right, number_of}
use Rattle.avalanche_args.specs.Options.{options_of, text_of}
use Rattle.avalanche_args.specs.Steps.{IsJudged}
use Rattle.avalanche_args.specs.declared.command.CommandName.{CommandName}
use Rattle.avalanche_args.specs.declared.option.NumberOption.{NumberOption}
use Rattle.avalanche_args.specs.declared.usage.WordClass.TheVariants.{BadNumber}

module _ (option : NumberOption) (rest : List NumberOption) (matches : List Row) where
  -- an option that is right is passed over
  pub passes : is_right option (text_given option matches) ≡ true
      → first_wrong (option ∷ rest) matches ≡ first_wrong rest matches
  unfolding first_wrong
  passes right = rw right refl

  -- one that is wrong is the first
  pub stops : is_right option (text_given option matches) ≡ false → first_wrong (option ∷ rest) matches ≡ Some option
  unfolding first_wrong
  stops wrong = rw wrong refl

pub none_left : (matches : List Row) → first_wrong [] matches ≡ None
unfolding first_wrong
none_left matches = refl

module _ (command : CommandName) (matches : List Row) where
  pub judged_wrong : (option : NumberOption) → first_wrong (options_of command) matches ≡ Some option
      → judged_as command matches ≡ Err (BadNumber option.name)
  unfolding judged_as
  judged_wrong option first = rw first refl

  pub judged_right : first_wrong (options_of command) matches ≡ None
      → judged_as command matches ≡ Ok (command_by command (λ option. number_of option (text_given option matches)))
  unfolding judged_as
  judged_right none = rw none refl

-- the text that the matches have for an option
pub text_found : (matches : ArgMatches) (option : NumberOption) (name : List ℕ) (text : Option (List ℕ))
    → name ≡ text_of option.name
    → text ≡ first_value (found_of matches) name → text ≡ text_given option (rows_of (found_of matches))
unfolding text_given
text_found matches option name text named is =
    is ∙ ap (first_value (found_of matches)) named ∙ first_value-rows (found_of matches) (text_of option.name)

-- where nothing is given, the number is the default
pub by_default : (option : NumberOption) → option.default ≤ option.most → IsJudged option None (Ok option.default)
unfolding is_right number_of
by_default option fits = (refl, refl, fits)

-- what the exit of a `?` returns, where both errors are of one type
pub exits : {T E : Type 0} (answer : Result T E) (error : E) → IsErrAnd answer (λ told. told ≡ error) → answer ≡ Err error
exits (Ok value) error told = absurd told
exits (Err other) error told = ap Err told
