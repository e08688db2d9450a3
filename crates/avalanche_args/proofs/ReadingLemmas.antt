-- The command of the words, by their first word.
use Rattle.std.proofs.Common.{◌≡◌, ◌∙◌, ap, sym, refl, true, false, Result, Ok, List, [], ◌∷◌, Some, None, Err}
use Rattle.std.specs.Prelude.{slice_get}
use Rattle.std.specs.Option.{option_map_or}
use Rattle.clap.specs.Walk.{Text, rows_of}
use Rattle.clap.specs.Matches.{found_of}
use Rattle.avalanche_args.specs.CommandOf.{IfUsage, command_of, found_in, is_refused, judged_as, read_as}
use Rattle.avalanche_args.specs.Options.{command_named}
use Rattle.avalanche_args.specs.Steps.{Parses}
use Rattle.avalanche_args.specs.declared.command.CommandName.{CommandName}
use Rattle.avalanche_args.specs.declared.usage.WordClass.TheVariants.{BadWords, NoCommand, UnknownCommand}
use Rattle.avalanche_args.specs.declared.usage.ArgsError.{ArgsError}
use Rattle.avalanche_args.specs.declared.usage.ArgsError.TheVariants.{Usage, Memory}
use Rattle.avalanche_args.specs.declared.usage.WordClass.{WordClass}
use Rattle.avalanche_args.specs.declared.command.Command.{Command}
use Rattle.clap.specs.declared.parser.matches.ArgMatches.{ArgMatches}

pub of_none : (words : List Text) → slice_get words 0 ≡ None → command_of words ≡ Err NoCommand
unfolding command_of
of_none [] none = refl
of_none (word ∷ rest) none = cc

pub of_unknown : (words : List Text) (first : Text) → slice_get words 0 ≡ Some first → command_named first ≡ None
    → command_of words ≡ Err UnknownCommand
unfolding command_of
of_unknown [] first is unknown = cc
of_unknown (word ∷ rest) first is unknown =
    let named : command_named word ≡ None = ap (λ o. option_map_or command_named o None) is ∙ unknown in
    rw named refl

pub of_command : (words : List Text) (first : Text) (command : CommandName) → slice_get words 0 ≡ Some first
    → command_named first ≡ Some command
    → command_of words ≡ read_as command words
unfolding command_of
of_command [] first command is known = cc
of_command (word ∷ rest) first command is known =
    let named : command_named word ≡ Some command = ap (λ o. option_map_or command_named o None) is ∙ known in
    rw named refl

pub of_refused : (command : CommandName) (words : List Text) → is_refused command words ≡ true
    → read_as command words ≡ Err BadWords
unfolding read_as
of_refused command words refused = rw refused refl

pub of_taken : (command : CommandName) (words : List Text) → is_refused command words ≡ false
    → read_as command words ≡ judged_as command (found_in command words)
unfolding read_as
of_taken command words taken = rw taken refl

-- what the steps answer is the command of the words, or its class
module _ (words texts : List Text) (first : Text) (command : CommandName) (same : texts ≡ words) (is : slice_get words 0 ≡ Some first)
    (known : command_named first ≡ Some command) where
  pub refused_words : (error : ArgsError) → Parses command texts (Err error)
      → IfUsage (Err error) (λ class. command_of words ≡ Err class)
  refused_words (Usage class) answer =
      of_command words first command is known ∙ ap (read_as command) (sym same) ∙ of_refused command texts answer.0 ∙ ap Err (sym answer.1)
  refused_words Memory answer = tt

  pub taken_words : (matches : ArgMatches) (answer : Result Command WordClass) → Parses command texts (Ok matches)
      → answer ≡ judged_as command (rows_of (found_of matches)) → command_of words ≡ answer
  taken_words matches answer parse judged =
      of_command words first command is known ∙ ap (read_as command) (sym same) ∙ of_taken command texts parse.0
      ∙ ap (judged_as command) (sym parse.1) ∙ sym judged
