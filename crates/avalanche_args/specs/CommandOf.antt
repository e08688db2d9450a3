-- What the words say (docs/FORMATS.md): a command with its values, or else of which class the first fault is.
-- words: those after the program's name. matches: what `clap` finds in them, where it takes them.
use Rattle.std.specs.Prelude.{ℕ, ◌==◌, Bool, true, not, List, [], ◌∷◌, Option, Some, Result, Ok, Err, find, fold}
use Rattle.std.specs.Prelude.{if◌then◌else◌}
use Rattle.std.specs.Option.{option_map_or}
use Rattle.clap.specs.Walk.{Row, Rule, Text, first_of, is_empty}
use Rattle.clap.specs.Simple.{App, matches_of, new_app, new_rule, on_top, with_rule}
use Rattle.clap.specs.Faults.{fault_of}
use Rattle.avalanche_args.specs.Numbers.{is_right, number_of}
use Rattle.avalanche_args.specs.Options.{bare, block, blocks, checks, command_named, key, link, options_of, peer}
use Rattle.avalanche_args.specs.Options.{receivers, relay_coded, seed_coded, text_of, word_of}
use Rattle.avalanche_args.specs.declared.command.Command.{Command}
use Rattle.avalanche_args.specs.declared.command.Command.TheVariants.{Seed, Fetch, Relay}
use Rattle.avalanche_args.specs.declared.command.CommandName.{CommandName}
use Rattle.avalanche_args.specs.declared.command.CommandName.TheVariants as name
use Rattle.avalanche_args.specs.declared.option.NumberOption.{NumberOption}
use Rattle.avalanche_args.specs.declared.usage.ArgsError.{ArgsError}
use Rattle.avalanche_args.specs.declared.usage.ArgsError.TheVariants.{Usage, Memory}
use Rattle.avalanche_args.specs.declared.usage.WordClass.{WordClass}
use Rattle.avalanche_args.specs.declared.usage.WordClass.TheVariants.{NoCommand, UnknownCommand, BadWords, BadNumber}

-- ---- the words as `clap` reads them

-- an option of a command, as `clap` has it: long, with one text for its value
abbrev pub option_rule : NumberOption → Rule
option_rule option = record (new_rule (text_of option.name)) { long = Some (text_of option.name) }

-- a command with no options, which gives no help
abbrev pub plain_app : Text → App
plain_app word = on_top (λ shape. record shape { disable_help_flag = true }) (new_app word)

-- one more option
abbrev pub with_option : App → NumberOption → App
with_option app option = with_rule app (option_rule option)

-- the simple command that has the options
unfoldable pub parser_of : CommandName → App
parser_of command = fold with_option (plain_app (word_of command)) (options_of command)

-- `clap` refuses the words, for another cause than memory
unfoldable pub is_refused : CommandName → List Text → Bool
is_refused command words = not (is_empty (fault_of (parser_of command) words))

-- what `clap` finds in the words
unfoldable pub found_in : CommandName → List Text → List Row
found_in command words = matches_of (parser_of command) words

-- the text that is given for an option, where one is
unfoldable pub text_given : NumberOption → List Row → Option Text
text_given option matches = first_of (text_of option.name) matches

-- ---- the values

-- the first option whose value is not right
unfoldable pub first_wrong : List NumberOption → List Row → Option NumberOption
first_wrong options matches = find (λ option. not (is_right option (text_given option matches))) options

-- a command, by the number of each of its options
abbrev pub command_by : CommandName → (NumberOption → ℕ) → Command
command_by name.Seed number = Seed (record {
  k = number blocks;
  block = number block;
  checks = number checks;
  key = number key;
  peer = number peer;
  coded = number seed_coded;
  bare = number bare == 1;
})
command_by name.Fetch number = Fetch (record { receivers = number receivers })
command_by name.Relay number = Relay (record {
  receivers = number receivers;
  key = number key;
  link = number link;
  coded = number relay_coded;
})

-- the command with the values that are given, or the class of the first that is wrong
unfoldable pub judged_as : CommandName → List Row → Result Command WordClass
judged_as command matches = option_map_or (λ option. Err (BadNumber option.name)) (first_wrong (options_of command) matches)
    (Ok (command_by command (λ option. number_of option (text_given option matches))))

-- ---- the command

-- what is read of words whose first is the name of this command
unfoldable pub read_as : CommandName → List Text → Result Command WordClass
read_as command words = if is_refused command words then Err BadWords else judged_as command (found_in command words)

unfoldable pub command_of : List Text → Result Command WordClass
command_of [] = Err NoCommand
command_of (word ∷ rest) =
    option_map_or (λ command. read_as command (word ∷ rest)) (command_named word) (Err UnknownCommand)

-- the fact holds of the class, where the answer is one
abbrev pub IfUsage : Result Command ArgsError → (WordClass → Type 0) → Type 0
IfUsage (Ok command) P = Unit {0}
IfUsage (Err (Usage class)) P = P class
IfUsage (Err Memory) P = Unit {0}
