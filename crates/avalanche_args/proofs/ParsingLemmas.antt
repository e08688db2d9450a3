-- What `clap` answers, told in the words of the definitions.
use Rattle.std.proofs.lemmas.Bool.{ne_eqb}
use Rattle.std.proofs.lemmas.List.{take_all}
use Rattle.std.proofs.lemmas.List.Sums.{fold_more}
use Rattle.std.proofs.Common.{◌≡◌, ◌≢◌, ◌∙◌, ◌+◌, ◌<◌, ◌≤◌, ℕ, fold, get_or, length, take, suc-ne-zero, ap, sym, refl, true}
use Rattle.std.proofs.Common.{not, List, [], ◌∷◌, Ok, Err, inl, inr}
use Rattle.clap.specs.Walk.{Text, is_empty}
use Rattle.clap.specs.Kinds.{HasKind, IsAmong, Kinds}
use Rattle.clap.specs.Simple.{App, HasMatchesOf, is_simple, matches_of}
use Rattle.clap.specs.Faults.{fault_of, is_simple_and_free}
use Rattle.clap.specs.Values.{kind_of}
use Rattle.clap.specs.declared.error.Error.{Error}
use Rattle.clap.specs.declared.error.kind.ErrorKind.{ErrorKind}
use Rattle.clap.specs.declared.error.kind.ErrorKind.TheVariants.{OutOfMemory}
use Rattle.clap.specs.declared.parser.matches.ArgMatches.{ArgMatches}
use Rattle.avalanche_args.specs.CommandOf.{found_in, is_refused, parser_of, plain_app, with_option}
use Rattle.avalanche_args.specs.Options.{options_of, word_of}
use Rattle.avalanche_args.specs.declared.option.NumberOption.{NumberOption}
use Rattle.avalanche_args.specs.Steps.{IsCauseOf, Parses}
use Rattle.avalanche_args.specs.declared.command.CommandName.{CommandName}
use Rattle.avalanche_args.specs.declared.command.CommandName.TheVariants as name
use Rattle.avalanche_args.specs.declared.usage.ArgsError.{ArgsError}
use Rattle.avalanche_args.specs.declared.usage.ArgsError.TheVariants.{Usage, Memory}

simple : (command : CommandName) → is_simple (parser_of command) ≡ true
unfolding parser_of
simple name.Seed = refl
simple name.Fetch = refl
simple name.Relay = refl

free : (command : CommandName) → is_simple_and_free (parser_of command) ≡ true
unfolding parser_of
free name.Seed = refl
free name.Fetch = refl
free name.Relay = refl

-- words without a fault are taken, and give what the parse found
pub taken : (command : CommandName) (app : App) (words : List Text) (matches : ArgMatches) → app ≡ parser_of command
    → (is_simple_and_free app ≡ true → fault_of app words ≡ []) → HasMatchesOf app words matches
    → Parses command words (Ok matches)
unfolding is_refused found_in
taken command app words matches is faults found =
    let none : fault_of (parser_of command) words ≡ [] =
    sym (ap (λ (a : App). fault_of a words) is) ∙ faults (ap is_simple_and_free is ∙ free command) in
    (ap (λ (kinds : Kinds). not (is_empty kinds)) none, (found (ap is_simple is ∙ simple command)).0 ∙ ap (λ (a : App). matches_of a words) is)

some_kind : (k : ErrorKind) (kinds : Kinds) → IsAmong k kinds → not (is_empty kinds) ≡ true
some_kind k [] among = absurd among
some_kind k (x ∷ xs) among = rw (ne_eqb (length (x ∷ xs)) 0 (suc-ne-zero _)) refl

-- an error for another cause than memory comes of words that are refused
refused : (command : CommandName) (app : App) (words : List Text) (error : Error) → app ≡ parser_of command
    → (is_simple_and_free app ≡ true → HasKind (fault_of app words) error) → kind_of error ≢ OutOfMemory
    → is_refused command words ≡ true
unfolding is_refused
refused command app words error is faults other = elim (faults (ap is_simple_and_free is ∙ free command)) [
  | inl memory ↦ absurd (other memory)
  | inr among ↦
      sym (ap (λ (a : App). not (is_empty (fault_of a words))) is) ∙ some_kind (kind_of error) (fault_of app words) among
]

pub cause : (command : CommandName) (app : App) (words : List Text) (error : Error) (told : ArgsError)
    → app ≡ parser_of command
    → (is_simple_and_free app ≡ true → HasKind (fault_of app words) error) → IsCauseOf error told
    → Parses command words (Err told)
cause command app words error (Usage class) is faults told = (refused command app words error is faults told.1, told.0)
cause command app words error Memory is faults told = tt

-- ---- the parser that is built

module _ (command : CommandName) (app : App) (options : List NumberOption) (i : ℕ)
    (so_far : app ≡ fold with_option (plain_app (word_of command)) (take i options)) where
  pub one_more : (more : App) (d : NumberOption) → i < length options → more ≡ with_option app (get_or options i d)
      → more ≡ fold with_option (plain_app (word_of command)) (take (i + 1) options)
  one_more more d inside is =
      is ∙ ap (λ (a : App). with_option a (get_or options i d)) so_far ∙ sym (fold_more with_option (plain_app (word_of command)) options i d inside)

  pub all_options : options ≡ options_of command → length options ≤ i → app ≡ parser_of command
  unfolding parser_of
  all_options same past =
      so_far ∙ ap (fold with_option (plain_app (word_of command))) (take_all i options past ∙ same)
