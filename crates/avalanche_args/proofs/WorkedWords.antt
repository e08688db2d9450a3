-- The definition at words that are written out: each lemma is one line of words, and what it gives.
use Rattle.std.proofs.Common.{◌≡◌, refl, true, [], ◌∷◌, Ok, Err}
use Rattle.std.specs.Prelude.{codes}
use Rattle.clap.proofs.OnLiterals.{clap_on_literals}
use Rattle.avalanche_args.specs.CommandOf.{command_of, first_wrong, found_in, is_refused, judged_as, parser_of, read_as}
use Rattle.avalanche_args.specs.CommandOf.{text_given}
use Rattle.avalanche_args.specs.Numbers.{is_right, number_of}
use Rattle.avalanche_args.specs.Options.{takes}
use Rattle.avalanche_args.specs.declared.command.Command.TheVariants.{Seed, Fetch, Relay}
use Rattle.avalanche_args.specs.declared.option.OptionName.TheVariants.{Block, Coded, Receivers}
use Rattle.avalanche_args.specs.declared.usage.WordClass.TheVariants.{NoCommand, UnknownCommand, BadWords, BadNumber}

no_word : command_of [] ≡ Err NoCommand
unfolding command_of
no_word = refl

unknown : command_of (codes "--help" ∷ []) ≡ Err UnknownCommand
unfolding command_of
unknown = refl

help : command_of (codes "seed" ∷ codes "--help" ∷ []) ≡ Err BadWords
unfolding command_of read_as is_refused parser_of clap_on_literals
help = refl

twice : command_of (codes "fetch" ∷ codes "--receivers" ∷ codes "1" ∷ codes "--receivers=2" ∷ []) ≡ Err BadWords
unfolding command_of read_as is_refused parser_of clap_on_literals
twice = refl

leading_zero : command_of (codes "fetch" ∷ codes "--receivers" ∷ codes "02" ∷ []) ≡ Ok (Fetch (record { receivers = 2 }))
unfolding command_of read_as is_refused found_in parser_of judged_as first_wrong text_given is_right number_of
    takes clap_on_literals
leading_zero = refl

no_value : command_of (codes "fetch" ∷ codes "--receivers=" ∷ []) ≡ Err (BadNumber Receivers)
unfolding command_of read_as is_refused found_in parser_of judged_as first_wrong text_given is_right number_of
    takes clap_on_literals
no_value = refl

first_of_two : command_of (codes "seed" ∷ codes "--bare" ∷ codes "2" ∷ codes "--block" ∷ codes "3" ∷ []) ≡ Err (BadNumber Block)
unfolding command_of read_as is_refused found_in parser_of judged_as first_wrong text_given is_right number_of
    takes clap_on_literals
first_of_two = refl

defaults : command_of (codes "seed" ∷ codes "--bare=1" ∷ [])
    ≡ Ok (Seed (record { k = 64; block = 1024; checks = 2; key = 1; peer = 1; coded = 0; bare = true }))
unfolding command_of read_as is_refused found_in parser_of judged_as first_wrong text_given is_right number_of
    takes clap_on_literals
defaults = refl

of_relay : command_of (codes "relay" ∷ codes "--link=0" ∷ [])
    ≡ Ok (Relay (record { receivers = 2; key = 1; link = 0; coded = 64 }))
unfolding command_of read_as is_refused found_in parser_of judged_as first_wrong text_given is_right number_of
    takes clap_on_literals
of_relay = refl

coded_before_link : command_of (codes "relay" ∷ codes "--link" ∷ codes "65536" ∷ codes "--coded" ∷ codes "1025" ∷ [])
    ≡ Err (BadNumber Coded)
unfolding command_of read_as is_refused found_in parser_of judged_as first_wrong text_given is_right number_of
    takes clap_on_literals
coded_before_link = refl
