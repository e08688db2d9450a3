use Rattle.std.proofs.Common.{◌≡◌, take}
use Rattle.std.specs.List.{fold}
use Rattle.clap.specs.Simple.{app_of}
use Rattle.avalanche_args.specs.CommandOf.{plain_app, with_option}
use Rattle.avalanche_args.specs.Options.{word_of}
use Rattle.avalanche_args.proofs.parsing.parser_for.Given as goal

-- the parser has the options so far
abbrev pub invariant-loop-option : goal.invariant-loop-option
invariant-loop-option l = app_of l.parser ≡ fold with_option (plain_app (word_of l.fn.command)) (take l.option-index l.options)
