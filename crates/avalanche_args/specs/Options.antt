-- The table of options and commands (docs/FORMATS.md): an option or a command that comes later joins as a row.
use Rattle.std.specs.Prelude.{ℕ, ◌%◌, ◌==◌, ◌&&◌, ◌||◌, Bool, true, false, not, nat_le, List, [], ◌∷◌, Option, find, codes}
use Rattle.std.specs.Str.{bytes_eq}
use Rattle.avalanche_args.specs.declared.command.CommandName.{CommandName}
use Rattle.avalanche_args.specs.declared.command.CommandName.TheVariants as name
use Rattle.avalanche_args.specs.declared.option.NumberOption.{NumberOption}
use Rattle.avalanche_args.specs.declared.option.OptionName.{OptionName}
use Rattle.avalanche_args.specs.declared.option.OptionName.TheVariants.{Blocks, Block, Checks, Key, Peer, Coded, Bare}
use Rattle.avalanche_args.specs.declared.option.OptionName.TheVariants.{LinkNumber, Receivers}
use Rattle.avalanche_args.specs.declared.option.OptionName.TheVariants.{Senders, Peers, OverlayName, Degree, Rounds}
use Rattle.avalanche_args.specs.declared.option.OptionName.TheVariants.{Polluter, Bytes, Through}

-- how an option is written, without its two hyphens
abbrev pub text_of : OptionName → List ℕ
text_of Blocks = codes "blocks"
text_of Block = codes "block"
text_of Checks = codes "checks"
text_of Key = codes "key"
text_of Peer = codes "peer"
text_of Coded = codes "coded"
text_of Bare = codes "bare"
text_of LinkNumber = codes "link"
text_of Receivers = codes "receivers"
text_of Senders = codes "senders"
text_of Peers = codes "peers"
text_of OverlayName = codes "overlay"
text_of Degree = codes "degree"
text_of Rounds = codes "rounds"
text_of Polluter = codes "polluter"
text_of Bytes = codes "bytes"
text_of Through = codes "through"

-- ---- which numbers an option takes

-- an option of the numbers from `least` to `most`
abbrev numbers : OptionName → ℕ → ℕ → ℕ → NumberOption
numbers name least most default = record { name = name; least = least; most = most; even = false; default = default }

-- an option of the even ones among them
abbrev even_numbers : OptionName → ℕ → ℕ → ℕ → NumberOption
even_numbers name least most default = record { name = name; least = least; most = most; even = true; default = default }

-- the number is one that the option takes
unfoldable pub takes : NumberOption → ℕ → Bool
takes option n = nat_le option.least n && (nat_le n option.most && (not option.even || n % 2 == 0))

-- ---- the options

abbrev pub blocks : NumberOption
blocks = numbers Blocks 1 64 64

abbrev pub block : NumberOption
block = even_numbers Block 2 4096 1024

abbrev pub checks : NumberOption
checks = numbers Checks 0 8 2

abbrev pub key : NumberOption
key = numbers Key 0 18446744073709551615 1

abbrev pub peer : NumberOption
peer = numbers Peer 0 63 1

abbrev pub seed_coded : NumberOption
seed_coded = numbers Coded 0 1024 0

abbrev pub relay_coded : NumberOption
relay_coded = numbers Coded 0 1024 64

abbrev pub bare : NumberOption
bare = numbers Bare 0 1 0

abbrev pub link : NumberOption
link = numbers LinkNumber 0 65535 1

abbrev pub receivers : NumberOption
receivers = numbers Receivers 1 8 2

-- ---- the commands

-- the commands that there are so far
abbrev pub commands : List CommandName
commands = name.Seed ∷ name.Fetch ∷ name.Relay ∷ []

-- how a command is written
abbrev pub word_of : CommandName → List ℕ
word_of name.Seed = codes "seed"
word_of name.Fetch = codes "fetch"
word_of name.Relay = codes "relay"

-- the command that is written so
abbrev pub command_named : List ℕ → Option CommandName
command_named word = find (λ command. bytes_eq word (word_of command)) commands

-- the options of a command, in the order in which they are judged
abbrev pub options_of : CommandName → List NumberOption
options_of name.Seed = blocks ∷ block ∷ checks ∷ key ∷ peer ∷ seed_coded ∷ bare ∷ []
options_of name.Fetch = receivers ∷ []
options_of name.Relay = key ∷ relay_coded ∷ link ∷ receivers ∷ []
