-- The ranges of a command's numbers (docs/FORMATS.md), as a caller of `read_words` may rely on them.
use Rattle.std.specs.Prelude.{◌≡◌, ◌≤◌, ◌%◌, ℕ, true}
use Rattle.avalanche_args.specs.declared.command.Command.{Command}
use Rattle.avalanche_args.specs.declared.command.Command.TheVariants.{Seed, Fetch, Relay}
use Rattle.avalanche_args.specs.declared.command.SeedWords.{SeedWords}
use Rattle.avalanche_args.specs.declared.command.FetchWords.{FetchWords}
use Rattle.avalanche_args.specs.declared.command.RelayWords.{RelayWords}
use Rattle.avalanche_args.specs.declared.option.NumberOption.{NumberOption}

-- the number lies in the option's range
pub record IsWithin (option : NumberOption) (number : ℕ) : Type 0 where
  pub least : option.least ≤ number
  pub most : number ≤ option.most
  pub even : option.even ≡ true → number % 2 ≡ 0

pub record AreSeedWords (words : SeedWords) : Type 0 where
  pub k : (1 ≤ words.k) × (words.k ≤ 64)
  pub block : (words.block % 2 ≡ 0) × (2 ≤ words.block) × (words.block ≤ 4096)
  pub checks : words.checks ≤ 8
  pub peer : words.peer ≤ 63
  pub coded : words.coded ≤ 1024

pub record AreFetchWords (words : FetchWords) : Type 0 where
  pub receivers : (1 ≤ words.receivers) × (words.receivers ≤ 8)

pub record AreRelayWords (words : RelayWords) : Type 0 where
  pub receivers : (1 ≤ words.receivers) × (words.receivers ≤ 8)
  pub link : words.link ≤ 65535
  pub coded : words.coded ≤ 1024

-- all numbers of the command lie in their ranges
abbrev pub IsInRange : Command → Type 0
IsInRange (Seed words) = AreSeedWords words
IsInRange (Fetch words) = AreFetchWords words
IsInRange (Relay words) = AreRelayWords words
