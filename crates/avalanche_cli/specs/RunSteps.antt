-- How the command of the words ends: for the private steps of `run`.
-- old, new: the bytes that the input has left, before and after. before, now: what the output holds. Unmoved, Same: that the
-- input and the output are as they were. Unread, Unwritten, Unheld: that the counts of the input's faults, of the output's
-- faults and of the output's wants rose.
use Rattle.std.specs.Prelude.{◌≡◌, ◌⊎◌, ℕ, List, Option, Result, Ok, Err}
use Rattle.avalanche_args.specs.declared.command.Command.{Command}
use Rattle.avalanche_args.specs.declared.command.Command.TheVariants.{Seed, Fetch, Relay}
use Rattle.avalanche_args.specs.declared.usage.WordClass.{WordClass}
use Rattle.avalanche_cli.specs.EmptyTrace.{IsEmptyTrace}
use Rattle.avalanche_cli.specs.Fetch.{HasReadSound}
use Rattle.avalanche_cli.specs.FetchSteps.{IsEnd}
use Rattle.avalanche_cli.specs.Relay.{IsKeptRelay, IsRelayEnd}
use Rattle.avalanche_cli.specs.Run.{IsKeptFetch}
use Rattle.avalanche_cli.specs.Seed.{IsSeedEnd}
use Rattle.avalanche_cli.specs.declared.outcome.Outcome.{Outcome}
use Rattle.avalanche_cli.specs.declared.end.End.TheVariants.{Usage, Memory}

-- the words say no command, or memory was wanted for them
pub record IsRefused (Unmoved Same : Type 0) (outcome : Outcome) (class : WordClass) : Type 0 where
  pub end : (outcome.end ≡ Usage class) ⊎ (outcome.end ≡ Memory)
  pub input : Unmoved
  pub output : Same
  pub trace : IsEmptyTrace outcome.trace

-- how it ends, by what the words say
abbrev pub IsRun : Option (List ℕ) → Option (List ℕ) → Option (List ℕ) → Option (List ℕ) → Type 0 → Type 0 → Type 0 → Type 0 → Type 0 → Outcome → Result Command WordClass → Type 0
IsRun old new before now Unmoved Same Unread Unwritten Unheld outcome (Ok (Seed words)) =
    IsEmptyTrace outcome.trace × IsSeedEnd words old before now Same Unread Unwritten Unheld outcome.end
IsRun old new before now Unmoved Same Unread Unwritten Unheld outcome (Ok (Fetch words)) =
    IsKeptFetch words.receivers outcome.end old outcome.trace
    × IsEnd words.receivers old outcome.trace before now Same Unread (HasReadSound old new) Unwritten Unheld outcome.end
IsRun old new before now Unmoved Same Unread Unwritten Unheld outcome (Ok (Relay words)) =
    IsKeptRelay words outcome.end old outcome.trace
    × IsRelayEnd words old outcome.trace before now Same Unread (HasReadSound old new) Unwritten Unheld outcome.end
IsRun old new before now Unmoved Same Unread Unwritten Unheld outcome (Err class) = IsRefused Unmoved Same outcome class
