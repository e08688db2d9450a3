-- What a run keeps, reads and writes, by the command of its words.
-- said: the command that the words say, or the class of what is wrong with them.
use Rattle.std.specs.Prelude.{◌⊎◌, ℕ, ◌+◌, List, Option, Result, Ok, Err}
use Rattle.avalanche_args.specs.declared.command.Command.{Command}
use Rattle.avalanche_args.specs.declared.command.Command.TheVariants.{Seed, Fetch, Relay}
use Rattle.avalanche_args.specs.declared.command.FetchWords.{FetchWords}
use Rattle.avalanche_args.specs.declared.command.RelayWords.{RelayWords}
use Rattle.avalanche_args.specs.declared.command.SeedWords.{SeedWords}
use Rattle.avalanche_args.specs.declared.usage.WordClass.{WordClass}
use Rattle.avalanche_cli.specs.EmptyTrace.{IsEmptyTrace}
use Rattle.avalanche_cli.specs.Fetch.{IsTraceOf, stream_limit}
use Rattle.avalanche_cli.specs.Relay.{IsKeptRelay}
use Rattle.avalanche_cli.specs.Seed.{seed_limit}
use Rattle.avalanche_cli.specs.declared.trace.Trace.{Trace}
use Rattle.avalanche_cli.specs.declared.end.End.{End}
use Rattle.avalanche_cli.specs.declared.end.End.TheVariants.{Done, Usage, ReadFault, WriteFault, TooLarge, BadStream, Incomplete, Mismatch, Memory}

-- ---- the command

-- where the words say a `seed`, this holds of what they say
abbrev pub IfSeed : Result Command WordClass → (SeedWords → Type 0) → Type 0
IfSeed (Ok (Seed words)) P = P words
IfSeed (Ok (Fetch words)) P = Unit {0}
IfSeed (Ok (Relay words)) P = Unit {0}
IfSeed (Err class) P = Unit {0}

-- the same of a `fetch`
abbrev pub IfFetch : Result Command WordClass → (FetchWords → Type 0) → Type 0
IfFetch (Ok (Seed words)) P = Unit {0}
IfFetch (Ok (Fetch words)) P = P words
IfFetch (Ok (Relay words)) P = Unit {0}
IfFetch (Err class) P = Unit {0}

-- the words say a `fetch`, and this holds of what they say
abbrev pub IsFetchThat : Result Command WordClass → (FetchWords → Type 0) → Type 0
IsFetchThat (Ok (Seed words)) P = ⊥
IsFetchThat (Ok (Fetch words)) P = P words
IsFetchThat (Ok (Relay words)) P = ⊥
IsFetchThat (Err class) P = ⊥

-- where the words say a `relay`, this holds of what they say
abbrev pub IfRelay : Result Command WordClass → (RelayWords → Type 0) → Type 0
IfRelay (Ok (Seed words)) P = Unit {0}
IfRelay (Ok (Fetch words)) P = Unit {0}
IfRelay (Ok (Relay words)) P = P words
IfRelay (Err class) P = Unit {0}

-- where the words say a command that reads a stream, this holds
abbrev pub IfReadsStream : Result Command WordClass → Type 0 → Type 0
IfReadsStream (Ok (Seed words)) P = Unit {0}
IfReadsStream (Ok (Fetch words)) P = P
IfReadsStream (Ok (Relay words)) P = P
IfReadsStream (Err class) P = Unit {0}

-- the words say one, and this holds
abbrev pub ReadsStream : Result Command WordClass → Type 0 → Type 0
ReadsStream (Ok (Seed words)) P = ⊥
ReadsStream (Ok (Fetch words)) P = P
ReadsStream (Ok (Relay words)) P = P
ReadsStream (Err class) P = ⊥

-- ---- what is kept, read and written

-- what is kept of a fetch that ends so: a legal trace where the packets were judged, and else none. After want of memory
-- there is a trace where the output took some of the file: the contract of `run` says when
abbrev pub IsKeptFetch : ℕ → End → Option (List ℕ) → Trace → Type 0
IsKeptFetch receivers Done input trace = IsTraceOf receivers input trace
IsKeptFetch receivers (Usage class) input trace = IsEmptyTrace trace
IsKeptFetch receivers ReadFault input trace = IsEmptyTrace trace
IsKeptFetch receivers WriteFault input trace = IsTraceOf receivers input trace
IsKeptFetch receivers (TooLarge limit) input trace = IsEmptyTrace trace
IsKeptFetch receivers (BadStream fault) input trace = IsEmptyTrace trace
IsKeptFetch receivers (Incomplete generation rank) input trace = IsTraceOf receivers input trace
IsKeptFetch receivers (Mismatch found) input trace = IsTraceOf receivers input trace
IsKeptFetch receivers Memory input trace = IsEmptyTrace trace ⊎ IsTraceOf receivers input trace

-- what is kept: nothing of a seed
abbrev pub IsKept : Result Command WordClass → End → Option (List ℕ) → Trace → Type 0
IsKept (Ok (Seed words)) end input trace = IsEmptyTrace trace
IsKept (Ok (Fetch words)) end input trace = IsKeptFetch words.receivers end input trace
IsKept (Ok (Relay words)) end input trace = IsKeptRelay words end input trace
IsKept (Err class) end input trace = IsEmptyTrace trace

-- the most bytes that are read: those within the limit, and one
abbrev pub most_read : Result Command WordClass → ℕ
most_read (Ok (Seed words)) = seed_limit words + 1
most_read (Ok (Fetch words)) = stream_limit + 1
most_read (Ok (Relay words)) = stream_limit + 1
most_read (Err class) = 0

-- the ends that come before anything is written
abbrev pub IsRefusal : End → Type 0
IsRefusal Done = ⊥
IsRefusal (Usage class) = Unit {0}
IsRefusal ReadFault = Unit {0}
IsRefusal WriteFault = ⊥
IsRefusal (TooLarge limit) = Unit {0}
IsRefusal (BadStream fault) = Unit {0}
IsRefusal (Incomplete generation rank) = Unit {0}
IsRefusal (Mismatch found) = Unit {0}
IsRefusal Memory = ⊥
