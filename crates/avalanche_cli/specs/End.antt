-- How a run ends: the process status of each end, and the end that each lower error becomes.
use Rattle.std.specs.Prelude.{ℕ}
use Rattle.swarm_io.specs.declared.reading.ReadAllError.{ReadAllError}
use Rattle.swarm_io.specs.declared.reading.ReadAllError.TheVariants as reading
use Rattle.swarm_io.specs.declared.writing.WriteAllError.{WriteAllError}
use Rattle.swarm_io.specs.declared.writing.WriteAllError.TheVariants as writing
use Rattle.avalanche_args.specs.declared.usage.ArgsError.{ArgsError}
use Rattle.avalanche_args.specs.declared.usage.ArgsError.TheVariants as words
use Rattle.avalanche_cli.specs.declared.end.End.{End}
use Rattle.avalanche_cli.specs.declared.end.End.TheVariants.{Done, Usage, ReadFault, WriteFault, TooLarge, BadStream, Incomplete, Mismatch, Memory}

-- the process status
abbrev pub status_of : End → ℕ
status_of Done = 0
status_of (Usage class) = 1
status_of ReadFault = 2
status_of WriteFault = 3
status_of (TooLarge limit) = 4
status_of (BadStream fault) = 5
status_of (Incomplete generation rank) = 6
status_of (Mismatch found) = 7
status_of Memory = 8

-- the end of a run whose words ask for no command
abbrev pub end_of_words : ArgsError → End
end_of_words (words.Usage class) = Usage class
end_of_words words.Memory = Memory

-- the end of a run whose input was not read whole, for this limit
abbrev pub end_of_read : ℕ → ReadAllError → End
end_of_read limit reading.ReadFault = ReadFault
end_of_read limit reading.TooLarge = TooLarge limit
end_of_read limit reading.Memory = Memory

-- the end of a run whose output was not written whole
abbrev pub end_of_write : WriteAllError → End
end_of_write writing.WriteFault = WriteFault
end_of_write writing.Memory = Memory
