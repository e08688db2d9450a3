-- The line on the error output for each end (docs/FORMATS.md).
use Rattle.std.specs.Prelude.{ℕ, List, [], ◌∷◌, ◌++◌, codes, decimal}
use Rattle.hex.specs.Hex.{encode_lower}
use Rattle.avalanche_args.specs.declared.usage.WordClass.{WordClass}
use Rattle.avalanche_args.specs.declared.usage.WordClass.TheVariants.{NoCommand, UnknownCommand, BadWords, BadNumber, BadChoice, BadPair}
use Rattle.avalanche_args.specs.Options.{text_of}
use Rattle.packet_wire.specs.declared.fault.FaultKind.{FaultKind}
use Rattle.packet_wire.specs.declared.fault.FaultKind.TheVariants.{BadMagic, BadVersion, BadKind, BadLength, BadField, OutOfOrder, Truncated, AfterEnd}
use Rattle.avalanche_cli.specs.declared.end.End.{End}
use Rattle.avalanche_cli.specs.declared.end.End.TheVariants.{Done, Usage, ReadFault, WriteFault, TooLarge, BadStream, Incomplete, Mismatch, Memory}

-- what is wrong with the words, in words
abbrev pub text_of_class : WordClass → List ℕ
text_of_class NoCommand = codes "no command"
text_of_class UnknownCommand = codes "unknown command"
text_of_class BadWords = codes "bad words"
text_of_class (BadNumber option) = codes "bad number " ++ text_of option
text_of_class (BadChoice option) = codes "bad choice " ++ text_of option
text_of_class (BadPair option) = codes "bad pair " ++ text_of option

-- the name of a kind of fault
abbrev pub name_of_kind : FaultKind → List ℕ
name_of_kind BadMagic = codes "BadMagic"
name_of_kind BadVersion = codes "BadVersion"
name_of_kind BadKind = codes "BadKind"
name_of_kind BadLength = codes "BadLength"
name_of_kind BadField = codes "BadField"
name_of_kind OutOfOrder = codes "OutOfOrder"
name_of_kind Truncated = codes "Truncated"
name_of_kind AfterEnd = codes "AfterEnd"

-- the end in words; numbers are decimal, and a digest is in hexadecimal digits
abbrev pub text_of_end : End → List ℕ
text_of_end Done = []
text_of_end (Usage class) = codes "usage: " ++ text_of_class class
text_of_end ReadFault = codes "read fault"
text_of_end WriteFault = codes "write fault"
text_of_end (TooLarge limit) = codes "too large: limit " ++ (decimal limit ++ codes " bytes")
text_of_end (BadStream fault) = codes "bad stream: " ++ (name_of_kind fault.kind ++ (codes " at " ++ decimal fault.offset))
text_of_end (Incomplete generation rank) =
    codes "incomplete: generation " ++ (decimal generation ++ (codes " rank " ++ decimal rank))
text_of_end (Mismatch found) = codes "mismatch: found " ++ encode_lower found
text_of_end Memory = codes "out of memory"

-- a line of the program: its name, the text, and one line feed
abbrev pub program_line : List ℕ → List ℕ
program_line text = codes "avalanche: " ++ (text ++ 10 ∷ [])

-- the line of an end: none where all was done
abbrev pub line_of : End → List ℕ
line_of Done = []
line_of end = program_line (text_of_end end)
