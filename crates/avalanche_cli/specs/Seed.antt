-- What `seed` does with its input: the stream that it writes of a file, and how it ends.
-- words: what it is to do. file: the bytes of the input. d: the dimensions of the file's shape. g: a generation, from 0.
-- before, now: what a sink holds, where it tells that. Same: that the output is as it was. Unread, Unwritten, Unheld: that
-- the counts of the input's faults, of the output's faults and of the output's wants rose.
use Rattle.std.specs.Prelude.{◌≡◌, ◌⊎◌, ◌+◌, ◌*◌, ◌<◌, ◌≤◌, ◌++◌, ℕ, List, [], Option, IfSome, length, map, min}
use Rattle.std.specs.Prelude.{if◌then◌else◌}
use Rattle.std.specs.List.{flat_map, range_with_len}
use Rattle.std.specs.Io.KnownBytes.{Appends}
use Rattle.sha2.specs.Sha256.{sha256}
use Rattle.linear_spec.specs.declared.packet.Packet.{Packet}
use Rattle.linear_spec.specs.Symbols.{AreBytes}
use Rattle.swarm_io.specs.Moved.{AppendsPrefix}
use Rattle.generation.specs.declared.ticket.Ticket.{Ticket}
use Rattle.generation.specs.Shape.{Dimensions, generations_of, symbols_per_block}
use Rattle.src_check.specs.Keys.{key_of_number, key_of_ticket}
use Rattle.src_check.specs.Tickets.{file_sums_of}
use Rattle.recode.specs.Draws.{drawn_packet, numbers_of}
use Rattle.recode.specs.Systematic.{systematic_packet}
use Rattle.packet_wire.specs.declared.manifest.Manifest.{Manifest}
use Rattle.packet_wire.specs.Stream.{Contents, spelling_of}
use Rattle.avalanche_args.specs.declared.command.SeedWords.{SeedWords}
use Rattle.avalanche_args.specs.Ranges.{AreSeedWords}
use Rattle.avalanche_cli.specs.declared.end.End.{End}
use Rattle.avalanche_cli.specs.declared.end.End.TheVariants.{Done, Usage, ReadFault, WriteFault, TooLarge, BadStream, Incomplete, Mismatch, Memory}

-- ---- the words

-- the most bytes that a file may have: 16 MiB, or as many as 256 generations have room for where that is less
abbrev pub seed_limit : SeedWords → ℕ
seed_limit words = min 16777216 (256 * (words.k * words.block))

-- the words are in range, and this file of bytes is within their limit
pub record IsSeedable (words : SeedWords) (file : List ℕ) : Type 0 where
  pub in_range : AreSeedWords words
  pub are_bytes : AreBytes file
  pub within : length file ≤ seed_limit words

-- how a file is cut
abbrev pub shape_of_seed : SeedWords → List ℕ → Dimensions
shape_of_seed words file = record { len = length file; k = words.k; block = words.block }

-- ---- the stream

-- a packet for each column of a generation
unfoldable pub generation_packets_of : Dimensions → List ℕ → ℕ → List Packet
generation_packets_of d file g = map (systematic_packet d file g) (range_with_len 0 d.k)

-- the file's shape and its digest
abbrev pub manifest_of_seed : SeedWords → List ℕ → Manifest
manifest_of_seed words file = record { shape = shape_of_seed words file; digest = sha256 file }

-- the peer's ticket: its key, and the file's weighted sums by that key
abbrev pub ticket_of_seed : SeedWords → List ℕ → Ticket
ticket_of_seed words file = record {
  key = key_of_ticket words.key words.peer;
  checks = words.checks;
  sums = file_sums_of (shape_of_seed words file) file (key_of_ticket words.key words.peer) words.checks;
}

-- a draw over all packets of a generation, on link 0; q is its number there
abbrev pub seed_draw : SeedWords → List ℕ → ℕ → ℕ → Packet
seed_draw words file g q = let d = shape_of_seed words file in
    drawn_packet d.k (symbols_per_block d) g (key_of_number words.key) 0 q (generation_packets_of d file g)

-- the draws of a generation
abbrev pub seed_draws_of : SeedWords → List ℕ → ℕ → List Packet
seed_draws_of words file g = map (seed_draw words file g) (numbers_of words.coded g)

-- the packets of a generation that the words ask for: its blocks, unless they are left out, and then its draws
abbrev pub seed_packets_of : SeedWords → List ℕ → ℕ → List Packet
seed_packets_of words file g =
    (if words.bare then [] else generation_packets_of (shape_of_seed words file) file g) ++ seed_draws_of words file g

-- those of all generations, in order
abbrev pub packets_of_seed : SeedWords → List ℕ → List Packet
packets_of_seed words file = flat_map (seed_packets_of words file) (range_with_len 0 (generations_of (shape_of_seed words file)))

-- what the stream of a file holds
abbrev pub contents_of_seed : SeedWords → List ℕ → Contents
contents_of_seed words file = record {
  manifest = manifest_of_seed words file;
  ticket = ticket_of_seed words file;
  packets = packets_of_seed words file;
}

-- and its bytes
abbrev pub stream_of_seed : SeedWords → List ℕ → List ℕ
stream_of_seed words file = spelling_of (contents_of_seed words file)

-- the packets of each generation
abbrev pub seed_count_of : SeedWords → ℕ
seed_count_of words = (if words.bare then 0 else words.k) + words.coded

-- the bytes of a stream with so many packets: 107 for the frames of the manifest, a ticket with no sums, and the end; two for each
-- sum, one of each block for each check; and those of a packet's frame for each packet
abbrev pub stream_room_of : Dimensions → ℕ → ℕ → ℕ
stream_room_of d checks packets =
    107 + 2 * (generations_of d * checks * d.k) + packets * (12 + 2 * d.k + d.block)

-- ---- how a run ends

-- the input is this file, so far as it tells its bytes, and it can be seeded
pub record IsSeedFile (words : SeedWords) (input : Option (List ℕ)) (file : List ℕ) : Type 0 where
  pub told : IfSome input (λ all. all ≡ file)
  pub seedable : IsSeedable words file

-- the output gained the stream of the input
pub record GivesStream (words : SeedWords) (input before now : Option (List ℕ)) : Type 0 where
  pub file : List ℕ
  pub is : IsSeedFile words input file
  pub gained : Appends before now (stream_of_seed words file)

-- the output gained a prefix of it
pub record GivesStreamPrefix (words : SeedWords) (input before now : Option (List ℕ)) : Type 0 where
  pub file : List ℕ
  pub is : IsSeedFile words input file
  pub gained : AppendsPrefix before now (stream_of_seed words file)

-- the input has more bytes than the limit, where it tells them
abbrev pub IsPastLimit : SeedWords → Option (List ℕ) → Type 0
IsPastLimit words input = IfSome input (λ all. seed_limit words < length all)

-- how a seed ends
abbrev pub IsSeedEnd : SeedWords → Option (List ℕ) → Option (List ℕ) → Option (List ℕ)
    → Type 0 → Type 0 → Type 0 → Type 0 → End → Type 0
IsSeedEnd words input before now Same Unread Unwritten Unheld Done = GivesStream words input before now
IsSeedEnd words input before now Same Unread Unwritten Unheld (Usage class) = ⊥
IsSeedEnd words input before now Same Unread Unwritten Unheld ReadFault = Same × Unread
IsSeedEnd words input before now Same Unread Unwritten Unheld WriteFault =
    GivesStreamPrefix words input before now × Unwritten
IsSeedEnd words input before now Same Unread Unwritten Unheld (TooLarge limit) =
    Same × ((limit ≡ seed_limit words) × IsPastLimit words input)
IsSeedEnd words input before now Same Unread Unwritten Unheld (BadStream fault) = ⊥
IsSeedEnd words input before now Same Unread Unwritten Unheld (Incomplete generation rank) = ⊥
IsSeedEnd words input before now Same Unread Unwritten Unheld (Mismatch found) = ⊥
IsSeedEnd words input before now Same Unread Unwritten Unheld Memory =
    Same ⊎ (GivesStreamPrefix words input before now × Unheld)

-- why no stream was made
abbrev pub IsSeedRefusal : SeedWords → Option (List ℕ) → Type 0 → End → Type 0
IsSeedRefusal words input Unread Done = ⊥
IsSeedRefusal words input Unread (Usage class) = ⊥
IsSeedRefusal words input Unread ReadFault = Unread
IsSeedRefusal words input Unread WriteFault = ⊥
IsSeedRefusal words input Unread (TooLarge limit) = (limit ≡ seed_limit words) × IsPastLimit words input
IsSeedRefusal words input Unread (BadStream fault) = ⊥
IsSeedRefusal words input Unread (Incomplete generation rank) = ⊥
IsSeedRefusal words input Unread (Mismatch found) = ⊥
IsSeedRefusal words input Unread Memory = Unit {0}

-- how writing a stream ends
abbrev pub IsStreamWritten : List ℕ → Option (List ℕ) → Option (List ℕ) → Type 0 → Type 0 → End → Type 0
IsStreamWritten stream before now Unwritten Unheld Done = Appends before now stream
IsStreamWritten stream before now Unwritten Unheld (Usage class) = ⊥
IsStreamWritten stream before now Unwritten Unheld ReadFault = ⊥
IsStreamWritten stream before now Unwritten Unheld WriteFault = AppendsPrefix before now stream × Unwritten
IsStreamWritten stream before now Unwritten Unheld (TooLarge limit) = ⊥
IsStreamWritten stream before now Unwritten Unheld (BadStream fault) = ⊥
IsStreamWritten stream before now Unwritten Unheld (Incomplete generation rank) = ⊥
IsStreamWritten stream before now Unwritten Unheld (Mismatch found) = ⊥
IsStreamWritten stream before now Unwritten Unheld Memory = AppendsPrefix before now stream × Unheld
