-- How the steps of a seed make its end, and the room that a stream takes.
use Rattle.std.proofs.Common.{◌≡◌, ◌⊎◌, ℕ, ◌*◌, ◌≤◌, ◌<◌, List, ◌++◌, length, refl, ap, ◌∙◌, append-nil, inl, inr, ⊎_elim, arith}
use Rattle.std.proofs.Math.Nat.{mul-le-mul_left}
use Rattle.std.proofs.lemmas.Grind.{div_ceil_times}
use Rattle.generation.specs.declared.ticket.Ticket.{Ticket}
use Rattle.src_check.specs.Keys.{key_of_ticket}
use Rattle.src_check.specs.Tickets.{IsTicketOf, file_sums_of}
use Rattle.std.specs.Prelude.{Option, Some, None, IfSome}
use Rattle.std.specs.Io.KnownBytes.{Consumes, IsAtEnd}
use Rattle.avalanche_args.specs.Ranges.{AreSeedWords}
use Rattle.avalanche_args.specs.declared.command.SeedWords.{SeedWords}
use Rattle.generation.specs.Shape.{Dimensions, IsShape, generations_of}
use Rattle.avalanche_cli.specs.Seed.{IsSeedEnd, IsSeedFile, IsSeedRefusal, IsStreamWritten, seed_limit, shape_of_seed, stream_of_seed, ticket_of_seed}
use Rattle.avalanche_cli.specs.declared.end.End.{End}
use Rattle.avalanche_cli.specs.declared.end.End.TheVariants.{Done, Usage, ReadFault, WriteFault, TooLarge, BadStream, Incomplete, Mismatch, Memory}

-- an input that was read to its end
pub told_whole : (before now : Option (List ℕ)) (file : List ℕ) → Consumes before now file → IsAtEnd now → IfSome before (λ all. all ≡ file)
told_whole None now file consumes ended = tt
told_whole (Some all) None file consumes ended = absurd consumes
told_whole (Some all) (Some rest) file consumes ended = consumes ∙ ap (λ (l : List ℕ). file ++ l) ended ∙ append-nil file

-- the stream of a file was written
pub end_of_written : (words : SeedWords) (input before now : Option (List ℕ)) (Same Unread Unwritten Unheld : Type 0) (file stream : List ℕ) (end : End) → IsSeedFile words input file → stream ≡ stream_of_seed words file → IsStreamWritten stream before now Unwritten Unheld end → IsSeedEnd words input before now Same Unread Unwritten Unheld end
end_of_written words input before now Same Unread Unwritten Unheld file stream Done is of written = record { file = file; is = is; gained = rw (← of) written }
end_of_written words input before now Same Unread Unwritten Unheld file stream (Usage class) is of written = absurd written
end_of_written words input before now Same Unread Unwritten Unheld file stream ReadFault is of written = absurd written
end_of_written words input before now Same Unread Unwritten Unheld file stream WriteFault is of written = (record { file = file; is = is; gained = rw (← of) written.0 }, written.1)
end_of_written words input before now Same Unread Unwritten Unheld file stream (TooLarge limit) is of written = absurd written
end_of_written words input before now Same Unread Unwritten Unheld file stream (BadStream fault) is of written = absurd written
end_of_written words input before now Same Unread Unwritten Unheld file stream (Incomplete generation rank) is of written = absurd written
end_of_written words input before now Same Unread Unwritten Unheld file stream (Mismatch found) is of written = absurd written
end_of_written words input before now Same Unread Unwritten Unheld file stream Memory is of written = inr (record { file = file; is = is; gained = rw (← of) written.0 }, written.1)

-- there was none to write
pub end_of_refusal : (words : SeedWords) (input before now : Option (List ℕ)) (Same Unread Unwritten Unheld : Type 0) (end : End) → Same → IsSeedRefusal words input Unread end → IsSeedEnd words input before now Same Unread Unwritten Unheld end
end_of_refusal words input before now Same Unread Unwritten Unheld Done same refusal = absurd refusal
end_of_refusal words input before now Same Unread Unwritten Unheld (Usage class) same refusal = absurd refusal
end_of_refusal words input before now Same Unread Unwritten Unheld ReadFault same refusal = (same, refusal)
end_of_refusal words input before now Same Unread Unwritten Unheld WriteFault same refusal = absurd refusal
end_of_refusal words input before now Same Unread Unwritten Unheld (TooLarge limit) same refusal = (same, refusal)
end_of_refusal words input before now Same Unread Unwritten Unheld (BadStream fault) same refusal = absurd refusal
end_of_refusal words input before now Same Unread Unwritten Unheld (Incomplete generation rank) same refusal = absurd refusal
end_of_refusal words input before now Same Unread Unwritten Unheld (Mismatch found) same refusal = absurd refusal
end_of_refusal words input before now Same Unread Unwritten Unheld Memory same refusal = inl same

-- ---- which end a told input gives

-- an input within the limit
pub end_within : (words : SeedWords) (input before now : Option (List ℕ)) (Same Unread Unwritten Unheld : Type 0) (end : End) → IsSeedEnd words input before now Same Unread Unwritten Unheld end → IfSome input (λ file. length file ≤ seed_limit words → ¬ Unread → ¬ Unwritten → (end ≡ Done) ⊎ (end ≡ Memory))
end_within words None before now Same Unread Unwritten Unheld end is = tt
end_within words (Some file) before now Same Unread Unwritten Unheld Done is = λ within read written. inl refl
end_within words (Some file) before now Same Unread Unwritten Unheld (Usage class) is = λ within read written. absurd is
end_within words (Some file) before now Same Unread Unwritten Unheld ReadFault is = λ within read written. absurd (read is.1)
end_within words (Some file) before now Same Unread Unwritten Unheld WriteFault is = λ within read written. absurd (written is.1)
end_within words (Some file) before now Same Unread Unwritten Unheld (TooLarge limit) is =
    λ within read written. let past : seed_limit words < length file = is.1.1 in absurd (omega arith)
end_within words (Some file) before now Same Unread Unwritten Unheld (BadStream fault) is = λ within read written. absurd is
end_within words (Some file) before now Same Unread Unwritten Unheld (Incomplete generation rank) is = λ within read written. absurd is
end_within words (Some file) before now Same Unread Unwritten Unheld (Mismatch found) is = λ within read written. absurd is
end_within words (Some file) before now Same Unread Unwritten Unheld Memory is = λ within read written. inr refl

-- no stream is given of an input past the limit
not_past : (words : SeedWords) (all file : List ℕ) → IsSeedFile words (Some all) file → seed_limit words < length all → ⊥
not_past words all file is past =
    let same : length all ≡ length file = ap length is.told in
    let within = is.seedable.within in
    absurd (omega arith)

-- an input past it
pub end_past_limit : (words : SeedWords) (input before now : Option (List ℕ)) (Same Unread Unwritten Unheld : Type 0) (end : End) → IsSeedEnd words input before now Same Unread Unwritten Unheld end → IfSome input (λ file. seed_limit words < length file → ¬ Unread → (end ≡ TooLarge (seed_limit words)) ⊎ (end ≡ Memory))
end_past_limit words None before now Same Unread Unwritten Unheld end is = tt
end_past_limit words (Some file) before now Same Unread Unwritten Unheld Done is = λ past read. absurd (not_past words file is.file is.is past)
end_past_limit words (Some file) before now Same Unread Unwritten Unheld (Usage class) is = λ past read. absurd is
end_past_limit words (Some file) before now Same Unread Unwritten Unheld ReadFault is = λ past read. absurd (read is.1)
end_past_limit words (Some file) before now Same Unread Unwritten Unheld WriteFault is = λ past read. absurd (not_past words file is.0.file is.0.is past)
end_past_limit words (Some file) before now Same Unread Unwritten Unheld (TooLarge limit) is = λ past read. inl (ap TooLarge is.1.0)
end_past_limit words (Some file) before now Same Unread Unwritten Unheld (BadStream fault) is = λ past read. absurd is
end_past_limit words (Some file) before now Same Unread Unwritten Unheld (Incomplete generation rank) is = λ past read. absurd is
end_past_limit words (Some file) before now Same Unread Unwritten Unheld (Mismatch found) is = λ past read. absurd is
end_past_limit words (Some file) before now Same Unread Unwritten Unheld Memory is = λ past read. inr refl

-- ---- the shape and the ticket

-- a multiple below another one
fewer : (a b m : ℕ) → a * m < b * m → a < b
fewer a b m less = ⊎_elim (λ (below : a < b). below) (λ (past : b ≤ a). let more : m * b ≤ m * a = mul-le-mul_left m past in absurd (omega arith)) (below_or_past a b)
  where
    below_or_past : (x y : ℕ) → (x < y) ⊎ (y ≤ x)
    below_or_past x y = grind arith

few_generations : (d : Dimensions) → 0 < d.k * d.block → d.len ≤ 256 * (d.k * d.block) → generations_of d ≤ 256
unfolding generations_of
few_generations d some within =
    let times = div_ceil_times d.len (d.k * d.block) some in
    let below : generations_of d * (d.k * d.block) < 257 * (d.k * d.block) = omega (arith, times.1) in
    let less = fewer (generations_of d) 257 (d.k * d.block) below in
    omega arith

-- words in range cut a file within their limit
pub is_shape : (words : SeedWords) (file : List ℕ) → AreSeedWords words → length file ≤ seed_limit words → IsShape (shape_of_seed words file)
is_shape words file in_range within =
    let some : 0 < words.k * words.block = grind arith in
    record {
      k = in_range.k;
      block = in_range.block;
      len = omega arith;
      generations = few_generations (shape_of_seed words file) some (omega arith);
    }

pub is_ticket_of_seed : (words : SeedWords) (file : List ℕ) (d : Dimensions) (ticket : Ticket) → d ≡ shape_of_seed words file → ticket.key ≡ key_of_ticket words.key words.peer → ticket.checks ≡ words.checks → IsTicketOf d file ticket → ticket ≡ ticket_of_seed words file
is_ticket_of_seed words file d ticket same key checks sums =
    let all : ticket.sums ≡ file_sums_of (shape_of_seed words file) file (key_of_ticket words.key words.peer) words.checks = cc in
    let is : record { key = ticket.key; checks = ticket.checks; sums = ticket.sums } ≡ ticket_of_seed words file = cc in
    is
