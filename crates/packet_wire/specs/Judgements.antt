-- What is judged of a frame while its bytes come (docs/FORMATS.md). A front is the bytes of a frame that are there so far.
use Rattle.std.specs.Prelude.{ℕ, ◌+◌, ◌*◌, ◌%◌, Bool, false, not, ◌&&◌, ◌||◌, ◌==◌, nat_le, nat_lt, if◌then◌else◌, List, [], ◌∷◌, ◌++◌, length, slice_index, Option, Some, None}
use Rattle.std.specs.List.{list_any}
use Rattle.generation.specs.Shape.{Dimensions, generations_of, symbols_per_block}
use Rattle.packet_wire.specs.declared.fault.FaultKind.{FaultKind}
use Rattle.packet_wire.specs.declared.fault.FaultKind.TheVariants as faults
use Rattle.packet_wire.specs.declared.fault.WireFault.{WireFault}
use Rattle.packet_wire.specs.declared.phase.Phase.{Phase}
use Rattle.packet_wire.specs.declared.phase.Phase.TheVariants.{BeforeManifest, BeforeTicket, BeforeEnd, Ended}

-- ---- the numbers of a frame

-- the numbers of two, four and eight bytes from a place on, the high byte first
abbrev pub number16_at : List ℕ → ℕ → ℕ
number16_at bytes i = slice_index bytes i * 256 + slice_index bytes (i + 1)

abbrev pub number32_at : List ℕ → ℕ → ℕ
number32_at bytes i = number16_at bytes i * 65536 + number16_at bytes (i + 2)

abbrev pub number64_at : List ℕ → ℕ → ℕ
number64_at bytes i = number32_at bytes i * 4294967296 + number32_at bytes (i + 4)

-- the kind that a head tells, and the length of the body
abbrev pub kind_in : List ℕ → ℕ
kind_in front = slice_index front 5

abbrev pub body_len_in : List ℕ → ℕ
body_len_in front = number32_at front 6

-- the shape that a manifest's frame tells
abbrev pub shape_in : List ℕ → Dimensions
shape_in front = record { len = number64_at front 10; k = number16_at front 18; block = number16_at front 20 }

-- ---- the judgements

-- A judgement falls when the frame has `at` bytes. Where it does not pass, the fault has this kind, at the byte `offset` of
-- the frame.
pub record Judgement : Type 0 where
  pub at : ℕ
  pub passes : Bool
  pub kind : FaultKind
  pub offset : ℕ

abbrev pub judge : ℕ → Bool → FaultKind → ℕ → Judgement
judge at passes kind offset = record { at = at; passes = passes; kind = kind; offset = offset }

-- which version a frame may have, by how far the stream has come: the first alone, so far
abbrev pub may_have_version : Phase → ℕ → Bool
may_have_version BeforeManifest version = version == 1
may_have_version (BeforeTicket _) version = version == 1
may_have_version (BeforeEnd _) version = version == 1
may_have_version Ended _ = false

-- which kinds there are, and which of them may follow
abbrev pub is_kind : Phase → ℕ → Bool
is_kind BeforeManifest kind = nat_le 1 kind && nat_le kind 4
is_kind (BeforeTicket _) kind = nat_le 1 kind && nat_le kind 4
is_kind (BeforeEnd _) kind = nat_le 1 kind && nat_le kind 4
is_kind Ended _ = false

abbrev pub may_follow : Phase → ℕ → Bool
may_follow BeforeManifest kind = kind == 1
may_follow (BeforeTicket _) kind = kind == 2
may_follow (BeforeEnd _) kind = kind == 3 || kind == 4
may_follow Ended _ = false

-- the length of the body of a ticket with this many checks, and of a packet
abbrev pub ticket_len : Dimensions → ℕ → ℕ
ticket_len shape checks = 33 + 2 * checks * generations_of shape * shape.k

abbrev pub packet_len : Dimensions → ℕ
packet_len shape = 2 + 2 * shape.k + 2 * symbols_per_block shape

-- how many checks a ticket may have
abbrev pub check_counts : List ℕ
check_counts = 0 ∷ 1 ∷ 2 ∷ 3 ∷ 4 ∷ 5 ∷ 6 ∷ 7 ∷ 8 ∷ []

-- the body of a frame of this kind may have this length
abbrev pub fits_kind : Phase → ℕ → ℕ → Bool
fits_kind BeforeManifest kind len = len == 44
fits_kind (BeforeTicket shape) kind len = list_any (λ checks. len == ticket_len shape checks) check_counts
fits_kind (BeforeEnd shape) kind len = if kind == 3 then len == packet_len shape else len == 0
fits_kind Ended kind len = false

-- the head: the letters AVLN, the version, the kind, and the length of the body
unfoldable pub head_judgements : Phase → List ℕ → List Judgement
head_judgements phase front =
    judge 1 (slice_index front 0 == 65) faults.BadMagic 0
    ∷ judge 2 (slice_index front 1 == 86) faults.BadMagic 1
    ∷ judge 3 (slice_index front 2 == 76) faults.BadMagic 2
    ∷ judge 4 (slice_index front 3 == 78) faults.BadMagic 3
    ∷ judge 5 (may_have_version phase (slice_index front 4)) faults.BadVersion 4
    ∷ judge 6 (is_kind phase (kind_in front)) faults.BadKind 5
    ∷ judge 6 (may_follow phase (kind_in front)) faults.OutOfOrder 5
    ∷ judge 10 (fits_kind phase (kind_in front) (body_len_in front)) faults.BadLength 6
    ∷ []

-- a manifest: the length of the file, K, B, and how many generations they give
abbrev pub manifest_judgements : List ℕ → List Judgement
manifest_judgements front =
    judge 18 (nat_le (number64_at front 10) 16777216) faults.BadField 10
    ∷ judge 20 (nat_le 1 (number16_at front 18) && nat_le (number16_at front 18) 64) faults.BadField 18
    ∷ judge 22 (number16_at front 20 % 2 == 0 && nat_le 2 (number16_at front 20) && nat_le (number16_at front 20) 4096)
    faults.BadField 20
    ∷ judge 22 (nat_le (generations_of (shape_in front)) 256) faults.BadField 20
    ∷ []

-- a ticket: the number of its checks, which the length has to agree with
abbrev pub ticket_judgements : Dimensions → List ℕ → List Judgement
ticket_judgements shape front =
    judge 43 (nat_le (slice_index front 42) 8 && body_len_in front == ticket_len shape (slice_index front 42))
    faults.BadField 42
    ∷ []

-- a packet: its generation. The frame of an end is whole before this falls
abbrev pub packet_judgements : Dimensions → List ℕ → List Judgement
packet_judgements shape front = judge 12 (nat_lt (number16_at front 10) (generations_of shape)) faults.BadField 10 ∷ []

-- the body, after the head
unfoldable pub body_judgements : Phase → List ℕ → List Judgement
body_judgements BeforeManifest front = manifest_judgements front
body_judgements (BeforeTicket shape) front = ticket_judgements shape front
body_judgements (BeforeEnd shape) front = packet_judgements shape front
body_judgements Ended front = []

-- all judgements of a frame, in their order. After the end no byte may come
unfoldable pub judgements : Phase → List ℕ → List Judgement
judgements Ended front = judge 1 false faults.AfterEnd 0 ∷ []
judgements phase front = head_judgements phase front ++ body_judgements phase front

-- no fault where a judgement passes, else this one
abbrev pub unless_fault : Bool → FaultKind → ℕ → Option WireFault
unless_fault passes kind offset = if passes then None else Some (record { offset = offset; kind = kind })

-- the first of the judgements that fall at this many bytes and do not pass, as the fault it finds
abbrev pub first_failure : List Judgement → ℕ → Option WireFault
first_failure [] count = None
first_failure (j ∷ js) count =
    if j.at == count && not j.passes then Some (record { offset = j.offset; kind = j.kind }) else first_failure js count

-- the fault that the last byte of a front brings
abbrev pub fault_at : Phase → List ℕ → Option WireFault
fault_at phase front = first_failure (judgements phase front) (length front)
