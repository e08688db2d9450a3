-- What the steps of a reception know of a stream's packets once they are received: for its private functions.
-- bases: those of all generations, in order. packets: a list for each generation.
use Rattle.std.specs.Prelude.{◌≡◌, ◌≢◌, ◌+◌, ◌<◌, ◌≤◌, ℕ, List, [], ◌∷◌, ◌++◌, length, map, take, slice_index_or, Result, Ok, Err}
use Rattle.std.specs.List.{All, flat_map}
use Rattle.sha2.specs.Sha256.{sha256}
use Rattle.linear_spec.specs.List.{ListValue}
use Rattle.linear_spec.specs.declared.packet.Packet.{Packet}
use Rattle.linear_spec.specs.Packet.{Fits}
use Rattle.linear_spec.specs.Rows.{StandForAll}
use Rattle.linear_spec.specs.SequentialBasis.{packets_of}
use Rattle.linear_spec.specs.Solving.{Solves, IsOnlySolution}
use Rattle.linear_spec.specs.Symbols.{be_bytes_of}
use Rattle.basis_core.specs.declared.trace.BasisTrace.{BasisTrace}
use Rattle.shared_basis.specs.declared.params.Closed.{Closed}
use Rattle.generation.specs.Shape.{Dimensions, IsShape, generations_of, symbols_per_block}
use Rattle.packet_wire.specs.declared.manifest.Manifest.{Manifest}
use Rattle.packet_wire.specs.Stream.{Contents}
use Rattle.avalanche_cli.specs.Files.{IsFirstIncomplete, IsOnlyFileOf, SolveEach, recorded_packets}
use Rattle.avalanche_cli.specs.Packets.{HasFullRank}
use Rattle.avalanche_cli.specs.declared.trace.Trace.{Trace}
use Rattle.avalanche_cli.specs.declared.reception.NoFile.{NoFile}
use Rattle.avalanche_cli.specs.declared.reception.NoFile.TheVariants.{Incomplete, Mismatch, Memory}

-- ---- what is told of a stream

-- all generations have full rank, and the only file of the bases has the manifest's digest
pub record HasGoodFile (contents : Contents) (trace : Trace) (file : List ℕ) : Type 0 where
  pub full : HasFullRank contents
  pub is_file : IsOnlyFileOf contents.manifest.shape (recorded_packets trace.bases.items) file
  pub digest : sha256 file ≡ contents.manifest.digest

-- all generations have full rank, and the only file of the bases has this digest, which is not the manifest's
pub record HasBadFile (contents : Contents) (trace : Trace) (found : List ℕ) : Type 0 where
  pub full : HasFullRank contents
  pub file : List ℕ
  pub is_file : IsOnlyFileOf contents.manifest.shape (recorded_packets trace.bases.items) file
  pub found_is : found ≡ sha256 file
  pub differs : found ≢ contents.manifest.digest

-- what is told of a stream: its file, or why it gives none
abbrev pub IsJudged : Contents → Trace → Result (ListValue ℕ) NoFile → Type 0
IsJudged contents trace (Ok file) = HasGoodFile contents trace file.items
IsJudged contents trace (Err (Incomplete generation rank)) = IsFirstIncomplete contents generation rank
IsJudged contents trace (Err (Mismatch found)) = HasBadFile contents trace found
IsJudged contents trace (Err Memory) = Unit {0}

-- ---- what the bases tell

-- the packets that each basis recorded
abbrev pub packets_in : List Closed → List (List Packet)
packets_in bases = map (λ basis. packets_of basis.records.items) bases

-- a closed basis for packets of k coefficients and s symbols: its rows stand for its records, which are k at most
pub record IsClosedBasis (k s : ℕ) (basis : Closed) : Type 0 where
  pub fit : All (Fits k s) (packets_of basis.records.items)
  pub stand : StandForAll k s (packets_of basis.records.items) basis.rows.items
  pub at_most : length basis.records.items ≤ k

-- a closed basis for each generation of the shape, for packets of its lengths
pub record HaveShape (shape : Dimensions) (bases : List Closed) : Type 0 where
  pub is_shape : IsShape shape
  pub count : length bases ≡ generations_of shape
  pub each : All (IsClosedBasis shape.k (symbols_per_block shape)) bases

-- the basis has k records at most
abbrev pub HasAtMost : ℕ → Closed → Type 0
HasAtMost k basis = length basis.records.items ≤ k

-- the basis has k records
abbrev pub IsFull : ℕ → Closed → Type 0
IsFull k basis = length basis.records.items ≡ k

-- the first basis that has fewer records than k, and their number
pub record IsFirstLow (k : ℕ) (bases : List Closed) (generation rank : ℕ) : Type 0 where
  pub below : generation < length bases
  pub rank_is : (other : Closed) → rank ≡ length (slice_index_or bases generation other).records.items
  pub low : rank < k
  pub full_before : All (IsFull k) (take generation bases)

-- why not all bases are full
abbrev pub IsShort : ℕ → List Closed → NoFile → Type 0
IsShort k bases (Incomplete generation rank) = IsFirstLow k bases generation rank
IsShort k bases (Mismatch found) = ⊥
IsShort k bases Memory = ⊥

-- to some bytes those of the only blocks that solve a basis were appended
pub record AppendsSolution (k s : ℕ) (basis : Closed) (before after : List ℕ) : Type 0 where
  pub blocks : List (List ℕ)
  pub solves : Solves k s (packets_of basis.records.items) blocks
  pub only : IsOnlySolution k s (packets_of basis.records.items) blocks
  pub appended : after ≡ before ++ flat_map be_bytes_of blocks

-- the bytes of the only blocks that solve these packets
pub record AreSolvedBytes (k s : ℕ) (packets : List (List Packet)) (bytes : List ℕ) : Type 0 where
  pub blocks : List (List (List ℕ))
  pub solve : SolveEach k s packets blocks
  pub only : (others : List (List (List ℕ))) → SolveEach k s packets others → others ≡ blocks
  pub bytes_are : bytes ≡ flat_map be_bytes_of (flat_map (λ generation. generation) blocks)

-- all bases are full, and their only file has this digest, which is not the manifest's
pub record HaveOtherDigest (manifest : Manifest) (bases : List Closed) (found : List ℕ) : Type 0 where
  pub full : All (IsFull manifest.shape.k) bases
  pub file : List ℕ
  pub is_file : IsOnlyFileOf manifest.shape (packets_in bases) file
  pub found_is : found ≡ sha256 file
  pub differs : found ≢ manifest.digest

-- why the bases give no file with the manifest's digest
abbrev pub IsStop : Manifest → List Closed → NoFile → Type 0
IsStop manifest bases (Incomplete generation rank) = IsFirstLow manifest.shape.k bases generation rank
IsStop manifest bases (Mismatch found) = HaveOtherDigest manifest bases found
IsStop manifest bases Memory = Unit {0}

-- ---- what is kept of the bases

-- a closed basis as a trace has it: peer 0's, of this generation
abbrev pub trace_of : ℕ → Closed → BasisTrace
trace_of generation basis = record { peer = 0; generation = generation; records = basis.records; callers = basis.callers }

-- those of closed bases, of the generations from this one on
abbrev pub traces_of : ℕ → List Closed → List BasisTrace
traces_of generation [] = []
traces_of generation (basis ∷ bases) = trace_of generation basis ∷ traces_of (generation + 1) bases
