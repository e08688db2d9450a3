-- What the regions that a seat has read say: records and rows. For the private functions, and for the view of a pass.
-- v, w: the view of a caller before and after a call. front: the regions that it knows. more: the words of regions that it found.
use Rattle.std.specs.Prelude.{◌≡◌, ◌≢◌, ◌⊎◌, ℕ, ◌+◌, ◌*◌, ◌<◌, ◌≤◌, List, ◌++◌, length, map}
use Rattle.std.specs.List.{All}
use Rattle.linear_spec.specs.declared.packet.Packet.{Packet}
use Rattle.linear_spec.specs.declared.record.Record.{Record}
use Rattle.linear_spec.specs.declared.reply.Reply.{Reply}
use Rattle.linear_spec.specs.SequentialBasis.{IsCaseReply, recorded}
use Rattle.table_rows.specs.declared.view.Parameters.{Parameters}
use Rattle.table_rows.specs.declared.view.CallerView.{CallerView}
use Rattle.table_rows.specs.Good.{packet_at, row_at}
use Rattle.table_rows.specs.Layout.{caller_in, record_in}
use Rattle.table_rows.specs.Views.{width_of, words_read}

-- the record in a region
abbrev pub record_at : Parameters → List ℕ → Record
record_at p region = record_in p.generation p.k p.s region

-- the regions that a caller knows, its packets, rows and records
abbrev pub regions_seen : CallerView → List (List ℕ)
regions_seen v = words_read v.sight.front

abbrev pub packets_seen : CallerView → List Packet
packets_seen v = map (packet_at v.sight.parameters) (regions_seen v)

abbrev pub rows_seen : CallerView → List Packet
rows_seen v = map (row_at v.sight.parameters) (regions_seen v)

abbrev pub records_seen : CallerView → List Record
records_seen v = map (record_at v.sight.parameters) (regions_seen v)

-- the same caller, which appended nothing and looked at no empty word, has found these regions and read them
pub record HasFound (more : List (List ℕ)) (v w : CallerView) : Type 0 where
  pub parameters : w.sight.parameters ≡ v.sight.parameters
  pub number : w.number ≡ v.number
  pub own : w.own ≡ v.own
  pub regions : regions_seen w ≡ regions_seen v ++ more
  pub moves : w.moves ≡ v.moves + length more
  pub reads : w.reads ≡ v.reads + length more * width_of v.sight.parameters
  pub empty_looks : w.empty_looks ≡ v.empty_looks
  pub last_empty : w.last_empty ≡ v.last_empty

-- the same, and at the end all k regions are known, or a look found nothing behind those that are
pub record HasLookedOn (k : ℕ) (v w : CallerView) : Type 0 where
  pub more : List (List ℕ)
  pub parameters : w.sight.parameters ≡ v.sight.parameters
  pub number : w.number ≡ v.number
  pub own : w.own ≡ v.own
  pub regions : regions_seen w ≡ regions_seen v ++ more
  pub moves : w.moves ≤ v.moves + length more + 1
  pub reads : w.reads ≡ v.reads + length more * width_of v.sight.parameters
  pub ended : (length (regions_seen w) ≡ k) ⊎ ((v.empty_looks < w.empty_looks) × (w.last_empty ≡ length (regions_seen w)))

-- the same view, but that so many words at most were read
pub record HasReread (most : ℕ) (v w : CallerView) : Type 0 where
  pub view : w ≡ record v { reads = w.reads }
  pub reads : w.reads ≤ v.reads + most

-- a passing packet, offered as this call, has this reply: the caller found some regions first, all of other callers; the reply
-- is the packet's case at what was then seen, and an innovative one is the next record
pub record HasSettled (call : ℕ) (packet : Packet) (v w : CallerView) (reply : Reply) : Type 0 where
  pub more : List (List ℕ)
  pub parameters : w.sight.parameters ≡ v.sight.parameters
  pub number : w.number ≡ v.number
  pub others : All (λ region. caller_in region ≢ v.number) more
  pub case : IsCaseReply v.sight.parameters.k v.sight.parameters.s (map (packet_at v.sight.parameters) (regions_seen v ++ more)) packet reply
  pub records : records_seen w
      ≡ map (record_at v.sight.parameters) (regions_seen v ++ more) ++ recorded (record { caller = v.number; call = call; packet = packet }) reply
  pub moves : w.moves + length (regions_seen v) ≤ v.moves + length (regions_seen w)
  pub reads : w.reads ≤ v.reads + length more * width_of v.sight.parameters
  pub empty_looks : w.empty_looks ≡ v.empty_looks
  pub last_empty : w.last_empty ≡ v.last_empty
