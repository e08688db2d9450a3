-- What contracts see of a shared basis and of its passes.
-- table: which words they share. parameters: generation, K, S, the number of passes, and the equations.
use Rattle.std.specs.Prelude.{◌≡◌, ℕ, ◌+◌, ◌<◌, ◌≤◌, ◌^◌, List, [], ◌∷◌, length, replicate, Option, Some, None}
use Rattle.atomic_table.specs.Seated.{TableId}
use Rattle.linear_spec.specs.declared.packet.Packet.{Packet}
use Rattle.linear_spec.specs.declared.record.Record.{Record}
use Rattle.linear_spec.specs.Passing.{AreEquations}
use Rattle.linear_spec.specs.List.{ListValue}
use Rattle.basis_core.specs.declared.trace.Answer.{Answer}
use Rattle.basis_core.specs.declared.trace.Answer.TheVariants.{Offered, Drew}
use Rattle.basis_core.specs.declared.trace.Call.{Call}
use Rattle.basis_core.specs.Calls.{KeptCall, KeptOffer, KeptDraw}
use Rattle.basis_core.specs.Legal.{HaveSeenAtMost, IsLegalHistory}
use Rattle.basis_core.specs.Merge.{only}
use Rattle.table_rows.specs.declared.view.Parameters.{Parameters}
use Rattle.table_rows.specs.declared.view.FounderView.{FounderView}
use Rattle.table_rows.specs.Seats.{SeatValue, TableValue}
use Rattle.table_rows.specs.Views.{first_sight}
use Rattle.shared_basis.specs.declared.desk.Desk.{Desk}
use Rattle.shared_basis.specs.declared.params.Params.{Params}
use Rattle.shared_basis.specs.Desks.{IsDesk}
use Rattle.shared_basis.specs.Regions.{records_seen}

-- a basis
pub record BasisValue : Type 0 where
  pub table : TableId
  pub parameters : Parameters
  pub peer : ℕ

-- a pass: the records that it has seen and the rows that stand for them, its calls with the packets of its offers, the room for
-- calls, and its counts: looks and exchanges, reads, looks that found nothing and the place of the last of these
pub record PassValue : Type 0 where
  pub table : TableId
  pub parameters : Parameters
  pub number : ℕ
  pub seen : List Record
  pub rows : List Packet
  pub calls : List KeptCall
  pub spare : ℕ
  pub moves : ℕ
  pub reads : ℕ
  pub empty_looks : ℕ
  pub last_empty : ℕ

-- k, s and the generation are those of the equations, and within their limits
pub record AreParameters (p : Parameters) : Type 0 where
  pub k : p.k ≡ p.equations.value.k
  pub s : p.s ≡ p.equations.value.s
  pub some_blocks : 1 ≤ p.k
  pub few_blocks : p.k ≤ 64
  pub equations : AreEquations p.equations.value
  pub generation : p.generation < p.equations.value.generations
  pub some_passes : 1 ≤ p.passes
  pub few_passes : p.passes ≤ 16

-- the words are those of these parameters
pub record IsBasis (table : TableValue) (params : Params) (passes : ℕ) : Type 0 where
  pub parameters : AreParameters table.parameters
  pub generation : params.generation ≡ table.parameters.generation
  pub k : params.k ≡ table.parameters.k
  pub s : params.s ≡ table.parameters.s
  pub passes_are : passes ≡ table.parameters.passes

-- a call with the packet that stands beside it, which is that of an offer
abbrev pub kept_as : ℕ → Answer → Packet → KeptCall
kept_as tag (Offered reply) packet = KeptOffer tag packet reply
kept_as tag (Drew drawn) packet = KeptDraw tag drawn

abbrev pub kept_calls : List Call → List Packet → List KeptCall
kept_calls [] packets = []
kept_calls (call ∷ calls) [] = []
kept_calls (call ∷ calls) (packet ∷ packets) = kept_as call.tag call.answer packet ∷ kept_calls calls packets

-- the founder's view once it has given all numbers, and nobody has joined
abbrev pub founder_of : Parameters → FounderView
founder_of p = record { sight = first_sight p; joined = replicate p.passes None }

-- the founder's seat is with the last pass
abbrev pub HasFounder : TableId → Parameters → ℕ → Option (SeatValue FounderView) → Type 0
HasFounder table p number None = number + 1 < p.passes
HasFounder table p number (Some seat) = (number + 1 ≡ p.passes) × (seat ≡ record { table = table; view = founder_of p })

-- what holds of the fields of every pass: its calls are a legal history over the records that it has seen, and none has seen more
pub record IsPass (d : Desk) (founder : Option (SeatValue FounderView)) (number : ℕ) (calls : ListValue Call) (offered : List Packet) (offers_room spare : ℕ) : Type 0 where
  pub parameters : AreParameters d.seat.view.sight.parameters
  pub desk : IsDesk d
  pub number_is : number ≡ d.seat.view.number
  pub number_below : number < d.seat.view.sight.parameters.passes
  pub founder_is : HasFounder d.seat.table d.seat.view.sight.parameters number founder
  pub paired : length offered ≡ length calls.items
  pub room : spare ≤ calls.spare
  pub room_beside : spare ≤ offers_room
  pub few : length calls.items + spare < 2 ^ 32
  pub legal : IsLegalHistory d.seat.view.sight.parameters.equations.value (only number (kept_calls calls.items offered)) (records_seen d.seat.view)
  pub seen : HaveSeenAtMost (length (records_seen d.seat.view)) (kept_calls calls.items offered)
