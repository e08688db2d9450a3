-- What calls on a shared basis do to passes.
-- before, after: a pass before a call and after it.
use Rattle.std.specs.Prelude.{◌≡◌, ◌⊎◌, ℕ, ◌+◌, ◌<◌, ◌≤◌, List, [], ◌∷◌, ◌++◌, length, slice_index_or}
use Rattle.linear_spec.specs.declared.packet.Packet.{Packet}
use Rattle.linear_spec.specs.declared.record.Record.{Record}
use Rattle.linear_spec.specs.declared.reply.Reply.{Reply}
use Rattle.linear_spec.specs.declared.reply.Reply.TheVariants.{FailedCheck, Innovative, NotInnovative, Conflicting}
use Rattle.linear_spec.specs.Packet.{Fits}
use Rattle.basis_core.specs.Calls.{KeptCall}
use Rattle.basis_core.specs.Merge.{CallsOf}
use Rattle.table_rows.specs.declared.view.Parameters.{Parameters}
use Rattle.shared_basis.specs.Bases.{BasisValue, PassValue}

-- the pass is of this basis
pub record IsPassOf (basis : BasisValue) (pass : PassValue) : Type 0 where
  pub table : pass.table ≡ basis.table
  pub parameters : pass.parameters ≡ basis.parameters

-- a pass that has seen nothing and made no call, with room for this many
pub record IsNewPass (basis : BasisValue) (number room : ℕ) (pass : PassValue) : Type 0 where
  pub is_of : IsPassOf basis pass
  pub number_is : pass.number ≡ number
  pub seen : pass.seen ≡ []
  pub calls : pass.calls ≡ []
  pub spare : room ≤ pass.spare

-- the passes of a new basis, numbered from 0
pub record AreNewPasses (basis : BasisValue) (passes room : ℕ) (list : List PassValue) : Type 0 where
  pub count : length list ≡ passes
  pub each : (number : ℕ) (other : PassValue) → number < passes → IsNewPass basis number room (slice_index_or list number other)

-- a packet that may be offered: it has the lengths and the generation of the basis
pub record IsFor (p : Parameters) (packet : Packet) : Type 0 where
  pub fits : Fits p.k p.s packet
  pub generation : packet.generation ≡ p.generation

-- the same pass of the same basis: what it had seen is the first part of what it has seen
pub record SeesOn (before after : PassValue) : Type 0 where
  pub table : after.table ≡ before.table
  pub parameters : after.parameters ≡ before.parameters
  pub number : after.number ≡ before.number
  pub prefix : (later : List Record) × (after.seen ≡ before.seen ++ later)

-- nothing but counts may have changed
pub record HasKept (before after : PassValue) : Type 0 where
  pub table : after.table ≡ before.table
  pub parameters : after.parameters ≡ before.parameters
  pub number : after.number ≡ before.number
  pub seen : after.seen ≡ before.seen
  pub rows : after.rows ≡ before.rows
  pub calls : after.calls ≡ before.calls
  pub spare : after.spare ≡ before.spare

-- its calls have gained just this one
pub record HasCalled (before after : PassValue) (call : KeptCall) : Type 0 where
  pub calls : after.calls ≡ before.calls ++ call ∷ []
  pub spare : after.spare + 1 ≡ before.spare

-- it made no call
pub record HasNotCalled (before after : PassValue) : Type 0 where
  pub calls : after.calls ≡ before.calls
  pub spare : after.spare ≡ before.spare

-- all k records were seen, or a look in this call found nothing behind those that were seen
abbrev pub HasLooked : PassValue → PassValue → Type 0
HasLooked before after = (length after.seen ≡ after.parameters.k)
    ⊎ ((before.empty_looks < after.empty_looks) × (after.last_empty ≡ length after.seen))

-- a refused offer has seen what its answer speaks of, and no more; a recorded one is the last record that was seen
abbrev pub IsAtFront : PassValue → PassValue → Packet → Reply → Type 0
IsAtFront before after packet (FailedCheck check front) = front ≡ length after.seen
IsAtFront before after packet (NotInnovative front) = front ≡ length after.seen
IsAtFront before after packet (Conflicting front) = front ≡ length after.seen
IsAtFront before after packet (Innovative at) = (front : List Record) × (at ≡ length front)
    × (after.seen ≡ front ++ record { caller = before.number; call = length before.calls; packet = packet } ∷ [])

-- the calls of a pass under its number
abbrev pub calls_of : PassValue → CallsOf
calls_of pass = record { number = pass.number; calls = pass.calls }
