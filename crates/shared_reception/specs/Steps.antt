-- What the steps of a reception do to the workers, one for each caller, by number.
-- callers: the receivers, and for a relay after them the sender, which gets no packets.
-- room: for how many calls each pass has room. before, after: workers before a step and after it.
use Rattle.std.specs.Prelude.{◌≡◌, ℕ, ◌<◌, List, [], ◌∷◌, ◌++◌, length, slice_index_or}
use Rattle.linear_spec.specs.declared.equations.Equations.{Equations}
use Rattle.linear_spec.specs.declared.packet.Packet.{Packet}
use Rattle.table_rows.specs.Seats.{IsMadeWith}
use Rattle.shared_basis.specs.declared.params.Closed.{Closed}
use Rattle.shared_basis.specs.Bases.{BasisValue, PassValue}
use Rattle.shared_basis.specs.Close.{IsCloseOf}
use Rattle.shared_basis.specs.Passes.{IsNewPass, IsPassOf}
use Rattle.receive_pass.specs.declared.worker.Worker.{Worker}
use Rattle.shared_reception.specs.Dealing.{inbox_of}

-- as many workers as callers, with no packets and no passes
pub record AreIdle (callers : ℕ) (workers : List Worker) : Type 0 where
  pub count : length workers ≡ callers
  pub inboxes : (number : ℕ) (other : Worker) → number < callers → (slice_index_or workers number other).inbox.items ≡ []
  pub passes : (number : ℕ) (other : Worker) → number < callers → (slice_index_or workers number other).passes.items ≡ []

-- as many workers as callers, each with its part of the packets, and with no passes
pub record AreDealt (receivers callers : ℕ) (packets : List Packet) (workers : List Worker) : Type 0 where
  pub count : length workers ≡ callers
  pub inboxes : (number : ℕ) (other : Worker) → number < callers → (slice_index_or workers number other).inbox.items ≡ inbox_of receivers number packets
  pub passes : (number : ℕ) (other : Worker) → number < callers → (slice_index_or workers number other).passes.items ≡ []

-- a worker has got this pass as its last one, and has the same packets
pub record HasGained (pass : PassValue) (before after : Worker) : Type 0 where
  pub passes : after.passes.items ≡ before.passes.items ++ pass ∷ []
  pub inbox : after.inbox ≡ before.inbox

-- each worker has got the pass at its place
pub record HaveGained (passes : List PassValue) (before after : List Worker) : Type 0 where
  pub count : length after ≡ length before
  pub passes_are : length passes ≡ length before
  pub each : (number : ℕ) (worker : Worker) (pass : PassValue) → number < length before
      → HasGained (slice_index_or passes number pass) (slice_index_or before number worker) (slice_index_or after number worker)

-- a new pass for each basis, all of this number
pub record AreNewOf (bases : List BasisValue) (number room : ℕ) (passes : List PassValue) : Type 0 where
  pub count : length passes ≡ length bases
  pub each : (generation : ℕ) (basis : BasisValue) (pass : PassValue) → generation < length bases
      → IsNewPass (slice_index_or bases generation basis) number room (slice_index_or passes generation pass)

-- the basis at each place is of that generation, with these equations, and for so many passes
abbrev pub AreMadeWith : Equations → ℕ → List BasisValue → Type 0
AreMadeWith equations passes bases = (generation : ℕ) (basis : BasisValue) → generation < length bases
    → IsMadeWith (slice_index_or bases generation basis).parameters generation equations.k equations.s passes equations

-- workers that share new bases: each has the passes of its number, and the same packets as before
pub record HaveBases (equations : Equations) (room : ℕ) (bases : List BasisValue) (before after : List Worker) : Type 0 where
  pub made : AreMadeWith equations (length before) bases
  pub count : length after ≡ length before
  pub passes : (number : ℕ) (other : Worker) → number < length before → AreNewOf bases number room (slice_index_or after number other).passes.items
  pub inboxes : (number : ℕ) (other : Worker) → number < length before
      → (slice_index_or after number other).inbox ≡ (slice_index_or before number other).inbox

-- the workers have all passes of these bases: each those of its number
pub record HaveAllPasses (bases : List BasisValue) (workers : List Worker) : Type 0 where
  pub for_all : (generation : ℕ) (basis : BasisValue) → generation < length bases
      → (slice_index_or bases generation basis).parameters.passes ≡ length workers
  pub counts : (number : ℕ) (worker : Worker) → number < length workers → length (slice_index_or workers number worker).passes.items ≡ length bases
  pub each : (number generation : ℕ) (worker : Worker) (basis : BasisValue) (pass : PassValue) → number < length workers → generation < length bases
      → IsPassOf (slice_index_or bases generation basis) (slice_index_or (slice_index_or workers number worker).passes.items generation pass)
      × ((slice_index_or (slice_index_or workers number worker).passes.items generation pass).number ≡ number)

-- the workers' passes of a generation, by number
pub record AreOfGeneration (generation : ℕ) (workers : List Worker) (passes : List PassValue) : Type 0 where
  pub count : length passes ≡ length workers
  pub each : (number : ℕ) (worker : Worker) (pass : PassValue) → number < length workers
      → slice_index_or passes number pass ≡ slice_index_or (slice_index_or workers number worker).passes.items generation pass

-- what closing a generation's basis with the workers' passes gives
pub record IsClosedOf (bases : List BasisValue) (workers : List Worker) (generation : ℕ) (closed : Closed) : Type 0 where
  pub passes : List PassValue
  pub are : AreOfGeneration generation workers passes
  pub closes : (basis : BasisValue) → IsCloseOf (slice_index_or bases generation basis) passes closed
