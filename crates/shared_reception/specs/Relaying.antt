-- What the steps of a relay do to the passes of one basis. receivers: the passes of those who received, by number. sender: the
-- pass that comes after them, which draws. before, after: a pass before a step and after it.
use Rattle.std.specs.Prelude.{◌≡◌, ℕ, ◌+◌, ◌<◌, ◌≤◌, List, [], length, None, slice_index_or}
use Rattle.std.specs.List.{All}
use Rattle.basis_core.specs.Calls.{recorded_by, KeptCall}
use Rattle.basis_core.specs.Legal.{HaveSeenAtMost}
use Rattle.receive_pass.specs.declared.worker.Worker.{Worker}
use Rattle.shared_basis.specs.declared.params.Closed.{Closed}
use Rattle.shared_basis.specs.Bases.{BasisValue, PassValue}
use Rattle.shared_basis.specs.Close.{IsCloseOf}
use Rattle.shared_basis.specs.Passes.{HasNotCalled, SeesOn}
use Rattle.shared_reception.specs.declared.sends.SentDraw.{SentDraw}
use Rattle.shared_reception.specs.declared.sends.Sending.{Sending}
use Rattle.shared_reception.specs.Relayed.{draws_of, sent_of}
use Rattle.shared_reception.specs.Steps.{AreOfGeneration}

-- a pass has met another, which has then seen as much: it made no call, and none of its calls has seen more than it has
pub record HasMet (before after other : PassValue) : Type 0 where
  pub sees : SeesOn before after
  pub quiet : HasNotCalled before after
  pub at_most : HaveSeenAtMost (length after.seen) after.calls
  pub within : length after.seen ≤ length other.seen

-- the receiver at each place has met the sender
pub record HaveMet (before after : List PassValue) (sender : PassValue) : Type 0 where
  pub count : length after ≡ length before
  pub each : (number : ℕ) (other : PassValue) → number < length before
      → HasMet (slice_index_or before number other) (slice_index_or after number other) sender

-- none of these calls recorded a packet
abbrev pub AreQuiet : List KeptCall → Type 0
AreQuiet calls = All (λ call. recorded_by call ≡ None) calls

-- the sender has drawn, so that no call of its own records; and where it saw no more records than before, these are a
-- generation's draws over them
pub record HasDrawn (k s : ℕ) (sending : Sending) (generation : ℕ) (before after : PassValue) (sent : List SentDraw) : Type 0 where
  pub sees : SeesOn before after
  pub quiet : AreQuiet after.calls
  pub calls : length after.seen ≡ length before.seen → after.calls ≡ draws_of sending generation (length before.seen)
  pub draws : length after.seen ≡ length before.seen → sent ≡ sent_of k s sending generation before.seen

-- the last of the passes is the sender's: it made no call, and has room for so many
pub record HasSender (coded : ℕ) (passes : List PassValue) : Type 0 where
  pub some : 2 ≤ length passes
  pub calls : (number : ℕ) (other : PassValue) → number + 1 ≡ length passes → (slice_index_or passes number other).calls ≡ []
  pub spare : (number : ℕ) (other : PassValue) → number + 1 ≡ length passes → coded ≤ (slice_index_or passes number other).spare

-- a basis was closed once the sender had met the receivers and drawn. closing: the passes at its close. The receivers' have the
-- calls that they had, and the sender's has its draws, each over all records, none of which is its own
pub record IsRelayOf (sending : Sending) (basis : BasisValue) (passes : List PassValue) (closed : Closed) : Type 0 where
  pub closing : List PassValue
  pub count : length closing ≡ length passes
  pub numbers : (number : ℕ) (other : PassValue) → number < length passes → (slice_index_or closing number other).number ≡ number
  pub receivers : (number : ℕ) (other : PassValue) → number + 1 < length passes
      → (slice_index_or closing number other).calls ≡ (slice_index_or passes number other).calls
  pub sender : (number : ℕ) (other : PassValue) → number + 1 ≡ length passes
      → (slice_index_or closing number other).calls ≡ draws_of sending basis.parameters.generation (length closed.records.items)
  pub closes : IsCloseOf basis closing closed
  pub listed : All (λ entry. entry.caller + 1 < length passes) closed.records.items

-- the same of the workers' passes of a generation
pub record IsRelayedOf (sending : Sending) (bases : List BasisValue) (workers : List Worker) (generation : ℕ) (closed : Closed) : Type 0 where
  pub passes : List PassValue
  pub are : AreOfGeneration generation workers passes
  pub relayed : (basis : BasisValue) → IsRelayOf sending (slice_index_or bases generation basis) passes closed

-- the last worker is the sender
pub record HaveSender (coded : ℕ) (workers : List Worker) : Type 0 where
  pub some : 2 ≤ length workers
  pub calls : (number generation : ℕ) (worker : Worker) (pass : PassValue) → number + 1 ≡ length workers
      → generation < length (slice_index_or workers number worker).passes.items
      → (slice_index_or (slice_index_or workers number worker).passes.items generation pass).calls ≡ []
  pub spare : (number generation : ℕ) (worker : Worker) (pass : PassValue) → number + 1 ≡ length workers
      → generation < length (slice_index_or workers number worker).passes.items
      → coded ≤ (slice_index_or (slice_index_or workers number worker).passes.items generation pass).spare
