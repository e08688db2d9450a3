-- What a generation's basis holds once the packets of a stream were received.
-- kept: the calls of a receiver, each offer with its packet.
use Rattle.std.specs.Prelude.{◌≡◌, ℕ, ◌<◌, List, length, map, slice_index_or}
use Rattle.std.specs.List.{All}
use Rattle.linear_spec.specs.declared.equations.Equations.{Equations}
use Rattle.linear_spec.specs.declared.packet.Packet.{Packet}
use Rattle.linear_spec.specs.Packet.{Fits}
use Rattle.linear_spec.specs.Rows.{StandForAll}
use Rattle.linear_spec.specs.SequentialBasis.{packets_of}
use Rattle.basis_core.specs.declared.trace.CallerTrace.{CallerTrace}
use Rattle.basis_core.specs.Calls.{KeptCall, call_of}
use Rattle.basis_core.specs.Legal.{IsLegalHistory}
use Rattle.receive_pass.specs.Workers.{AreOffersOf}
use Rattle.shared_basis.specs.declared.params.Closed.{Closed}
use Rattle.shared_reception.specs.Dealing.{dealt_to, given_below}

-- the closed basis of a generation: its records fit, and its rows stand for them; it lists each receiver by its number, with its
-- offers of the packets that it got and with no other calls; every record is a listed receiver's; and the records and all these
-- calls are a legal history
pub record IsReceivedBy (equations : Equations) (receivers generation : ℕ) (packets : List Packet) (closed : Closed) : Type 0 where
  pub fit : All (Fits equations.k equations.s) (packets_of closed.records.items)
  pub stand : StandForAll equations.k equations.s (packets_of closed.records.items) closed.rows.items
  pub count : length closed.callers.items ≡ receivers
  pub numbers : (number : ℕ) (other : CallerTrace) → number < receivers → (slice_index_or closed.callers.items number other).number ≡ number
  pub kept : ℕ → List KeptCall
  pub calls : (number : ℕ) (other : CallerTrace) → number < receivers → (slice_index_or closed.callers.items number other).calls.items ≡ map call_of (kept number)
  pub listed : All (λ entry. entry.caller < receivers) closed.records.items
  pub offers : (number : ℕ) → number < receivers → AreOffersOf (dealt_to receivers number generation packets) (kept number)
  pub legal : IsLegalHistory equations (given_below receivers kept) closed.records.items
