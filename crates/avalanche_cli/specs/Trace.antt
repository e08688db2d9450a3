-- Legal traces: what is kept of the calls on the bases of a stream that was received, and of what was then sent.
-- receivers: the number of callers that receive, numbered from 0. sending: what a relay sends, where there is one to send; the
-- caller that draws for it comes after the receivers. kept: the calls of a caller, each offer with its packet.
use Rattle.std.specs.Prelude.{◌≡◌, ℕ, ◌+◌, ◌<◌, List, length, map, slice_index_or, Option, None, Some, IfSome}
use Rattle.std.specs.List.{All}
use Rattle.linear_spec.specs.declared.equations.Equations.{Equations}
use Rattle.linear_spec.specs.declared.packet.Packet.{Packet}
use Rattle.basis_core.specs.declared.trace.BasisTrace.{BasisTrace}
use Rattle.basis_core.specs.declared.trace.CallerTrace.{CallerTrace}
use Rattle.basis_core.specs.Calls.{KeptCall, call_of}
use Rattle.basis_core.specs.Legal.{IsLegalHistory}
use Rattle.receive_pass.specs.Workers.{AreOffersOf}
use Rattle.shared_reception.specs.declared.sends.Sending.{Sending}
use Rattle.shared_reception.specs.Dealing.{dealt_to, given_below}
use Rattle.shared_reception.specs.Relayed.{draws_of}
use Rattle.generation.specs.Shape.{generations_of}
use Rattle.packet_wire.specs.Stream.{Contents}
use Rattle.avalanche_cli.specs.Packets.{equations_of}
use Rattle.avalanche_cli.specs.Sends.{sends_by}
use Rattle.avalanche_cli.specs.declared.trace.Trace.{Trace}

-- the callers of a basis: the receivers, and the one that draws where something is to be sent
abbrev pub caller_count : ℕ → Option Sending → ℕ
caller_count receivers None = receivers
caller_count receivers (Some sending) = receivers + 1

-- the basis of a generation once the packets were received: it lists each caller by its number; the receivers have their offers
-- of the packets that they got and no other calls, and the one that draws has its draws, each over all records, and no other
-- calls; every record is a receiver's; and the records and all these calls are a legal history
pub record IsLegalBasis (equations : Equations) (receivers : ℕ) (sending : Option Sending) (packets : List Packet) (generation : ℕ) (basis : BasisTrace) : Type 0 where
  pub peer : basis.peer ≡ 0
  pub generation_is : basis.generation ≡ generation
  pub count : length basis.callers.items ≡ caller_count receivers sending
  pub numbers : (number : ℕ) (other : CallerTrace) → number < caller_count receivers sending
      → (slice_index_or basis.callers.items number other).number ≡ number
  pub kept : ℕ → List KeptCall
  pub calls : (number : ℕ) (other : CallerTrace) → number < caller_count receivers sending
      → (slice_index_or basis.callers.items number other).calls.items ≡ map call_of (kept number)
  pub listed : All (λ record'. record'.caller < receivers) basis.records.items
  pub offers : (number : ℕ) → number < receivers → AreOffersOf (dealt_to receivers number generation packets) (kept number)
  pub draws : IfSome sending (λ its. kept receivers ≡ draws_of its generation (length basis.records.items))
  pub legal : IsLegalHistory equations (given_below (caller_count receivers sending) kept) basis.records.items

-- a trace: a basis for each generation, in order, and the sends are the draws, and no others
pub record IsLegalTrace (receivers : ℕ) (sending : Option Sending) (contents : Contents) (trace : Trace) : Type 0 where
  pub sends : trace.sends.items ≡ sends_by sending trace.bases.items
  pub count : length trace.bases.items ≡ generations_of contents.manifest.shape
  pub bases : (generation : ℕ) (other : BasisTrace) → generation < generations_of contents.manifest.shape
      → IsLegalBasis (equations_of contents) receivers sending contents.packets generation (slice_index_or trace.bases.items generation other)

-- that of a fetch, which sends nothing
abbrev pub IsLegalFetch : ℕ → Contents → Trace → Type 0
IsLegalFetch receivers contents trace = IsLegalTrace receivers None contents trace

-- that of a relay
abbrev pub IsLegalRelay : ℕ → Sending → Contents → Trace → Type 0
IsLegalRelay receivers sending contents trace = IsLegalTrace receivers (Some sending) contents trace
