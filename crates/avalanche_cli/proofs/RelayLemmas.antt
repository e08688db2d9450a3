-- From the closed bases of a relay to a legal trace, and to the stream of what was sent.
use Rattle.std.proofs.Common.{◌≡◌, ℕ, ◌<◌, List, length, map, get_or, Some, refl, sym, ap, ap₂, ◌∙◌}
use Rattle.linear_spec.specs.declared.equations.Equations.{Equations}
use Rattle.linear_spec.specs.declared.packet.Packet.{Packet}
use Rattle.basis_core.specs.declared.trace.BasisTrace.{BasisTrace}
use Rattle.packet_wire.specs.Stream.{Contents}
use Rattle.generation.specs.Shape.{symbols_per_block}
use Rattle.shared_basis.specs.declared.params.Closed.{Closed}
use Rattle.shared_reception.specs.declared.sends.SentDraw.{SentDraw}
use Rattle.shared_reception.specs.declared.sends.Sending.{Sending}
use Rattle.shared_reception.specs.Relayed.{IsRelayedBy, sent_of_all}
use Rattle.avalanche_cli.specs.Packets.{equations_of}
use Rattle.avalanche_cli.specs.Reception.{trace_of, traces_of}
use Rattle.avalanche_cli.specs.Sends.{packets_sent, packets_sent_of, sends_of_all}
use Rattle.avalanche_cli.specs.SendSteps.{entry_of, packets_of_draws}
use Rattle.avalanche_cli.specs.Trace.{IsLegalBasis, IsLegalRelay}
use Rattle.avalanche_cli.specs.declared.trace.SendEntry.{SendEntry}
use Rattle.avalanche_cli.specs.declared.trace.Trace.{Trace}
use Rattle.avalanche_cli.proofs.BasesLemmas.{legal_trace}
use Rattle.avalanche_cli.proofs.SendLemmas.{entries_are, packets_are}
use Rattle.avalanche_cli.proofs.TraceLemmas.{no_basis}

-- each generation's basis was received on by these receivers and then drawn from, and the draws are those
pub record AreRelayed (equations : Equations) (receivers : ℕ) (sending : Sending) (packets : List Packet) (bases : List Closed) (sent : List SentDraw) : Type 0 where
  pub count : length bases ≡ equations.generations
  pub each : (generation : ℕ) (other : Closed) → generation < equations.generations
      → IsRelayedBy equations receivers generation packets sending (get_or bases generation other)
  pub sent_is : sent ≡ sent_of_all equations.k equations.s sending bases

-- ---- the trace

legal_basis : (equations : Equations) (receivers generation : ℕ) (packets : List Packet) (sending : Sending) (basis : Closed) → IsRelayedBy equations receivers generation packets sending basis → IsLegalBasis equations receivers (Some sending) packets generation (trace_of generation basis)
legal_basis equations receivers generation packets sending basis is = record {
  peer = refl;
  generation_is = refl;
  count = is.count;
  numbers = is.numbers;
  kept = is.kept;
  calls = is.calls;
  listed = is.listed;
  offers = is.offers;
  draws = is.draws;
  legal = is.legal;
}

sends_are : (contents : Contents) (receivers : ℕ) (sending : Sending) (bases : List Closed) (sent : List SentDraw) (trace : Trace) → AreRelayed (equations_of contents) receivers sending contents.packets bases sent → trace.bases.items ≡ traces_of 0 bases → trace.sends.items ≡ map (entry_of sending) sent → trace.sends.items ≡ sends_of_all sending trace.bases.items
sends_are contents receivers sending bases sent trace are traces sends =
    sends ∙ ap (λ (l : List SentDraw). map (entry_of sending) l) are.sent_is
    ∙ entries_are contents.manifest.shape.k (symbols_per_block contents.manifest.shape) sending bases
    ∙ ap (λ (l : List BasisTrace). sends_of_all sending l) (sym traces)

pub legal_relay : (contents : Contents) (receivers : ℕ) (sending : Sending) (bases : List Closed) (sent : List SentDraw) (trace : Trace) → AreRelayed (equations_of contents) receivers sending contents.packets bases sent → trace.bases.items ≡ traces_of 0 bases → trace.sends.items ≡ map (entry_of sending) sent → IsLegalRelay receivers sending contents trace
legal_relay contents receivers sending bases sent trace are traces sends =
    legal_trace receivers (Some sending) contents bases trace are.count (λ generation low. legal_basis (equations_of contents) receivers generation contents.packets sending (get_or bases generation no_basis) (are.each generation no_basis low)) traces
    (sends_are contents receivers sending bases sent trace are traces sends)

-- ---- the packets

pub sent_packets : (contents : Contents) (receivers : ℕ) (sending : Sending) (bases : List Closed) (sent : List SentDraw) (trace : Trace) → AreRelayed (equations_of contents) receivers sending contents.packets bases sent → trace.bases.items ≡ traces_of 0 bases → trace.sends.items ≡ map (entry_of sending) sent → packets_of_draws sent ≡ packets_sent contents.manifest.shape sending.key trace
sent_packets contents receivers sending bases sent trace are traces sends =
    let d = contents.manifest.shape in
    let own : trace.sends.items ≡ sends_of_all sending (traces_of 0 bases) = sends_are contents receivers sending bases sent trace are traces sends ∙ ap (λ (l : List BasisTrace). sends_of_all sending l) traces in
    ap packets_of_draws are.sent_is ∙ packets_are d sending bases
    ∙ sym (ap₂ (λ (b : List BasisTrace) (e : List SendEntry). packets_sent_of d sending.key b e) traces own)
