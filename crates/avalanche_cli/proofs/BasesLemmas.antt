-- What is known of the closed bases of a stream: a legal trace, the ranks of its generations, and the shape of what is solved.
use Rattle.std.proofs.Common.{◌≡◌, ℕ, ◌+◌, ◌<◌, ◌≤◌, List, [], length, get_or, None, refl, sym, ap, ◌∙◌, subst, arith}
use Rattle.std.specs.Prelude.{Option}
use Rattle.std.specs.List.{All}
use Rattle.linear_spec.specs.declared.equations.Equations.{Equations}
use Rattle.linear_spec.specs.declared.packet.Packet.{Packet}
use Rattle.linear_spec.specs.declared.record.Record.{Record}
use Rattle.linear_spec.specs.Packet.{Fits}
use Rattle.linear_spec.specs.SequentialBasis.{packets_of}
use Rattle.linear_spec.specs.SpanLaws.{RankLaws, SpanLaws}
use Rattle.basis_core.specs.declared.trace.BasisTrace.{BasisTrace}
use Rattle.basis_core.specs.Run.{AreInnovative}
use Rattle.generation.specs.Shape.{IsShape, generations_of, symbols_per_block}
use Rattle.packet_wire.specs.Stream.{Contents}
use Rattle.shared_basis.specs.declared.params.Closed.{Closed}
use Rattle.shared_reception.specs.declared.sends.Sending.{Sending}
use Rattle.shared_reception.specs.Dealing.{given_below}
use Rattle.shared_reception.specs.Received.{IsReceivedBy}
use Rattle.avalanche_cli.specs.Packets.{HasPacketRank, equations_of}
use Rattle.avalanche_cli.specs.Reception.{HaveShape, trace_of, traces_of}
use Rattle.avalanche_cli.specs.Sends.{sends_by}
use Rattle.avalanche_cli.specs.Trace.{IsLegalBasis, IsLegalFetch, IsLegalTrace}
use Rattle.avalanche_cli.specs.declared.trace.Trace.{Trace}
use Rattle.avalanche_cli.proofs.RankLemmas.{RecordRankLaw, SpansLaw, legal_rank}
use Rattle.avalanche_cli.proofs.TraceLemmas.{length-traces, no_basis, trace_at}
use Rattle.avalanche_cli.proofs.TrueLemmas.{InnovativeLaw, RecordedLaw}

-- each generation's basis was received on by these receivers
pub record AreReceived (equations : Equations) (receivers : ℕ) (packets : List Packet) (bases : List Closed) : Type 0 where
  pub count : length bases ≡ equations.generations
  pub each : (generation : ℕ) (other : Closed) → generation < equations.generations
      → IsReceivedBy equations receivers generation packets (get_or bases generation other)

-- ---- the trace

legal_basis : (equations : Equations) (receivers generation : ℕ) (packets : List Packet) (basis : Closed) → IsReceivedBy equations receivers generation packets basis → IsLegalBasis equations receivers None packets generation (trace_of generation basis)
legal_basis equations receivers generation packets basis is = record {
  peer = refl;
  generation_is = refl;
  count = is.count;
  numbers = is.numbers;
  kept = is.kept;
  calls = is.calls;
  listed = is.listed;
  offers = is.offers;
  draws = tt;
  legal = is.legal;
}

-- where each closed basis is legal, so is the trace of them all
pub legal_trace : (receivers : ℕ) (sending : Option Sending) (contents : Contents) (bases : List Closed) (trace : Trace) → length bases ≡ generations_of contents.manifest.shape → ((generation : ℕ) → generation < generations_of contents.manifest.shape → IsLegalBasis (equations_of contents) receivers sending contents.packets generation (trace_of generation (get_or bases generation no_basis))) → trace.bases.items ≡ traces_of 0 bases → trace.sends.items ≡ sends_by sending trace.bases.items → IsLegalTrace receivers sending contents trace
legal_trace receivers sending contents bases trace count each traces sends = record {
  sends = sends;
  count = ap (λ (l : List BasisTrace). length l) traces ∙ length-traces 0 bases ∙ count;
  bases = λ generation other low.
      let below : generation < length bases = subst (λ n. generation < n) (sym count) low in
      let counted : 0 + generation ≡ generation = omega arith in
      let here : get_or trace.bases.items generation other ≡ trace_of generation (get_or bases generation no_basis) = ap (λ (l : List BasisTrace). get_or l generation other) traces ∙ trace_at 0 bases generation other no_basis below ∙ ap (λ n. trace_of n (get_or bases generation no_basis)) counted in
      subst (IsLegalBasis (equations_of contents) receivers sending contents.packets generation) (sym here) (each generation low);
}

pub legal_fetch : (receivers : ℕ) (contents : Contents) (bases : List Closed) (trace : Trace) → AreReceived (equations_of contents) receivers contents.packets bases → trace.bases.items ≡ traces_of 0 bases → trace.sends.items ≡ [] → IsLegalFetch receivers contents trace
legal_fetch receivers contents bases trace are traces no_sends =
    legal_trace receivers None contents bases trace are.count (λ generation low. legal_basis (equations_of contents) receivers generation contents.packets (get_or bases generation no_basis) (are.each generation no_basis low)) traces no_sends

-- ---- the ranks

pub ranks_are : RecordedLaw → InnovativeLaw → SpansLaw → RecordRankLaw → SpanLaws → RankLaws → (contents : Contents) (receivers : ℕ) (bases : List Closed) → 1 ≤ receivers → All (Fits contents.manifest.shape.k (symbols_per_block contents.manifest.shape)) contents.packets → AreReceived (equations_of contents) receivers contents.packets bases → (generation : ℕ) → generation < generations_of contents.manifest.shape → HasPacketRank contents generation (length (get_or bases generation no_basis).records.items)
ranks_are recorded innovative spans rank span_laws ranks contents receivers bases some fit are generation low =
    let is = are.each generation no_basis low in
    legal_rank recorded innovative spans rank span_laws ranks (equations_of contents) receivers None generation contents.packets (trace_of generation (get_or bases generation no_basis)) (omega arith) fit is.fit
    (legal_basis (equations_of contents) receivers generation contents.packets (get_or bases generation no_basis) is)

-- ---- what is solved

-- records that pass, each fresh at those before it, are as many as there are coefficients at most
abbrev pub AtMostLaw : Type 0
AtMostLaw = (equations : Equations) (records : List Record) → All (Fits equations.k equations.s) (packets_of records) → AreInnovative equations (packets_of records) → length records ≤ equations.k

pub have_shape : InnovativeLaw → AtMostLaw → (contents : Contents) (receivers : ℕ) (bases : List Closed) → IsShape contents.manifest.shape → AreReceived (equations_of contents) receivers contents.packets bases → HaveShape contents.manifest.shape bases
have_shape innovative at_most contents receivers bases is_shape are = record {
  is_shape = is_shape;
  count = are.count;
  each = λ generation other low.
      let is = are.each generation other (subst (λ n. generation < n) are.count low) in
      let records = (get_or bases generation other).records.items in
      record {
        fit = is.fit;
        stand = is.stand;
        at_most = at_most (equations_of contents) records is.fit (innovative (equations_of contents) (given_below receivers is.kept) records is.legal);
      };
}
