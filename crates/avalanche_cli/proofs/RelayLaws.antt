-- What a relay sends: each packet lies in the span of its front, they pass and make a stream, and they keep truth.
use Rattle.std.proofs.Common.{◌≡◌, ℕ, ◌+◌, ◌*◌, ◌<◌, true, List, [], ◌∷◌, length, get_or, refl, sym, ap, subst, arith}
use Rattle.std.specs.Prelude.{Some}
use Rattle.std.specs.List.{All, AllByRecursion, filter}
use Rattle.std.proofs.Math.Nat.{mul_comm}
use Rattle.std.proofs.lemmas.Bool.{eqb-true}
use Rattle.std.proofs.lemmas.List.{get_or-map}
use Rattle.std.proofs.lemmas.List.Elements.{All-cons, All-filter, All-from_recursion, All-map, All-nil, All-take, All-weaker, filter_passes, recursion_from_All}
use Rattle.linear_spec.specs.declared.equations.Equations.{Equations}
use Rattle.linear_spec.specs.declared.packet.Packet.{Packet}
use Rattle.linear_spec.specs.declared.record.Drawn.{Drawn}
use Rattle.linear_spec.specs.declared.record.Drawn.TheVariants.{Sent, Nothing}
use Rattle.linear_spec.specs.Packet.{Fits, IsTrueTo, vector_of, vectors_of}
use Rattle.linear_spec.specs.Passing.{AreEquations, Passes}
use Rattle.linear_spec.specs.SequentialBasis.{packets_of}
use Rattle.linear_spec.specs.Span.{InSpan}
use Rattle.linear_spec.specs.Symbols.{IsVector}
use Rattle.basis_core.specs.declared.trace.BasisTrace.{BasisTrace}
use Rattle.basis_core.specs.Calls.{point_of_drawn}
use Rattle.generation.specs.Shape.{Dimensions, generations_of, symbols_per_block}
use Rattle.src_check.specs.Weights.{weights_of_checks}
use Rattle.packet_wire.specs.Stream.{Contents, IsPacket, IsStream}
use Rattle.recode.specs.Draws.{drawn_over, drawn_packet, numbers_of}
use Rattle.shared_reception.specs.declared.sends.Sending.{Sending}
use Rattle.avalanche_args.specs.declared.command.RelayWords.{RelayWords}
use Rattle.avalanche_cli.specs.Files.{recorded_packets}
use Rattle.avalanche_cli.specs.Headline.{LiesInFront}
use Rattle.avalanche_cli.specs.Packets.{AreTrueTo, equations_of, passing_of}
use Rattle.avalanche_cli.specs.Relay.{ArePacketsTrueTo, AreRecordedTrueTo, IsTrulyRelayed, contents_of_relay, sending_of}
use Rattle.avalanche_cli.specs.Sends.{front_of, packet_of_send, packets_by, packets_sent, send_of, sends_of}
use Rattle.avalanche_cli.specs.Trace.{IsLegalRelay}
use Rattle.avalanche_cli.specs.declared.trace.SendEntry.{SendEntry}
use Rattle.avalanche_cli.specs.declared.trace.Trace.{Trace}
use Rattle.avalanche_cli.proofs.PassingLemmas.{is_passing, passing_of as passes_where}
use Rattle.avalanche_cli.proofs.PieceLemmas.{all_of_lists}
use Rattle.avalanche_cli.proofs.TraceLemmas.{no_trace}
use Rattle.avalanche_cli.proofs.TrueLemmas.{InnovativeLaw, RecordedLaw, and_left, and_right, kept_more, of_records}

-- ---- the laws that are used

-- a packet drawn fits
abbrev pub DrawFitsLaw : Type 0
DrawFitsLaw = (k s generation link q : ℕ) (key : List ℕ) (front : List Packet) → All (Fits k s) front → Fits k s (drawn_packet k s generation key link q front)

-- and lies in the span of its front
abbrev pub DrawSpanLaw : Type 0
DrawSpanLaw = (k s generation link q : ℕ) (key : List ℕ) (front : List Packet) → All (Fits k s) front → InSpan (k + s) (vectors_of front) (vector_of (drawn_packet k s generation key link q front))

-- and passes where its front does
abbrev pub DrawPassLaw : Type 0
DrawPassLaw = (equations : Equations) (generation link q : ℕ) (key : List ℕ) (front : List Packet) → AreEquations equations → All (Fits equations.k equations.s) front → All (λ packet. packet.generation ≡ generation) front → All (Passes equations) front → Passes equations (drawn_packet equations.k equations.s generation key link q front)

-- weights are vectors
abbrev pub WeightsLaw : Type 0
WeightsLaw = (key : List ℕ) (s checks : ℕ) → IsVector (checks * s) (weights_of_checks key s checks)

-- and is true where its front is
abbrev pub DrawTruthLaw : Type 0
DrawTruthLaw = (k s generation link q : ℕ) (key : List ℕ) (front : List Packet) (blocks : List (List ℕ)) → All (Fits k s) front → All (IsTrueTo s blocks) front → length blocks ≡ k → All (IsVector s) blocks → IsTrueTo s blocks (drawn_packet k s generation key link q front)

-- ---- lists

-- what holds of a draw's packet holds of what goes out of it
all_by : (P : Packet → Type 0) (drawn : Drawn) (packet : Packet) → P packet → All P (packets_by drawn packet)
all_by P (Sent front) packet is = All-cons P packet [] is (All-nil P)
all_by P Nothing packet is = All-nil P

-- what holds of packets by their generations holds of those of one generation that pass
of_passing : (P : ℕ → Packet → Type 0) (equations : Equations) (generation : ℕ) (packets : List Packet) → AllByRecursion (λ (p : Packet). P p.generation p) packets → AllByRecursion (P generation) (filter (is_passing equations generation) packets)
of_passing P equations generation [] all = tt
of_passing P equations generation (first ∷ packets) all =
    kept_more (P generation) (is_passing equations generation first) first (filter (is_passing equations generation) packets)
    (λ is. subst (λ (m : ℕ). P m first) (eqb-true first.generation generation (and_left _ _ is)) all.0)
    (of_passing P equations generation packets all.1)

-- ---- a legal trace

module _ (recorded : RecordedLaw) (innovative : InnovativeLaw) (words : RelayWords) (contents : Contents) (trace : Trace) (legal : IsLegalRelay words.receivers (sending_of words) contents trace) where
  abbrev sending : Sending
  sending = sending_of words

  abbrev d : Dimensions
  d = contents.manifest.shape

  abbrev k : ℕ
  k = d.k

  abbrev s : ℕ
  s = symbols_per_block d

  abbrev bases : List BasisTrace
  bases = trace.bases.items

  -- what holds of each draw over records of a generation holds of all sends
  each_send : (Q : SendEntry → Type 0) → ((generation n q : ℕ) → generation < generations_of d → Q (send_of sending generation n q)) → All Q trace.sends.items
  each_send Q each = subst (All Q) (sym legal.sends) (all_of_lists Q (sends_of sending) bases (λ at other low.
      let basis = get_or bases at other in
      let below : at < generations_of d = subst (λ (n : ℕ). at < n) legal.count low in
      let its_below : basis.generation < generations_of d = subst (λ (n : ℕ). n < generations_of d) (sym (legal.bases at other below).generation_is) below in
      All-map Q (send_of sending basis.generation (length basis.records.items)) (numbers_of sending.coded basis.generation)
      (λ place its within. each basis.generation (length basis.records.items) (get_or (numbers_of sending.coded basis.generation) place its) its_below)))

  -- what holds of the packet of each draw holds of all packets sent
  each_packet : (P : Packet → Type 0) → ((generation n q : ℕ) → generation < generations_of d → P (packet_of_send d sending.key bases (send_of sending generation n q))) → All P (packets_sent d sending.key trace)
  each_packet P each =
      all_of_lists P (λ send. packets_by send.drawn (packet_of_send d sending.key bases send)) trace.sends.items
      (each_send (λ send. All P (packets_by send.drawn (packet_of_send d sending.key bases send)))
      (λ generation n q below. all_by P (drawn_over n) (packet_of_send d sending.key bases (send_of sending generation n q)) (each generation n q below)))

  -- what holds of the packets of a generation that pass holds of its records
  at_records : (P : Packet → Type 0) (generation : ℕ) → generation < generations_of d → All P (passing_of contents generation) → All P (get_or (recorded_packets bases) generation [])
  at_records P generation below all =
      let packets_at : BasisTrace → List Packet = λ t. packets_of t.records.items in
      let here : get_or (recorded_packets bases) generation [] ≡ packets_of (get_or bases generation no_trace).records.items = get_or-map packets_at bases generation no_trace [] (omega (arith, legal.count)) in
      subst (All P) (sym here)
      (of_records recorded innovative P (equations_of contents) words.receivers (Some sending) contents.packets generation (get_or bases generation no_trace) (legal.bases generation no_trace below) all)

  module _ (bytes : List ℕ) (stream : IsStream bytes contents) where
    front_fits : (generation n q : ℕ) → generation < generations_of d → All (Fits k s) (front_of bases (send_of sending generation n q))
    front_fits generation n q below =
        let fit : All (Fits k s) contents.packets = All-weaker (IsPacket d) (Fits k s) (λ p it. it.fits) contents.packets stream.packets in
        All-take (Fits k s) (point_of_drawn (drawn_over n)) (get_or (recorded_packets bases) generation [])
        (at_records (Fits k s) generation below (All-filter (is_passing (equations_of contents) generation) (Fits k s) contents.packets fit))

    pub sends_lie : DrawSpanLaw → All (LiesInFront d sending.key bases) trace.sends.items
    sends_lie spans = each_send (LiesInFront d sending.key bases) (λ generation n q below.
        spans k s generation sending.link q sending.key (front_of bases (send_of sending generation n q)) (front_fits generation n q below))

    packets_are : DrawFitsLaw → All (IsPacket d) (packets_sent d sending.key trace)
    packets_are fits = each_packet (IsPacket d) (λ generation n q below. record {
      generation = below;
      fits = fits k s generation sending.link q sending.key (front_of bases (send_of sending generation n q)) (front_fits generation n q below);
    })

    sent_truth : DrawTruthLaw → (blocks : ℕ → List (List ℕ)) → AreRecordedTrueTo d bases blocks → ArePacketsTrueTo d (packets_sent d sending.key trace) blocks
    sent_truth truth blocks are = each_packet (λ (p : Packet). IsTrueTo s (blocks p.generation) p) (λ generation n q below.
        let solves = are generation below in
        truth k s generation sending.link q sending.key (front_of bases (send_of sending generation n q)) (blocks generation) (front_fits generation n q below)
        (All-take (IsTrueTo s (blocks generation)) (point_of_drawn (drawn_over n)) (get_or (recorded_packets bases) generation []) solves.true_to)
        solves.count solves.vectors)

    are_equations : WeightsLaw → AreEquations (equations_of contents)
    are_equations weights =
        let checks = contents.ticket.checks in
        let count : checks * generations_of d * k ≡ generations_of d * checks * k = ap (λ n. n * k) (mul_comm checks (generations_of d)) in
        record {
          weights = weights contents.ticket.key s checks;
          sums = subst (λ (n : ℕ). IsVector n contents.ticket.sums) count stream.ticket.sums;
        }

    -- records pass, and are of their generation; so what is drawn over them passes
    sent_pass : DrawPassLaw → WeightsLaw → All (Passes (equations_of contents)) (packets_sent d sending.key trace)
    sent_pass passing weights = each_packet (Passes (equations_of contents)) (λ generation n q below.
        let equations = equations_of contents in
        let Kept : Packet → Type 0 = λ p. is_passing equations generation p ≡ true in
        let front = front_of bases (send_of sending generation n q) in
        let kept : All Kept front =
        All-take Kept (point_of_drawn (drawn_over n)) (get_or (recorded_packets bases) generation [])
        (at_records Kept generation below (filter_passes (is_passing equations generation) contents.packets)) in
        passing equations generation sending.link q sending.key front (are_equations weights) (front_fits generation n q below)
        (All-weaker Kept (λ (p : Packet). p.generation ≡ generation) (λ p is. eqb-true p.generation generation (and_left _ _ is)) front kept)
        (All-weaker Kept (Passes equations) (λ p is. passes_where equations p (and_right _ _ is)) front kept))

    pub truly_relayed : DrawFitsLaw → DrawPassLaw → WeightsLaw → DrawTruthLaw → IsTrulyRelayed words contents trace
    truly_relayed fits passing weights truth = record {
      stream = record { manifest = stream.manifest; ticket = stream.ticket; packets = packets_are fits; spelled = refl };
      pass = sent_pass passing weights;
      truth = sent_truth truth;
    }

    -- records that passed are as true as all that pass
    records_true : (blocks : ℕ → List (List ℕ)) → AreTrueTo contents blocks → AreRecordedTrueTo d bases blocks
    records_true blocks are generation below =
        let source = are generation below in
        record { count = source.count; vectors = source.vectors; true_to = at_records (IsTrueTo s (blocks generation)) generation below source.true_to }

    pub relayed_truth : DrawTruthLaw → (blocks : ℕ → List (List ℕ)) → AreTrueTo contents blocks → AreTrueTo (contents_of_relay words contents trace) blocks
    relayed_truth truth blocks are generation below =
        let source = are generation below in
        let P : ℕ → Packet → Type 0 = λ g. IsTrueTo s (blocks g) in
        let packets = packets_sent d sending.key trace in
        record {
          count = source.count;
          vectors = source.vectors;
          true_to = All-from_recursion (P generation) (filter (is_passing (equations_of contents) generation) packets)
              (of_passing P (equations_of contents) generation packets
              (recursion_from_All (λ (p : Packet). P p.generation p) packets (sent_truth truth blocks (records_true blocks are))));
        }
