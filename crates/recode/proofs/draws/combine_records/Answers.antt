use Rattle.std.proofs.Common.{◌≡◌, ◌<◌, ℕ, List, length, get_or, ap, ap₂, sym, ◌∙◌, arith}
use Rattle.std.proofs.lemmas.List.{get_or-map, length-map}
use Rattle.gf16.specs.Sums.{plus_scaled}
use Rattle.linear_spec.specs.declared.packet.Packet.{Packet}
use Rattle.linear_spec.specs.declared.record.Record.{Record}
use Rattle.linear_spec.specs.SequentialBasis.{packets_of}
use Rattle.shared_basis.specs.Bases.{PassValue}
use Rattle.shared_basis.specs.Passes.{HasKept}
use Rattle.recode.proofs.DrawLemmas.{combined_more, length-combination}
use Rattle.recode.proofs.draws.combine_records.Goals as goal

has_kept-trans : (a b c : PassValue) → HasKept a b → HasKept b c → HasKept a c
has_kept-trans a b c first second = record {
  table = second.table ∙ first.table;
  parameters = second.parameters ∙ first.parameters;
  number = second.number ∙ first.number;
  seen = second.seen ∙ first.seen;
  rows = second.rows ∙ first.rows;
  calls = second.calls ∙ first.calls;
  spare = second.spare ∙ first.spare;
}

-- the packet of a record, among the packets
packet_there : (records : List Record) (i : ℕ) (other : Record) → i < length records
    → (get_or records i other).packet ≡ get_or (packets_of records) i (get_or records i other).packet
packet_there records i other there = sym (get_or-map (λ record'. record'.packet) records i other (get_or records i other).packet there)

-- any record
other_of : Packet → Record
other_of packet = record { caller = 0; call = 0; packet = packet }

pub add_packet-requires-clause-lengths : goal.add_packet-requires-clause-lengths
add_packet-requires-clause-lengths c = record {
  coeffs = ap length c.loop-n.invariant.coeffs ∙ length-combination c.args.basis.now.parameters.k _ _;
  payload = ap length c.loop-n.invariant.payload ∙ length-combination c.args.basis.now.parameters.s _ _;
}

pub loop-n-preserved : goal.loop-n-preserved
loop-n-preserved c =
    let seen = c.args.pass.now.seen in
    let coefficients = c.args.coefficients.now in
    let n = c.loop-n.n in
    let coefficient = get_or coefficients c.from.result 0 in
    let coefficient_is : coefficient ≡ get_or coefficients n 0 = ap (λ i. get_or coefficients i 0) c.from.ensures in
    let other = other_of c.args.out.now in
    let count : length coefficients ≡ length seen = c.requires.count in
    let packets = packets_of seen in
    let same : length coefficients ≡ length packets = c.requires.count ∙ sym (length-map seen (λ record'. record'.packet)) in
    let there : n < length seen = omega (arith, c.requires.front) in
    let within : n < length coefficients = omega arith in
    let packet : Packet = (get_or seen n other).packet in
    let is : packet ≡ get_or packets n packet = packet_there seen n other there in
    let kept : (get_or c.loop-n.pass.seen n other).packet ≡ packet =
    ap (λ records. (get_or records n other).packet) c.loop-n.invariant.pass.seen in
    let laws = c.combinations.ensures in
    record {
      pass = has_kept-trans c.args.pass.now c.loop-n.pass c.add_packet.new.pass c.loop-n.invariant.pass c.add_packet.ensures.pass;
      counts = (c.add_packet.ensures.counts.1 ∙ c.loop-n.invariant.counts.0, c.add_packet.ensures.counts.2 ∙ c.loop-n.invariant.counts.1);
      coeffs =
          c.add_packet.ensures.coeffs other
          ∙ ap₂ (λ u (p : Packet). plus_scaled u coefficient p.coeffs) c.loop-n.invariant.coeffs kept
          ∙ combined_more (λ p. p.coeffs) laws c.args.basis.now.parameters.k n coefficient coefficients packets packet within same coefficient_is is;
      payload =
          c.add_packet.ensures.payload other
          ∙ ap₂ (λ u (p : Packet). plus_scaled u coefficient p.payload) c.loop-n.invariant.payload kept
          ∙ combined_more (λ p. p.payload) laws c.args.basis.now.parameters.s n coefficient coefficients packets packet within same coefficient_is is;
      generation = c.add_packet.ensures.generation ∙ c.loop-n.invariant.generation;
    }
