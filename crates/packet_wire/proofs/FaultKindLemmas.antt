-- No judgement finds a missing end: that is told of all bytes alone.
use Rattle.std.proofs.Common.{◌≡◌, ◌≢◌, ℕ, Bool, true, false, not, ◌&&◌, ◌==◌, if◌then◌else◌, List, [], ◌∷◌, ◌++◌, Option, Some, sym, subst, ap, ◌∙◌, length, ◌≤◌, length-append, arith}
use Rattle.std.specs.List.{flat_map}
use Rattle.packet_wire.specs.declared.fault.FaultKind.TheVariants as faults
use Rattle.packet_wire.specs.declared.fault.WireFault.{WireFault}
use Rattle.packet_wire.specs.declared.phase.Phase.{Phase}
use Rattle.packet_wire.specs.declared.phase.Phase.TheVariants.{BeforeManifest, BeforeTicket, BeforeEnd, Ended}
use Rattle.packet_wire.specs.Faults.{HasFailing}
use Rattle.packet_wire.specs.Judgements.{Judgement, body_judgements, first_failure, head_judgements, judgements}
use Rattle.packet_wire.specs.Stream.{Contents, IsStream, end_frame, manifest_frame, packet_frame, spelling_of, ticket_frame}
use Rattle.packet_wire.proofs.Packets.{few_packets}

abbrev NotTruncated : List Judgement → Type 0
NotTruncated [] = Unit {0}
NotTruncated (j ∷ js) = (j.kind ≢ faults.Truncated) × NotTruncated js

-- the first failure is one of them
chosen : (b : Bool) (f g : WireFault) (r : Option WireFault) → f.kind ≢ faults.Truncated → (r ≡ Some g → g.kind ≢ faults.Truncated) → (if b then Some f else r) ≡ Some g → g.kind ≢ faults.Truncated
chosen true f g r not more is = let same : f ≡ g = cc in subst (λ (h : WireFault). h.kind ≢ faults.Truncated) same not
chosen false f g r not more is = more is

failure_kind : (js : List Judgement) (count : ℕ) (f : WireFault) → NotTruncated js → first_failure js count ≡ Some f → f.kind ≢ faults.Truncated
failure_kind [] count f all is = absurd cc
failure_kind (j ∷ js) count f all is =
    chosen (j.at == count && not j.passes) (record { offset = j.offset; kind = j.kind }) f (first_failure js count) all.0 (failure_kind js count f all.1) is

both : (xs ys : List Judgement) → NotTruncated xs → NotTruncated ys → NotTruncated (xs ++ ys)
both [] ys all more = more
both (x ∷ xs) ys all more = (all.0, both xs ys all.1 more)

of_head : (phase : Phase) (front : List ℕ) → NotTruncated (head_judgements phase front)
unfolding head_judgements
of_head phase front =
    (λ is. absurd cc, (λ is. absurd cc, (λ is. absurd cc, (λ is. absurd cc, (λ is. absurd cc, (λ is. absurd cc, (λ is. absurd cc, (λ is. absurd cc, tt))))))))

of_body : (phase : Phase) (front : List ℕ) → NotTruncated (body_judgements phase front)
unfolding body_judgements
of_body BeforeManifest front = (λ is. absurd cc, (λ is. absurd cc, (λ is. absurd cc, (λ is. absurd cc, tt))))
of_body (BeforeTicket shape) front = (λ is. absurd cc, tt)
of_body (BeforeEnd shape) front = (λ is. absurd cc, tt)
of_body Ended front = tt

of_all : (phase : Phase) (front : List ℕ) → NotTruncated (judgements phase front)
unfolding judgements
of_all BeforeManifest front = both (head_judgements BeforeManifest front) (body_judgements BeforeManifest front) (of_head BeforeManifest front) (of_body BeforeManifest front)
of_all (BeforeTicket shape) front = both (head_judgements (BeforeTicket shape) front) (body_judgements (BeforeTicket shape) front) (of_head (BeforeTicket shape) front) (of_body (BeforeTicket shape) front)
of_all (BeforeEnd shape) front = both (head_judgements (BeforeEnd shape) front) (body_judgements (BeforeEnd shape) front) (of_head (BeforeEnd shape) front) (of_body (BeforeEnd shape) front)
of_all Ended front = (λ is. absurd cc, tt)

pub failing_kind : (bytes : List ℕ) (fault : WireFault) → HasFailing bytes fault → fault.kind ≢ faults.Truncated
failing_kind bytes fault fails =
    let inner = fails.1.0 in
    let from = fails.1.1 in
    let kind : inner.kind ≢ faults.Truncated = failure_kind _ _ inner (of_all _ _) from.fails in
    λ is. kind (ap (λ (f : WireFault). f.kind) (sym fails.1.2) ∙ is)

-- ---- sizes

pub few_in_stream : (bytes : List ℕ) (contents : Contents) → IsStream bytes contents → length contents.packets ≤ length bytes
unfolding spelling_of
few_in_stream bytes contents is =
    let packets = flat_map packet_frame contents.packets in
    let all = ap (λ (l : List ℕ). length l) is.spelled in
    let one = length-append (manifest_frame contents.manifest) (ticket_frame contents.ticket ++ (packets ++ end_frame)) in
    let two = length-append (ticket_frame contents.ticket) (packets ++ end_frame) in
    let three = length-append packets end_frame in
    let few = few_packets contents.packets in
    omega arith
