-- What the headline says of one call and of one basis.
use Rattle.std.proofs.Common.{◌≡◌, ℕ, ◌+◌, ◌<◌, List, [], ◌∷◌, length, take, get_or, sym, subst, arith, inl, inr}
use Rattle.std.specs.Prelude.{Option, None, Some, IfSome, map}
use Rattle.std.specs.List.{All, AllByRecursion, filter}
use Rattle.std.proofs.lemmas.Bool.{cases_lt}
use Rattle.std.proofs.lemmas.List.Elements.{All-filter, All-map, All-take, All-from_recursion, recursion_from_All}
use Rattle.linear_spec.specs.declared.equations.Equations.{Equations}
use Rattle.linear_spec.specs.declared.packet.Packet.{Packet}
use Rattle.linear_spec.specs.declared.record.Record.{Record}
use Rattle.linear_spec.specs.declared.reply.Reply.{Reply}
use Rattle.linear_spec.specs.declared.reply.Reply.TheVariants.{FailedCheck, Innovative, NotInnovative, Conflicting}
use Rattle.linear_spec.specs.Packet.{Fits}
use Rattle.linear_spec.specs.Passing.{IsFirstFailing, Passes}
use Rattle.linear_spec.specs.RowLaws.{CaseLaws}
use Rattle.linear_spec.specs.SequentialBasis.{IsReply, packets_of}
use Rattle.basis_core.specs.declared.trace.BasisTrace.{BasisTrace}
use Rattle.basis_core.specs.Calls.{KeptCall, KeptOffer, KeptDraw, point_of}
use Rattle.basis_core.specs.Legal.{IsAnsweredOver, IsLegalHistory}
use Rattle.basis_core.specs.Merge.{Given, all_calls, made_by, merge_of}
use Rattle.basis_core.specs.Run.{is_by}
use Rattle.generation.specs.Shape.{symbols_per_block}
use Rattle.packet_wire.specs.Stream.{Contents}
use Rattle.recode.specs.Draws.{drawn_over, numbers_of, tag_of_draw}
use Rattle.receive_pass.specs.declared.worker.TaggedPacket.{TaggedPacket}
use Rattle.receive_pass.specs.Workers.{AreOffersOf}
use Rattle.shared_reception.specs.declared.sends.Sending.{Sending}
use Rattle.shared_reception.specs.Dealing.{dealt_to, given_below, tagged_from}
use Rattle.shared_reception.specs.Relayed.{draws_of}
use Rattle.avalanche_cli.specs.Headline.{IsOneHistory, IsTold, IsToldOf}
use Rattle.avalanche_cli.specs.Packets.{equations_of}
use Rattle.avalanche_cli.specs.Trace.{IsLegalBasis, caller_count}
use Rattle.avalanche_cli.proofs.PassingLemmas.{is_passing}
use Rattle.avalanche_cli.proofs.TraceLemmas.{given_here}
use Rattle.avalanche_cli.proofs.TrueLemmas.{InnovativeLaw, RecordedLaw, is_taken, is_within, of_records, twice_more}

-- ---- one call

not_passing : (equations : Equations) (packet : Packet) (check : ℕ) → IsFirstFailing equations packet check → ¬ Passes equations packet
not_passing equations packet check failing passes = failing.fails (passes check failing.below)

told_of : CaseLaws → (equations : Equations) (front : List Packet) (packet : Packet) (reply : Reply) → All (Fits equations.k equations.s) front → Fits equations.k equations.s packet → IsReply equations front packet reply → IsToldOf equations front packet reply
told_of laws equations front packet (FailedCheck check at) fit fits is =
    let fails = not_passing equations packet check is.0 in
    record {
      fails = (λ _. fails, λ _. tt);
      records = (λ no. absurd no, λ both. absurd (fails both.0));
      lies = (λ no. absurd no, λ both. absurd (fails both.0));
      conflicts = (λ no. absurd no, λ both. absurd (fails both.0));
    }
told_of laws equations front packet (Innovative at) fit fits is = record {
  fails = (λ no. absurd no, λ fails. absurd (fails is.0));
  records = (λ _. (is.0, is.1.0), λ _. tt);
  lies = (λ no. absurd no, λ both. absurd ((laws.one_case equations.k equations.s front packet fit fits).within_is_not_fresh both.1 is.1.0));
  conflicts = (λ no. absurd no, λ both. absurd (both.1.0 is.1.0));
}
told_of laws equations front packet (NotInnovative at) fit fits is = record {
  fails = (λ no. absurd no, λ fails. absurd (fails is.0));
  records = (λ no. absurd no, λ both. absurd ((laws.one_case equations.k equations.s front packet fit fits).within_is_not_fresh is.1.0 both.1));
  lies = (λ _. (is.0, is.1.0), λ _. tt);
  conflicts = (λ no. absurd no, λ both. absurd (both.1.1 is.1.0));
}
told_of laws equations front packet (Conflicting at) fit fits is = record {
  fails = (λ no. absurd no, λ fails. absurd (fails is.0));
  records = (λ no. absurd no, λ both. absurd (is.1.0.0 both.1));
  lies = (λ no. absurd no, λ both. absurd (is.1.0.1 both.1));
  conflicts = (λ _. (is.0, is.1.0), λ _. tt);
}

-- the packet of an offer fits
abbrev FitsCall : Equations → KeptCall → Type 0
FitsCall equations (KeptOffer tag packet reply) = Fits equations.k equations.s packet
FitsCall equations (KeptDraw tag drawn) = Unit {0}

told : CaseLaws → (equations : Equations) (records : List Record) (call : KeptCall) → All (Fits equations.k equations.s) (packets_of records) → FitsCall equations call → IsAnsweredOver equations records call → IsTold equations records call
told laws equations records (KeptOffer tag packet reply) fit fits is =
    told_of laws equations (take (point_of (KeptOffer tag packet reply)) (packets_of records)) packet reply
    (All-take (Fits equations.k equations.s) (point_of (KeptOffer tag packet reply)) (packets_of records) fit) fits is.answered
told laws equations records (KeptDraw tag drawn) fit fits is = is.answered

-- ---- one basis

dealt_fit : (P : Packet → Type 0) (receivers receiver generation : ℕ) (packets : List Packet) (tag : ℕ) → AllByRecursion P packets → AllByRecursion (λ d. P d.packet) (filter (is_within generation) (filter (is_taken receivers receiver) (tagged_from packets tag)))
dealt_fit P receivers receiver generation [] tag all = tt
dealt_fit P receivers receiver generation (first ∷ packets) tag all =
    let dealt : TaggedPacket = record { tag = tag; packet = first } in
    twice_more (λ (d : TaggedPacket). P d.packet) (is_within generation) (is_taken receivers receiver dealt) dealt (filter (is_taken receivers receiver) (tagged_from packets (tag + 1)))
    (λ _. all.0) (dealt_fit P receivers receiver generation packets (tag + 1) all.1)

offers_fit : (equations : Equations) (dealt : List TaggedPacket) (calls : List KeptCall) → AreOffersOf dealt calls → AllByRecursion (λ d. Fits equations.k equations.s d.packet) dealt → AllByRecursion (FitsCall equations) calls
offers_fit equations [] [] are all = tt
offers_fit equations [] (call ∷ calls) are all = absurd are
offers_fit equations (first ∷ dealt) [] are all = absurd are
offers_fit equations (first ∷ dealt) (KeptDraw tag drawn ∷ calls) are all = absurd are
offers_fit equations (first ∷ dealt) (KeptOffer tag packet reply ∷ calls) are all =
    (subst (Fits equations.k equations.s) (sym are.1) all.0, offers_fit equations dealt calls are.2 all.1)

abbrev pub AnsweredLaw : Type 0
AnsweredLaw = (equations : Equations) (given : Given) (records : List Record) (number : ℕ) (calls : List KeptCall) → IsLegalHistory equations given records → given number ≡ Some calls → All (IsAnsweredOver equations records) calls

abbrev pub OnceLaw : Type 0
OnceLaw = (equations : Equations) (given : Given) (records : List Record) (number : ℕ) (calls : List KeptCall) → IsLegalHistory equations given records → given number ≡ Some calls → filter (is_by number) (merge_of (all_calls given records)) ≡ map (made_by number) calls

draws_fit : (equations : Equations) (sending : Sending) (generation n : ℕ) → All (FitsCall equations) (draws_of sending generation n)
draws_fit equations sending generation n =
    All-map (FitsCall equations) (λ q. KeptDraw (tag_of_draw sending.link q) (drawn_over n)) (numbers_of sending.coded generation) (λ place other low. tt)

-- the calls of the one that draws fit where those of the receivers do
callers_fit : (equations : Equations) (receivers : ℕ) (sending : Option Sending) (generation n : ℕ) (kept : ℕ → List KeptCall) → IfSome sending (λ its. kept receivers ≡ draws_of its generation n) → ((number : ℕ) → number < receivers → All (FitsCall equations) (kept number)) → (number : ℕ) → number < caller_count receivers sending → All (FitsCall equations) (kept number)
callers_fit equations receivers None generation n kept draws offers number low = offers number low
callers_fit equations receivers (Some its) generation n kept draws offers number low = elim (cases_lt number receivers) [
  | inl before ↦ offers number before
  | inr after ↦
      let last : receivers ≡ number = omega arith in
      subst (λ (m : ℕ). All (FitsCall equations) (kept m)) last (subst (All (FitsCall equations)) (sym draws) (draws_fit equations its generation n))
]

pub one_history : CaseLaws → AnsweredLaw → OnceLaw → RecordedLaw → InnovativeLaw → (receivers : ℕ) (sending : Option Sending) (generation : ℕ) (contents : Contents) (basis : BasisTrace) → All (Fits contents.manifest.shape.k (symbols_per_block contents.manifest.shape)) contents.packets → IsLegalBasis (equations_of contents) receivers sending contents.packets generation basis → IsOneHistory (equations_of contents) receivers sending contents.packets generation basis
one_history cases answered once recorded innovative receivers sending generation contents basis fit is =
    let equations = equations_of contents in
    let P : Packet → Type 0 = Fits equations.k equations.s in
    let records = basis.records.items in
    let count = caller_count receivers sending in
    let given = given_below count is.kept in
    let records_fit : All P (packets_of records) = of_records recorded innovative P equations receivers sending contents.packets generation basis is (All-filter (is_passing equations generation) P contents.packets fit) in
    let calls_fit : (number : ℕ) → number < count → All (FitsCall equations) (is.kept number) =
    callers_fit equations receivers sending generation (length records) is.kept is.draws
    (λ number low. All-from_recursion (FitsCall equations) (is.kept number)
    (offers_fit equations (dealt_to receivers number generation contents.packets) (is.kept number) (is.offers number low)
    (dealt_fit P receivers number generation contents.packets 0 (recursion_from_All P contents.packets fit)))) in
    record {
      legal = is;
      once = λ number low. once equations given records number (is.kept number) is.legal (given_here count number is.kept low);
      after_all_seen = λ number low. is.legal.in_order number (is.kept number) (given_here count number is.kept low);
      told = λ number low at other below.
          told cases equations records (get_or (is.kept number) at other) records_fit (calls_fit number low at other below)
          (answered equations given records number (is.kept number) is.legal (given_here count number is.kept low) at other below);
    }
