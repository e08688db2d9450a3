-- From the bases of all generations to what is told of a stream.
use Rattle.std.proofs.Common.{◌≡◌, ◌<◌, ℕ, List, length, get_or, take, refl, ap, subst, sym, ◌∙◌, arith}
use Rattle.std.specs.Prelude.{Result, Ok, Err, IfOk, IfErr, OnOk}
use Rattle.std.specs.List.{All}
use Rattle.std.proofs.lemmas.List.{get_or-take, length-take-le}
use Rattle.sha2.specs.Sha256.{sha256}
use Rattle.linear_spec.specs.List.{ListValue}
use Rattle.linear_spec.specs.declared.equations.Equations.{Equations}
use Rattle.linear_spec.specs.declared.packet.Packet.{Packet}
use Rattle.shared_basis.specs.declared.params.Closed.{Closed}
use Rattle.generation.specs.Shape.{generations_of}
use Rattle.src_check.specs.Tickets.{AreEquationsOf}
use Rattle.packet_wire.specs.Stream.{Contents}
use Rattle.avalanche_cli.specs.Files.{IsFirstIncomplete, IsOnlyFileOf, recorded_packets}
use Rattle.avalanche_cli.specs.Packets.{HasFullRank, HasPacketRank, equations_of}
use Rattle.avalanche_cli.specs.Reception.{IsFirstLow, IsFull, IsJudged, IsStop, packets_in}
use Rattle.avalanche_cli.specs.declared.reception.NoFile.{NoFile}
use Rattle.avalanche_cli.specs.declared.reception.NoFile.TheVariants.{Incomplete, Mismatch, Memory}
use Rattle.avalanche_cli.specs.declared.trace.Trace.{Trace}
use Rattle.avalanche_cli.proofs.TraceLemmas.{no_basis}

-- the equations of a ticket are those of the stream
pub same_equations : (contents : Contents) (equations : Equations) → AreEquationsOf contents.manifest.shape contents.ticket equations → equations ≡ equations_of contents
same_equations contents equations are =
    let reverse : equations_of contents ≡ equations = rw (← are.weights, ← are.generations, ← are.s, ← are.k, ← are.checks, ← are.sums) refl in
    sym reverse

module _ (contents : Contents) (trace : Trace) (bases : List Closed) (count : length bases ≡ generations_of contents.manifest.shape) (ranks : (generation : ℕ) → generation < generations_of contents.manifest.shape → HasPacketRank contents generation (length (get_or bases generation no_basis).records.items)) where
  full_rank : All (IsFull contents.manifest.shape.k) bases → HasFullRank contents
  full_rank full = λ generation low. subst (HasPacketRank contents generation) (full generation no_basis (omega arith)) (ranks generation low)

  first_incomplete : (generation rank : ℕ) → IsFirstLow contents.manifest.shape.k bases generation rank → IsFirstIncomplete contents generation rank
  first_incomplete generation rank is =
      let below : generation < generations_of contents.manifest.shape = subst (λ (n : ℕ). generation < n) count is.below in
      let taken : length (take generation bases) ≡ generation = length-take-le generation bases (omega (arith, is.below)) in
      record {
        below = below;
        rank_is = subst (HasPacketRank contents generation) (sym (is.rank_is no_basis)) (ranks generation below);
        low = is.low;
        full_before = λ earlier before.
            let full : IsFull contents.manifest.shape.k (get_or (take generation bases) earlier no_basis) = is.full_before earlier no_basis (omega arith) in
            let same : length (get_or bases earlier no_basis).records.items ≡ contents.manifest.shape.k = ap (λ (b : Closed). length b.records.items) (sym (get_or-take generation bases earlier no_basis before)) ∙ full in
            subst (HasPacketRank contents earlier) same (ranks earlier (omega arith));
      }

  -- what solving tells is what is told of the stream
  pub judged_of : (file : Result (ListValue ℕ) NoFile) → recorded_packets trace.bases.items ≡ packets_in bases → OnOk file (All (IsFull contents.manifest.shape.k) bases) → IfOk file (λ f. IsOnlyFileOf contents.manifest.shape (packets_in bases) f.items) → IfOk file (λ f. sha256 f.items ≡ contents.manifest.digest) → IfErr file (IsStop contents.manifest bases) → IsJudged contents trace file
  judged_of (Ok file) same full is digest stop = record {
    full = full_rank full;
    is_file = subst (λ (l : List (List Packet)). IsOnlyFileOf contents.manifest.shape l file.items) (sym same) is;
    digest = digest;
  }
  judged_of (Err (Incomplete generation rank)) same full is digest stop = first_incomplete generation rank stop
  judged_of (Err (Mismatch found)) same full is digest stop = record {
    full = full_rank stop.full;
    file = stop.file;
    is_file = subst (λ (l : List (List Packet)). IsOnlyFileOf contents.manifest.shape l stop.file) (sym same) stop.is_file;
    found_is = stop.found_is;
    differs = stop.differs;
  }
  judged_of (Err Memory) same full is digest stop = tt
