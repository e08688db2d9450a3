use Rattle.std.proofs.Common.{◌≡◌, ◌∙◌, map, length, sym, ap, subst, arith}
use Rattle.std.specs.List.{All}
use Rattle.linear_spec.specs.Packet.{Fits}
use Rattle.linear_spec.specs.Rows.{StandForAll}
use Rattle.linear_spec.specs.SequentialBasis.{packets_of}
use Rattle.basis_core.specs.Run.{AreInnovative}
use Rattle.table_rows.specs.RegionLaws.{RecordLaws}
use Rattle.shared_basis.specs.Bases.{PassValue}
use Rattle.shared_basis.specs.Regions.{regions_seen}
use Rattle.shared_basis.proofs.PassLemmas.{kept_count, seen_fit, seen_innovative, seen_stand}
use Rattle.shared_basis.proofs.pass.Pass.has_seen.Goals as goal

laws_of : (c : goal.After-self) → RecordLaws
laws_of c = c.records.ensures

pub returns-clause-fit : goal.returns-clause-fit
returns-clause-fit c =
    let v = c.self.inside.desk.seat.view in let desk = c.self.invariant.desk in
    subst (λ (p : PassValue). All (Fits p.parameters.k p.parameters.s) (packets_of p.seen)) c.self.view_is
    (seen_fit (laws_of c) v.sight.parameters (regions_seen v) (desk.sound.good desk.whole))

pub returns-clause-innovative : goal.returns-clause-innovative
returns-clause-innovative c =
    let v = c.self.inside.desk.seat.view in let desk = c.self.invariant.desk in
    subst (λ (p : PassValue). AreInnovative p.parameters.equations.value (packets_of p.seen)) c.self.view_is
    (seen_innovative (laws_of c) v.sight.parameters (regions_seen v)
    (desk.sound.good desk.whole) c.self.invariant.parameters.k)

pub returns-clause-stand : goal.returns-clause-stand
returns-clause-stand c =
    let v = c.self.inside.desk.seat.view in let desk = c.self.invariant.desk in
    subst (λ (p : PassValue). StandForAll p.parameters.k p.parameters.s (packets_of p.seen) p.rows) c.self.view_is
    (seen_stand (laws_of c) v.sight.parameters (regions_seen v) (desk.sound.good desk.whole))

pub returns-clause-few : goal.returns-clause-few
returns-clause-few c =
    let p = c.self.inside in
    let count : length p.calls.items ≡ length c.args.self.now.calls =
    sym (kept_count p.calls.items (map (λ packet. packet.value) p.offered.items) c.self.invariant.paired)
    ∙ ap (λ (v : PassValue). length v.calls) c.self.view_is in
    let spare : p.spare ≡ c.args.self.now.spare = ap (λ (v : PassValue). v.spare) c.self.view_is in
    let few = c.self.invariant.few in
    omega arith
