use Rattle.std.proofs.Common.{◌≡◌, ◌∙◌, [], map, refl, sym, ap}
use Rattle.table_rows.specs.RegionLaws.{RecordLaws}
use Rattle.shared_basis.specs.Bases.{BasisValue, PassValue}
use Rattle.shared_basis.proofs.PassLemmas.{pass_looked, records_by, seen_on, sees_before}
use Rattle.shared_basis.proofs.basis.SharedBasis.look.Goals as goal

-- the desk stays at its table
at_table : (c : goal.After-len) → c.look_on.new.desk.seat.table ≡ c.pass.inside.desk.seat.table
at_table c = c.look_on.ensures.seat.table ∙ ap (λ (b : BasisValue). b.table) c.self.view_is ∙ sym c.requires.pass.table
    ∙ sym (ap (λ (p : PassValue). p.table) c.pass.view_is)

pub invariant_of-pass : goal.invariant_of-pass
invariant_of-pass c =
    let p = c.pass.inside in
    let laws : RecordLaws = c.records.ensures in
    pass_looked laws c.histories.ensures.other_records c.steps.ensures.others p.desk c.look_on.new.desk p.founder p.number _ p.calls
    (map (λ packet. packet.value) p.offered.items) p.offered.spare p.spare c.pass.invariant c.look_on.ensures.desk
    (at_table c) c.look_on.ensures.looked

pub returns-clause-prefix : goal.returns-clause-prefix
returns-clause-prefix c =
    let v = c.pass.inside.desk.seat.view in let w = c.look_on.new.desk.seat.view in
    let looked = c.look_on.ensures.looked in
    sees_before _ _ _ c.pass.view_is (record {
      table = at_table c;
      parameters = looked.parameters;
      number = refl;
      prefix = seen_on v _ looked.more [] (records_by v w looked.more looked.parameters looked.regions);
    })
