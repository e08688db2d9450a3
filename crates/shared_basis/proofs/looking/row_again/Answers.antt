use Rattle.std.proofs.Common.{refl, ◌∙◌}
use Rattle.shared_basis.specs.declared.desk.Desk.{Desk}
use Rattle.shared_basis.proofs.LookLemmas.{reread_desk}
use Rattle.shared_basis.proofs.looking.row_again.Goals as goal

pub returns-clause-desk : goal.returns-clause-desk
returns-clause-desk c =
    let d : Desk = c.args.desk.now in
    reread_desk d _ _ c.requires.desk c.read_rest.ensures.sound c.read_rest.ensures.view refl refl refl refl
    (record {
      coeffs = c.take_symbols.ensures.lengths.0 ∙ c.requires.desk.row.coeffs;
      payload = c.take_symbols.ensures.lengths.1 ∙ c.requires.desk.row.payload;
    })
