use Rattle.std.proofs.Common.{map, sym, ap, ◌∙◌, subst}
use Rattle.std.specs.Prelude.{Some}
use Rattle.table_rows.specs.declared.view.CallerView.{CallerView}
use Rattle.table_rows.specs.declared.view.Parameters.{Parameters}
use Rattle.table_rows.specs.Good.{IsNextRegion}
use Rattle.table_rows.specs.Steps.{draft_words}
use Rattle.table_rows.specs.Views.{words_read}
use Rattle.table_rows.proofs.WorkedRecords.{Laws, first_alone, first_words}
use Rattle.table_rows.proofs.tests.append_first.Goals as goal

pub append-requires-clause-good : goal.append-requires-clause-good
append-requires-clause-good c =
    let laws : Laws = record {
      field = c.field.ensures;
      none = c.rows.ensures.none;
      fresh = c.decision.ensures.fresh;
      stands = c.decision.ensures.stands;
      joins = c.decision.ensures.joins;
    } in
    let p : Parameters = c.args.table.now.parameters in
    let e = c.write_all.ensures.written ∙ ap (λ (u : CallerView). record u { written = map Some first_words }) c.requires.new in
    subst (λ (u : CallerView). IsNextRegion p (words_read u.sight.front) (draft_words u)) (sym e) (first_alone laws p c.requires.seat.1)
