use Rattle.table_rows.proofs.WorkedRecords.{Laws, first_alone, first_after}
use Rattle.table_rows.proofs.tests.put_first.Goals as goal

pub put_in-requires-clause-first : goal.put_in-requires-clause-first
put_in-requires-clause-first c =
    let laws : Laws = record {
      field = c.field.ensures;
      none = c.rows.ensures.none;
      fresh = c.decision.ensures.fresh;
      stands = c.decision.ensures.stands;
      joins = c.decision.ensures.joins;
    } in
    first_alone laws c.args.table.now.parameters c.requires.seat.1

pub put_in-requires-clause-second : goal.put_in-requires-clause-second
put_in-requires-clause-second c =
    let laws : Laws = record {
      field = c.field.ensures;
      none = c.rows.ensures.none;
      fresh = c.decision.ensures.fresh;
      stands = c.decision.ensures.stands;
      joins = c.decision.ensures.joins;
    } in
    first_after laws c.args.table.now.parameters c.requires.seat.1
