use Rattle.table_rows.proofs.laws.access.Goals as goal

pub returns : goal.returns
returns c = record {
  look = λ by before after found step. step.3;
  read = λ by before after found step. step.3;
  write = λ by before after found step. step.3;
  exchange = λ by before after found step. step.3;
}
