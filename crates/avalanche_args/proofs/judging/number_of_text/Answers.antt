use Rattle.std.proofs.Common.{◌∙◌, sym}
use Rattle.avalanche_args.proofs.NumberLemmas.{no_number, not_taken, right}
use Rattle.avalanche_args.proofs.judging.number_of_text.Goals as goal

pub returns-in-Some-clause-judged : goal.returns-in-Some-clause-judged
returns-in-Some-clause-judged c = right c.args.option c.args.text.now c.in-Some.number c.in-Some.ensures (sym c.takes.ensures.value ∙ c.if-takes.true)

pub returns-in_default-clause-judged : goal.returns-in_default-clause-judged
returns-in_default-clause-judged c = not_taken c.args.option c.args.text.now c.in-Some.number c.in-Some.ensures (sym c.takes.ensures.value ∙ c.if-takes.false)

pub returns-in_default-2-clause-judged : goal.returns-in_default-2-clause-judged
returns-in_default-2-clause-judged c = no_number c.args.option c.args.text.now c.requires c.in_default.ensures
