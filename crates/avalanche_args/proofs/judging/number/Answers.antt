use Rattle.std.proofs.Common.{subst, List, ℕ, Option, Ok}
use Rattle.avalanche_args.specs.Steps.{IsJudged}
use Rattle.avalanche_args.proofs.JudgingLemmas.{by_default, text_found}
use Rattle.avalanche_args.proofs.judging.number.Goals as goal

pub returns-in-Some-clause-judged : goal.returns-in-Some-clause-judged
returns-in-Some-clause-judged c =
    let found = text_found c.args.matches.now c.args.option c.text.result.now _ c.text.ensures c.in-Some.ensures in
    subst (λ (text : Option (List ℕ)). IsJudged c.args.option text c.number_of_text.result) found c.number_of_text.ensures.judged

pub returns-in-None-clause-judged : goal.returns-in-None-clause-judged
returns-in-None-clause-judged c =
    let found = text_found c.args.matches.now c.args.option c.text.result.now _ c.text.ensures c.in-None.ensures in
    subst (λ (text : Option (List ℕ)). IsJudged c.args.option text (Ok c.args.option.default)) found (by_default c.args.option c.requires.default.most)
