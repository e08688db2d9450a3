use Rattle.std.proofs.Common.{◌∙◌, ap, sym, map, List, ℕ, Bor}
use Rattle.avalanche_args.proofs.JudgingLemmas.{exits}
use Rattle.avalanche_args.proofs.ReadingLemmas.{of_none, of_unknown, refused_words, taken_words}
use Rattle.avalanche_args.proofs.reading.read_words.Goals as goal

pub returns-in_default-clause-usage : goal.returns-in_default-clause-usage
returns-in_default-clause-usage c = of_none c.args.words.now (sym c.in_default.ensures.value)

pub returns-in_default-named-clause-usage : goal.returns-in_default-named-clause-usage
returns-in_default-named-clause-usage c =
    of_unknown c.args.words.now c.in-Some.first.now (sym c.in-Some.ensures.value) (sym c.in_default-named.ensures)

pub returns-in_err-matches-clause-usage : goal.returns-in_err-matches-clause-usage
returns-in_err-matches-clause-usage c =
    let gone = exits c.from_residual-in_err-matches.result c.in_err-matches.field-0.0 c.from_residual-in_err-matches.ensures.1 in
    let texts = ap (map (λ (text : Bor (List ℕ)). text.now)) c.as_slice.ensures.value ∙ c.in_ok-texts.ensures in
    rw gone (refused_words c.args.words.now _ c.in-Some.first.now c.in-Some-named.command texts (sym c.in-Some.ensures.value) (sym c.in-Some-named.ensures) c.in_err-matches.field-0.0 c.in_err-matches.ensures)

pub returns-in-Ok-clause-ok : goal.returns-in-Ok-clause-ok
returns-in-Ok-clause-ok c =
    let texts = ap (map (λ (text : Bor (List ℕ)). text.now)) c.as_slice.ensures.value ∙ c.in_ok-texts.ensures in
    taken_words c.args.words.now _ c.in-Some.first.now c.in-Some-named.command texts (sym c.in-Some.ensures.value) (sym c.in-Some-named.ensures) c.in_ok-matches.matches _ c.in_ok-matches.ensures c.in-Ok.ensures.value

pub returns-clause-usage : goal.returns-clause-usage
returns-clause-usage c =
    let texts = ap (map (λ (text : Bor (List ℕ)). text.now)) c.as_slice.ensures.value ∙ c.in_ok-texts.ensures in
    taken_words c.args.words.now _ c.in-Some.first.now c.in-Some-named.command texts (sym c.in-Some.ensures.value) (sym c.in-Some-named.ensures) c.in_ok-matches.matches _ c.in_ok-matches.ensures c.in-Err.ensures.value
