use Rattle.std.proofs.Common.{◌∙◌, ap, sym, [], ◌∷◌, Err}
use Rattle.avalanche_args.specs.Options.{key, link, receivers, relay_coded}
use Rattle.avalanche_args.specs.declared.command.CommandName.TheVariants as name
use Rattle.avalanche_args.proofs.JudgingLemmas.{exits, judged_right, judged_wrong, none_left, passes, stops}
use Rattle.avalanche_args.proofs.judging.relay.Goals as goal

pub returns-in_err-key-clause-value : goal.returns-in_err-key-clause-value
returns-in_err-key-clause-value c =
    let first = stops key (relay_coded ∷ link ∷ receivers ∷ []) _ c.in_err-key.ensures.judged.0 in
    exits c.from_residual.result c.in_err-key.field-0.0 c.from_residual.ensures.1 ∙ ap Err c.in_err-key.ensures.judged.1
    ∙ sym (judged_wrong name.Relay _ key first)

pub returns-in_err-coded-clause-value : goal.returns-in_err-coded-clause-value
returns-in_err-coded-clause-value c =
    let first = passes key (relay_coded ∷ link ∷ receivers ∷ []) _ c.in_ok-key.ensures.judged.0
    ∙ stops relay_coded (link ∷ receivers ∷ []) _ c.in_err-coded.ensures.judged.0 in
    exits c.from_residual-in_err-coded.result c.in_err-coded.field-0.0 c.from_residual-in_err-coded.ensures.1 ∙ ap Err c.in_err-coded.ensures.judged.1
    ∙ sym (judged_wrong name.Relay _ relay_coded first)

pub returns-in_err-link-clause-value : goal.returns-in_err-link-clause-value
returns-in_err-link-clause-value c =
    let first = passes key (relay_coded ∷ link ∷ receivers ∷ []) _ c.in_ok-key.ensures.judged.0
    ∙ passes relay_coded (link ∷ receivers ∷ []) _ c.in_ok-coded.ensures.judged.0
    ∙ stops link (receivers ∷ []) _ c.in_err-link.ensures.judged.0 in
    exits c.from_residual-in_err-link.result c.in_err-link.field-0.0 c.from_residual-in_err-link.ensures.1 ∙ ap Err c.in_err-link.ensures.judged.1
    ∙ sym (judged_wrong name.Relay _ link first)

pub returns-in_err-receivers-clause-value : goal.returns-in_err-receivers-clause-value
returns-in_err-receivers-clause-value c =
    let first = passes key (relay_coded ∷ link ∷ receivers ∷ []) _ c.in_ok-key.ensures.judged.0
    ∙ passes relay_coded (link ∷ receivers ∷ []) _ c.in_ok-coded.ensures.judged.0
    ∙ passes link (receivers ∷ []) _ c.in_ok-link.ensures.judged.0
    ∙ stops receivers [] _ c.in_err-receivers.ensures.judged.0 in
    exits c.from_residual-in_err-receivers.result c.in_err-receivers.field-0.0 c.from_residual-in_err-receivers.ensures.1 ∙ ap Err c.in_err-receivers.ensures.judged.1
    ∙ sym (judged_wrong name.Relay _ receivers first)

pub returns-clause-value : goal.returns-clause-value
returns-clause-value c =
    let none = passes key (relay_coded ∷ link ∷ receivers ∷ []) _ c.in_ok-key.ensures.judged.0
    ∙ passes relay_coded (link ∷ receivers ∷ []) _ c.in_ok-coded.ensures.judged.0
    ∙ passes link (receivers ∷ []) _ c.in_ok-link.ensures.judged.0
    ∙ passes receivers [] _ c.in_ok-receivers.ensures.judged.0
    ∙ none_left _ in
    rw (c.in_ok-key.ensures.judged.1, c.in_ok-coded.ensures.judged.1, c.in_ok-link.ensures.judged.1, c.in_ok-receivers.ensures.judged.1) (sym (judged_right name.Relay _ none))
