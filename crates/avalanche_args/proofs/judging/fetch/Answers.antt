use Rattle.std.proofs.Common.{◌∙◌, ap, sym, [], Err}
use Rattle.avalanche_args.specs.Options.{receivers}
use Rattle.avalanche_args.specs.declared.command.CommandName.TheVariants as name
use Rattle.avalanche_args.proofs.JudgingLemmas.{exits, judged_right, judged_wrong, none_left, passes, stops}
use Rattle.avalanche_args.proofs.judging.fetch.Goals as goal

pub returns-in_err-receivers-clause-value : goal.returns-in_err-receivers-clause-value
returns-in_err-receivers-clause-value c =
    exits c.from_residual.result c.in_err-receivers.field-0.0 c.from_residual.ensures.1 ∙ ap Err c.in_err-receivers.ensures.judged.1
    ∙ sym (judged_wrong name.Fetch _ receivers (stops receivers [] _ c.in_err-receivers.ensures.judged.0))

pub returns-clause-value : goal.returns-clause-value
returns-clause-value c = rw c.in_ok-receivers.ensures.judged.1 (sym (judged_right name.Fetch _ (passes receivers [] _ c.in_ok-receivers.ensures.judged.0 ∙ none_left _)))
