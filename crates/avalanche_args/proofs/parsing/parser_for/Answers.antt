use Rattle.clap.specs.Simple.{app_of}
use Rattle.avalanche_args.proofs.ParsingLemmas.{all_options, one_more}
use Rattle.avalanche_args.proofs.parsing.parser_for.Goals as goal

pub loop-option-preserved : goal.loop-option-preserved
loop-option-preserved c =
    one_more c.args.command (app_of c.loop-option.parser) c.options-options.result.now c.loop-option.option-index c.loop-option.invariant (app_of c.in_ok-parser.parser) _ c.loop-option-test.true c.in_ok-parser.ensures

pub returns : goal.returns
returns c =
    all_options c.args.command (app_of c.loop-option.parser) c.options-options.result.now c.loop-option.option-index c.loop-option.invariant c.options-options.ensures c.loop-option-test.false
