use Rattle.clap.specs.Simple.{app_of}
use Rattle.avalanche_args.proofs.ParsingLemmas.{cause, taken}
use Rattle.avalanche_args.proofs.parsing.parsed.Goals as goal

pub returns-in-Ok : goal.returns-in-Ok
returns-in-Ok c = taken c.args.command (app_of c.in_ok-parser.parser) _ c.in-Ok.matches c.in_ok-parser.ensures c.in-Ok.ensures.kinds c.in-Ok.ensures.matches

pub returns-in-Err : goal.returns-in-Err
returns-in-Err c = cause c.args.command (app_of c.in_ok-parser.parser) _ c.in-Err.error c.cause_of.result c.in_ok-parser.ensures c.in-Err.ensures.kinds c.cause_of.ensures
