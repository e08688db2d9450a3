use Rattle.std.proofs.Common.{codes}
use Rattle.avalanche_cli.proofs.LineLemmas.{then_two}
use Rattle.avalanche_cli.proofs.line.append_usage.Goals as goal

pub returns-in-UnknownCommand-clause-items : goal.returns-in-UnknownCommand-clause-items
returns-in-UnknownCommand-clause-items c = rw c.in-UnknownCommand.is (then_two _ (codes "usage: ") (codes "unknown command") _ _ c.append.ensures c.append-in-UnknownCommand.ensures)
