use Rattle.avalanche_cli.proofs.PassingLemmas.{failing_of_first, first_of_failing, passes_of, passing_of}
use Rattle.avalanche_cli.proofs.laws.checks.Goals as goal

pub returns-clause-passes : goal.returns-clause-passes
returns-clause-passes c = λ equations packet. (passing_of equations packet, passes_of equations packet)

pub returns-clause-first : goal.returns-clause-first
returns-clause-first c = λ equations packet check. (failing_of_first equations packet check, first_of_failing equations packet check)
