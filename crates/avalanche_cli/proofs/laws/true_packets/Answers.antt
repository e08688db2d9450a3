use Rattle.avalanche_cli.proofs.TrueLemmas.{true_file}
use Rattle.avalanche_cli.proofs.laws.true_packets.Goals as goal

pub returns : goal.returns
returns c = true_file c.callers.ensures.recorded c.records.ensures.innovative
