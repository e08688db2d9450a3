use Rattle.avalanche_cli.proofs.ReadingLemmas.{holds_of}
use Rattle.avalanche_cli.proofs.reading.read_stream.Goals as goal

pub returns-clause-holds : goal.returns-clause-holds
returns-clause-holds g c = holds_of c.readings.ensures.one_contents _ c.in_ok-frames.frames.items _ c.in_ok-frames.ensures.holds c.in_ok-of_frames.ensures
