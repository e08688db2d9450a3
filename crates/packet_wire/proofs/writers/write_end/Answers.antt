use Rattle.std.proofs.Common.{arith}
use Rattle.packet_wire.proofs.Written.{end_written}
use Rattle.packet_wire.proofs.writers.write_end.Goals as goal

pub returns-clause-ok : goal.returns-clause-ok
returns-clause-ok c = grind (arith, end_written c.args.out.now.items c.start_frame.new.out.items)
