use Rattle.avalanche_cli.proofs.HeadlineLemmas.{headline, keeps_itself}
use Rattle.avalanche_cli.proofs.RunLemmas as ran
use Rattle.avalanche_cli.proofs.CompleteLemmas as complete
use Rattle.avalanche_cli.proofs.program.run.Goals as goal

pub returns-clause-usage : goal.returns-clause-usage
returns-clause-usage g c = λ class at. ran.usage _ _ _ _ _ _ _ _ _ c.perform-outcome.result _ class c.perform-outcome.ensures.run at

pub returns-clause-no_command : goal.returns-clause-no_command
returns-clause-no_command g c = λ class says. ran.no_command _ _ _ _ _ _ _ _ _ c.perform-outcome.result _ class c.perform-outcome.ensures.run says

pub returns-clause-headline : goal.returns-clause-headline
returns-clause-headline g c = headline c.one_history.ensures c.relayed_streams.ensures.lie c.seeded_streams.ensures.lie _ _ _ _ _ _ _ _ _ c.perform-outcome.result _ (λ same. rw same (keeps_itself _)) c.perform-outcome.ensures.run

pub returns-clause-kept : goal.returns-clause-kept
returns-clause-kept g c = ran.kept _ _ _ _ _ _ _ _ _ c.perform-outcome.result _ c.perform-outcome.ensures.run

pub returns-clause-done_of_seed : goal.returns-clause-done_of_seed
returns-clause-done_of_seed g c = λ at. ran.done_of_seed _ _ _ _ _ _ _ _ _ c.perform-outcome.result _ c.perform-outcome.ensures.run at

pub returns-clause-done_of_fetch : goal.returns-clause-done_of_fetch
returns-clause-done_of_fetch g c = λ at. ran.done_of_fetch _ _ _ _ _ _ _ _ _ c.perform-outcome.result _ c.perform-outcome.ensures.run at

pub returns-clause-done_of_relay : goal.returns-clause-done_of_relay
returns-clause-done_of_relay g c = λ at. ran.done_of_relay _ _ _ _ _ _ _ _ _ c.perform-outcome.result c.relayed_streams.ensures.truly _ c.perform-outcome.ensures.run at

pub returns-clause-within_limit : goal.returns-clause-within_limit
returns-clause-within_limit g c = complete.within_limit _ _ _ _ _ _ _ _ c.perform-outcome.result _ _ c.perform-outcome.ensures.run

pub returns-clause-full_rank : goal.returns-clause-full_rank
returns-clause-full_rank g c = complete.full_rank _ _ _ _ _ _ _ _ c.perform-outcome.result c.incomplete.ensures.one c.incomplete.ensures.not_full c.readings.ensures.not_both c.readings.ensures.one_fault _ _ c.perform-outcome.ensures.run

pub returns-clause-mismatch : goal.returns-clause-mismatch
returns-clause-mismatch g c = λ found at. ran.mismatch _ _ _ _ _ _ _ _ _ c.perform-outcome.result _ found c.perform-outcome.ensures.run at

pub returns-clause-incomplete : goal.returns-clause-incomplete
returns-clause-incomplete g c = λ generation rank at. ran.incomplete _ _ _ _ _ _ _ _ _ c.perform-outcome.result _ generation rank c.perform-outcome.ensures.run at

pub returns-clause-low_rank : goal.returns-clause-low_rank
returns-clause-low_rank g c = complete.low_rank _ _ _ _ _ _ _ _ c.perform-outcome.result c.incomplete.ensures.one c.incomplete.ensures.not_full c.readings.ensures.not_both c.readings.ensures.one_fault _ _ c.perform-outcome.ensures.run

pub returns-clause-bad_stream : goal.returns-clause-bad_stream
returns-clause-bad_stream g c = λ fault at. ran.bad_stream _ _ _ _ _ _ _ _ _ c.perform-outcome.result _ fault c.perform-outcome.ensures.run at

pub returns-clause-unfetchable : goal.returns-clause-unfetchable
returns-clause-unfetchable g c = complete.unfetchable _ _ _ _ _ _ _ _ c.perform-outcome.result c.incomplete.ensures.one c.incomplete.ensures.not_full c.readings.ensures.not_both c.readings.ensures.one_fault _ _ c.perform-outcome.ensures.run

pub returns-clause-too_large_of_seed : goal.returns-clause-too_large_of_seed
returns-clause-too_large_of_seed g c = λ limit at. ran.too_large_of_seed _ _ _ _ _ _ _ _ _ c.perform-outcome.result _ limit c.perform-outcome.ensures.run at

pub returns-clause-too_large_of_stream : goal.returns-clause-too_large_of_stream
returns-clause-too_large_of_stream g c = λ limit at. ran.too_large_of_stream _ _ _ _ _ _ _ _ _ c.perform-outcome.result _ limit c.perform-outcome.ensures.run at

pub returns-clause-beyond_limit : goal.returns-clause-beyond_limit
returns-clause-beyond_limit g c = complete.beyond_limit _ _ _ _ _ _ _ _ c.perform-outcome.result _ _ c.perform-outcome.ensures.run

pub returns-clause-too_long : goal.returns-clause-too_long
returns-clause-too_long g c = complete.too_long _ _ _ _ _ _ _ _ c.perform-outcome.result c.incomplete.ensures.one c.incomplete.ensures.not_full c.readings.ensures.not_both c.readings.ensures.one_fault _ _ c.perform-outcome.ensures.run

pub returns-clause-read_fault : goal.returns-clause-read_fault
returns-clause-read_fault g c = λ at. ran.read_fault _ _ _ _ _ _ _ _ _ c.perform-outcome.result _ c.perform-outcome.ensures.run at

pub returns-clause-read_fault_of_stream : goal.returns-clause-read_fault_of_stream
returns-clause-read_fault_of_stream g c = λ at. ran.read_fault_of_stream _ _ _ _ _ _ _ _ _ c.perform-outcome.result _ c.perform-outcome.ensures.run at

pub returns-clause-write_fault : goal.returns-clause-write_fault
returns-clause-write_fault g c = λ at. ran.write_fault _ _ _ _ _ _ _ _ _ c.perform-outcome.result _ c.perform-outcome.ensures.run at

pub returns-clause-refusal_writes_nothing : goal.returns-clause-refusal_writes_nothing
returns-clause-refusal_writes_nothing g c = λ early. ran.refusal_writes_nothing _ _ _ _ _ _ _ _ _ c.perform-outcome.result _ c.perform-outcome.ensures.run early

pub returns-clause-write_fault_of_seed : goal.returns-clause-write_fault_of_seed
returns-clause-write_fault_of_seed g c = λ at. ran.write_fault_of_seed _ _ _ _ _ _ _ _ _ c.perform-outcome.result _ c.perform-outcome.ensures.run at

pub returns-clause-write_fault_of_fetch : goal.returns-clause-write_fault_of_fetch
returns-clause-write_fault_of_fetch g c = λ at. ran.write_fault_of_fetch _ _ _ _ _ _ _ _ _ c.perform-outcome.result _ c.perform-outcome.ensures.run at

pub returns-clause-write_fault_of_relay : goal.returns-clause-write_fault_of_relay
returns-clause-write_fault_of_relay g c = λ at. ran.write_fault_of_relay _ _ _ _ _ _ _ _ _ c.perform-outcome.result c.relayed_streams.ensures.truly _ c.perform-outcome.ensures.run at

pub returns-clause-memory_of_seed : goal.returns-clause-memory_of_seed
returns-clause-memory_of_seed g c = λ at. ran.memory_of_seed _ _ _ _ _ _ _ _ _ c.perform-outcome.result _ c.perform-outcome.ensures.run at

pub returns-clause-memory_of_fetch : goal.returns-clause-memory_of_fetch
returns-clause-memory_of_fetch g c = λ at. ran.memory_of_fetch _ _ _ _ _ _ _ _ _ c.perform-outcome.result _ c.perform-outcome.ensures.run at

pub returns-clause-memory_of_relay : goal.returns-clause-memory_of_relay
returns-clause-memory_of_relay g c = λ at. ran.memory_of_relay _ _ _ _ _ _ _ _ _ c.perform-outcome.result c.relayed_streams.ensures.truly _ c.perform-outcome.ensures.run at

pub returns-clause-true_packets : goal.returns-clause-true_packets
returns-clause-true_packets g c = complete.true_packets _ _ _ _ _ _ _ _ c.perform-outcome.result c.incomplete.ensures.one c.incomplete.ensures.not_full c.readings.ensures.not_both c.readings.ensures.one_fault c.true_packets.ensures _ _ c.perform-outcome.ensures.run

pub returns-clause-seeded_stream : goal.returns-clause-seeded_stream
returns-clause-seeded_stream g c =
    complete.seeded_stream _ _ _ _ _ _ _ _ c.perform-outcome.result c.incomplete.ensures.one c.incomplete.ensures.not_full c.readings.ensures.not_both c.readings.ensures.one_fault c.true_packets.ensures
    (record {
      stream = c.seeded_streams.ensures.stream;
      within = c.seeded_streams.ensures.within;
      rank = c.seeded_streams.ensures.rank;
      truth = c.seeded_streams.ensures.truth;
      file = c.seeded_streams.ensures.file;
    }) _ _ c.perform-outcome.ensures.run

pub returns-clause-relayed : goal.returns-clause-relayed
returns-clause-relayed g c = complete.relayed _ _ _ _ _ _ _ _ c.perform-outcome.result c.incomplete.ensures.one c.incomplete.ensures.not_full c.readings.ensures.not_both c.readings.ensures.one_fault _ _ c.perform-outcome.ensures.run
