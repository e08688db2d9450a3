-- How a refusal of a sink ends a whole write.
use Rattle.swarm_io.specs.declared.sink.SinkRefusal.{SinkRefusal}
use Rattle.swarm_io.specs.declared.sink.SinkRefusal.TheVariants.{Failed, Memory}
use Rattle.swarm_io.specs.declared.writing.WriteAllError.{WriteAllError}
use Rattle.swarm_io.specs.declared.writing.WriteAllError.TheVariants.{WriteFault, Memory as OutOfMemory}

-- the error that a refusal becomes
abbrev pub write_error_of : SinkRefusal → WriteAllError
write_error_of Failed = WriteFault
write_error_of Memory = OutOfMemory
