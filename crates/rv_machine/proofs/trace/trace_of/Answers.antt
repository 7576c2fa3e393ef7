use Rattle.elf32.specs.Loads.{program_of}
use Rattle.rv_machine.proofs.Traces.{tells, tells_length}
use Rattle.rv_machine.proofs.trace.trace_of.Goals as goal

pub returns-clause-run : goal.returns-clause-run
returns-clause-run c = tells (program_of c.args.image.now) _ _ _ c.transcribe.result c.in_ok-machine.ensures.state c.transcribe.ensures.n c.transcribe.ensures.events c.transcribe.ensures.end

pub returns-clause-length : goal.returns-clause-length
returns-clause-length c = tells_length _ _ _ c.transcribe.result c.transcribe.ensures.events
