-- The conditions of a run, by terms in normal form.
use Rattle.std.specs.Prelude.{List}
use Rattle.elf32.specs.Loads.{Program}
use Rattle.rv_event.specs.declared.transcript.Transcript.{Transcript}
use Rattle.term_model.specs.Tree.{Tree}
use Rattle.normal_form.specs.Norm.{norm}
use Rattle.replay_law.specs.Follow.{conditions}

-- the conditions of a run of a program, from the program and what the run tells alone
unfoldable pub conditions_of : Program → Transcript → List Tree
conditions_of program run = conditions norm program run
