-- The class of a run: the inputs with the same run.
use Rattle.std.specs.Prelude.{ℕ, List, Bool}
use Rattle.elf32.specs.Loads.{Program}
use Rattle.rv_event.specs.declared.transcript.Transcript.{Transcript}
use Rattle.rv_event.specs.Same.{same_transcript}
use Rattle.rv_machine.specs.Trace.{transcript_of}

-- whether the program's run on an input, for at most `limit` steps, tells the same
unfoldable pub in_class : Program → ℕ → Transcript → List ℕ → Bool
in_class program limit transcript input = same_transcript (transcript_of program input limit) transcript
