use Rattle.rv_event.proofs.SameLemmas.{same_transcript-Decides}
use Rattle.rv_event.proofs.transcript.same_transcripts_are_equal.Goals as goal

pub returns : goal.returns
returns c = same_transcript-Decides
