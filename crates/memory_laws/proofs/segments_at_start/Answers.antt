use Rattle.memory_laws.proofs.Starts.{in_segment_is}
use Rattle.memory_laws.proofs.segments_at_start.Goals as goal

pub returns : goal.returns
returns c = λ ss i a d loaded l on. in_segment_is ss i a d loaded l on
