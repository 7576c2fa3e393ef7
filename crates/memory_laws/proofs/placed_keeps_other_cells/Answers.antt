use Rattle.memory_laws.proofs.Writes.{others_kept}
use Rattle.memory_laws.proofs.placed_keeps_other_cells.Goals as goal

pub returns : goal.returns
returns c = λ m a bs q f h. others_kept bs m a q f h
