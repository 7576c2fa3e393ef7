use Rattle.memory_laws.proofs.Writes.{rights_kept}
use Rattle.memory_laws.proofs.placed_keeps_rights.Goals as goal

pub returns : goal.returns
returns c = λ m a bs q. rights_kept bs m a q
