use Rattle.memory_laws.proofs.Writes.{bytes_read}
use Rattle.memory_laws.proofs.placed_bytes_are_read.Goals as goal

pub returns : goal.returns
returns c = λ m a bs i f l h there. bytes_read bs m a i f l h there
