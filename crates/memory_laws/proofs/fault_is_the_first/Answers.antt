use Rattle.memory_laws.proofs.Ranges.{first_is, is_first}
use Rattle.memory_laws.proofs.fault_is_the_first.Goals as goal

pub returns : goal.returns
returns c = λ r m a n fault f. (first_is n r a fault m f, is_first n r a fault m f)
