use Rattle.memory_laws.proofs.Ranges.{each_of_all, all_of_each}
use Rattle.memory_laws.proofs.ranges_by_address.Goals as goal

pub returns : goal.returns
returns c = λ r m a n f. (each_of_all n r a m f, all_of_each n r a m f)
