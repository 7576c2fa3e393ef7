use Rattle.elf32.proofs.Addresses.{common_of_overlap, overlap_of_common}
use Rattle.elf32.proofs.laws.overlap_is_a_common_address.Goals as goal

pub returns : goal.returns
returns c = λ ss. (common_of_overlap ss, overlap_of_common ss)
