use Rattle.elf32.proofs.Addresses.{common_of_share, share_of_common}
use Rattle.elf32.proofs.laws.share_is_a_common_address.Goals as goal

pub returns : goal.returns
returns c = λ s t. (common_of_share s t, share_of_common s t)
