use Rattle.set_laws.proofs.ByteSets.{all_bytes}
use Rattle.set_laws.proofs.sets_have_bytes_alone.Goals as goal

pub returns : goal.returns
returns c = all_bytes
