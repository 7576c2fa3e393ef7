use Rattle.input_laws.proofs.Freed.{filled}
use Rattle.input_laws.proofs.set_with_a_byte_is_filled.Goals as goal

pub returns : goal.returns
returns c = filled
