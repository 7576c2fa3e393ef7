use Rattle.bit_blast.proofs.WalkLemmas.{stay}
use Rattle.bit_blast.proofs.walk.rows_stay.Goals as goal

pub returns : goal.returns
returns c = stay
