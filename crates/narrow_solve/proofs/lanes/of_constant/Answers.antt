use Rattle.narrow_solve.proofs.LaneLemmas.{lanes_of_constant}
use Rattle.narrow_solve.proofs.lanes.of_constant.Goals as goal

pub returns : goal.returns
returns c = λ input place. lanes_of_constant c.args.value input place
