use Rattle.std.proofs.Common.{rules, ◌≡◌}
use Rattle.std.specs.Prelude.{slice_index}
use Rattle.narrow_solve.proofs.LaneLemmas.{lanes_of_other}
use Rattle.narrow_solve.proofs.lanes.of_input.Goals as goal

pub returns-else-i-place : goal.returns-else-i-place
returns-else-i-place c =
    let is : c.from.result ≡ slice_index c.args.input.now c.args.i = search rules in
    lanes_of_other c.args.input.now c.args.i c.args.place c.from.result c.if-i-place.false is
