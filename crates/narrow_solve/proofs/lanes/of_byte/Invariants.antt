use Rattle.std.proofs.Common.{◌≡◌, length}
use Rattle.narrow_solve.specs.Lanes.{IsCounted}
use Rattle.narrow_solve.proofs.lanes.of_byte.Given as goal

abbrev pub invariant-loop-v : goal.invariant-loop-v
invariant-loop-v l = record {
  long : length l.lanes ≡ 256;
  counted : IsCounted l.v l.lanes;
}
