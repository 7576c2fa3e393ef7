use Rattle.std.proofs.Common.{◌≡◌, length}
use Rattle.narrow_solve.specs.Lanes.{IsOperated}
use Rattle.narrow_solve.proofs.lanes.each.Given as goal

abbrev pub invariant-loop-v : goal.invariant-loop-v
invariant-loop-v l = record {
  long : length l.lanes ≡ 256;
  each : IsOperated l.op l.first l.second l.v l.lanes;
}
