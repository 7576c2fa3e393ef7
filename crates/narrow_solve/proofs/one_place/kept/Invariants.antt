use Rattle.std.proofs.Common.{◌≡◌, length}
use Rattle.narrow_solve.specs.Lanes.{AreKept}
use Rattle.narrow_solve.proofs.one_place.kept.Given as goal

abbrev pub invariant-loop-v : goal.invariant-loop-v
invariant-loop-v l = record {
  long : length l.kept ≡ 256;
  kept : AreKept l.passes l.lanes l.v l.kept;
}
