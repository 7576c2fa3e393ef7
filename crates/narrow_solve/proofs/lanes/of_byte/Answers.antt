use Rattle.std.proofs.Common.{refl, ◌∙◌, arith}
use Rattle.std.proofs.lemmas.List.{length-set}
use Rattle.narrow_solve.proofs.LaneLemmas.{lane_more}
use Rattle.narrow_solve.proofs.lanes.of_byte.Goals as goal

pub loop-v-preserved : goal.loop-v-preserved
loop-v-preserved c = record {
  long = length-set c.loop-v.lanes c.loop-v.v c.loop-v.v ∙ c.loop-v.invariant.long;
  counted = lane_more (λ v. v) c.loop-v.lanes 0 c.loop-v.v c.loop-v.v (omega arith) c.loop-v.invariant.counted refl;
}
