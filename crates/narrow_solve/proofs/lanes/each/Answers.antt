use Rattle.std.proofs.Common.{◌∙◌, arith}
use Rattle.std.specs.Prelude.{slice_index}
use Rattle.std.proofs.lemmas.List.{length-set}
use Rattle.term_model.specs.Value.{op_value}
use Rattle.narrow_solve.proofs.LaneLemmas.{lane_more}
use Rattle.narrow_solve.proofs.lanes.each.Goals as goal

pub loop-v-preserved : goal.loop-v-preserved
loop-v-preserved c = record {
  long = length-set c.loop-v.lanes c.loop-v.v c.value.result ∙ c.loop-v.invariant.long;
  each = lane_more (λ v. op_value c.args.op (slice_index c.args.first.now v) (slice_index c.args.second.now v)) c.loop-v.lanes 0 c.loop-v.v c.value.result (omega arith) c.loop-v.invariant.each c.value.ensures.value;
}
