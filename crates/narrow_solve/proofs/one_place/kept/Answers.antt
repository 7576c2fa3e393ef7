use Rattle.std.proofs.Common.{Bool, false, ◌&&◌, refl, ◌∙◌, arith}
use Rattle.std.specs.Prelude.{nat_eq, slice_index, slice_index_or}
use Rattle.std.proofs.lemmas.List.{length-set}
use Rattle.narrow_solve.proofs.LaneLemmas.{lane_more}
use Rattle.narrow_solve.proofs.one_place.kept.Goals as goal

pub loop-v-preserved : goal.loop-v-preserved
loop-v-preserved c =
    let own : Bool = slice_index_or c.args.passes.now c.loop-v.v false && nat_eq (slice_index c.args.lanes.now c.loop-v.v) 1 in
    record {
      long = length-set c.loop-v.kept c.loop-v.v own ∙ c.loop-v.invariant.long;
      kept = lane_more (λ v. slice_index_or c.args.passes.now v false && nat_eq (slice_index c.args.lanes.now v) 1) c.loop-v.kept false c.loop-v.v own (omega arith) c.loop-v.invariant.kept refl;
    }
