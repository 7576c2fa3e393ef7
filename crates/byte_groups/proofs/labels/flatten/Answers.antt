use Rattle.std.proofs.Common.{◌<◌, length, arith}
use Rattle.byte_groups.proofs.LabelLemmas.{join_the_same_then, halved, flat_more}
use Rattle.byte_groups.proofs.labels.flatten.Goals as goal

pub loop-place-preserved : goal.loop-place-preserved
loop-place-preserved c =
    let within : c.loop-place.place < length c.loop-place.parents = omega arith in
    record {
      same = join_the_same_then _ _ _ c.loop-place.invariant.same (halved c.loop-place.parents c.loop-place.invariant.same.parents c.loop-place.place within);
      flat = flat_more c.loop-place.parents c.loop-place.invariant.same.parents c.loop-place.place within c.loop-place.invariant.flat;
    }
