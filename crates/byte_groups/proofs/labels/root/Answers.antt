use Rattle.std.proofs.Common.{◌<◌, ◌≤◌, length, ◌∙◌, arith}
use Rattle.std.specs.Prelude.{slice_index}
use Rattle.byte_groups.proofs.LabelLemmas.{join_the_same_then, halved, halved_roots}
use Rattle.byte_groups.proofs.labels.root.Goals as goal

pub loop-at-preserved : goal.loop-at-preserved
loop-at-preserved c =
    let within : c.loop-at.at < length c.loop-at.parents = omega arith in
    let first : slice_index c.loop-at.parents c.loop-at.at ≤ c.loop-at.at = c.loop-at.invariant.same.parents c.loop-at.at within in
    let above_in : slice_index c.loop-at.parents c.loop-at.at < length c.loop-at.parents = omega arith in
    let second : slice_index c.loop-at.parents (slice_index c.loop-at.parents c.loop-at.at) ≤ slice_index c.loop-at.parents c.loop-at.at = c.loop-at.invariant.same.parents (slice_index c.loop-at.parents c.loop-at.at) above_in in
    record {
      below = omega (arith, first, second);
      same = join_the_same_then _ _ _ c.loop-at.invariant.same (halved c.loop-at.parents c.loop-at.invariant.same.parents c.loop-at.at within);
      joined = λ side h.
          let now = c.loop-at.invariant.same.later side h in
          c.loop-at.invariant.joined side h ∙ (now c.loop-at.at within ∙ now (slice_index c.loop-at.parents c.loop-at.at) above_in);
      roots = λ k e. halved_roots c.loop-at.parents c.loop-at.invariant.same.parents c.loop-at.at within c.if-above-at.false k (slice_index c.loop-at.parents (slice_index c.loop-at.parents c.loop-at.at)) (c.loop-at.invariant.roots k e);
    }
