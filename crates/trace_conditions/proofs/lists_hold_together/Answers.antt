use Rattle.replay_law.proofs.Kept.{kept_hold, before_kept, kept_give}
use Rattle.trace_conditions.proofs.lists_hold_together.Goals as goal

pub returns : goal.returns
returns c = record {
  together = λ ts more y. (λ h. (before_kept y ts more h, kept_give c.same_trees_are_equal.ensures.equal y ts more h), λ p. kept_hold y ts more p.0 p.1);
}
