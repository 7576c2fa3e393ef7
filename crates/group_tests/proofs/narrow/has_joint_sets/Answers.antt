use Rattle.std.proofs.Common.{[], ◌∷◌}
use Rattle.group_tests.proofs.SumLemmas.{has_pair}
use Rattle.group_tests.proofs.narrow.has_joint_sets.Goals as goal

pub narrow_sets-sets-requires-clause-meets : goal.narrow_sets-sets-requires-clause-meets
narrow_sets-sets-requires-clause-meets c = (0 ∷ 1 ∷ [], rw c.in_ok-group.ensures.places (has_pair 1), c.in_ok-group.ensures.possible)
