use Rattle.group_tests.proofs.EightLemmas.{eight_possible, eight_meets}
use Rattle.group_tests.proofs.narrow.has_ten_values.Goals as goal

pub first_narrow-first-requires-clause-possible : goal.first_narrow-first-requires-clause-possible
first_narrow-first-requires-clause-possible c = eight_possible _ c.in_ok-group.ensures.possible

pub narrow_sets-sets-requires-clause-meets : goal.narrow_sets-sets-requires-clause-meets
narrow_sets-sets-requires-clause-meets c = eight_meets _ _ c.in_ok-group.ensures.places c.in_ok-group.ensures.possible
