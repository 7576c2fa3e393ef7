use Rattle.replay_law.proofs.Runs.{conditions_proper}
use Rattle.replay_law.proofs.conditions_are_proper.Goals as goal

pub returns : goal.returns
returns c = record { proper = λ made is_made m k. conditions_proper m k c.same_trees_are_equal.ensures.equal c.same_trees_are_equal.ensures.itself }
