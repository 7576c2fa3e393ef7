use Rattle.replay_law.proofs.Runs.{conditions_lawful}
use Rattle.replay_law.proofs.conditions_hold_of_the_class.Goals as goal

pub returns : goal.returns
returns c = record { class = λ made is_made m. conditions_lawful m c.same_trees_are_equal.ensures.equal c.same_transcripts_are_equal.ensures }
