use Rattle.trace_conditions.specs.Conditions.{conditions_of}
use Rattle.replay_law.proofs.Runs.{conditions_lawful}
use Rattle.trace_conditions.proofs.Maker.{norm_maker}
use Rattle.trace_conditions.proofs.conditions_hold_of_the_class.Goals as goal

pub returns : goal.returns
unfolding conditions_of
returns c = record {
  class = conditions_lawful (norm_maker c.normal_form_is_normal.ensures c.normal_form_keeps_the_value.ensures c.values_are_words.ensures.words)
      c.same_trees_are_equal.ensures.equal c.same_transcripts_are_equal.ensures;
}
