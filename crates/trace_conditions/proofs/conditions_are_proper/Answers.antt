use Rattle.trace_conditions.specs.Conditions.{conditions_of}
use Rattle.replay_law.proofs.Runs.{conditions_proper}
use Rattle.trace_conditions.proofs.Maker.{norm_maker, norm_careful}
use Rattle.trace_conditions.proofs.conditions_are_proper.Goals as goal

pub returns : goal.returns
unfolding conditions_of
returns c = record {
  proper = conditions_proper (norm_maker c.normal_form_is_normal.ensures c.normal_form_keeps_the_value.ensures c.values_are_words.ensures.words)
      (norm_careful c.closed_terms_are_constants.ensures) c.same_trees_are_equal.ensures.equal c.same_trees_are_equal.ensures.itself;
}
