use Rattle.report_laws.proofs.LawLemmas.{choice_has_trace, own_is_choice, none_is_empty}
use Rattle.report_laws.proofs.choices_have_the_trace.Goals as goal

pub returns : goal.returns
returns c = record {
  choices = choice_has_trace c.conditions_hold_of_the_class.ensures.class c.conditions_are_proper.ensures.proper;
  own = own_is_choice c.conditions_hold_of_the_class.ensures.class c.conditions_are_proper.ensures.proper;
  filled = none_is_empty c.conditions_hold_of_the_class.ensures.class c.conditions_are_proper.ensures.proper;
}
