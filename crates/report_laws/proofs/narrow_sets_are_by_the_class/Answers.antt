use Rattle.report_laws.proofs.LawLemmas.{are_by_the_class}
use Rattle.report_laws.proofs.narrow_sets_are_by_the_class.Goals as goal

pub returns : goal.returns
returns c = are_by_the_class c.conditions_hold_of_the_class.ensures.class c.conditions_are_proper.ensures.proper
