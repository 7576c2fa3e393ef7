use Rattle.report_laws.proofs.LawLemmas.{bounds_the_class}
use Rattle.report_laws.proofs.revealed_bounds_the_class.Goals as goal

pub returns : goal.returns
returns c = bounds_the_class c.conditions_hold_of_the_class.ensures.class c.conditions_are_proper.ensures.proper
